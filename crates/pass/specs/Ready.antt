-- What a pass asks, and how far it has come.
--   Summable k src           room for every sum of up to k cells, and for k
--   Passable p src n         one pass of p from src into n cells: as many cells, and room for every sum of the pass
--   CellFits b a w lo hi     a window w and the cells lo and hi beside it, weighed by b and a: every number on the way fits
--   SlideFits w hi first     the window w, as hi enters it and first leaves: the same
--   Reached p src dst n w    the first n cells of dst are written, and w is the window around n
--   Beside p N n low high    where the two cells beside the window around n stand, in the extension of N cells
use Rattle.std.specs.Prelude.{ℕ, ◌+◌, ◌*◌, ◌^◌, ◌≤◌, ◌<◌, ◌≡◌, List, length, take, ℤ, pos, ◌+ℤ◌, ◌-ℤ◌, ◌*ℤ◌}
use Rattle.std.specs.Int.{w64}
use Rattle.std.proofs.Common.{SFits}
use Rattle.meaning.specs.Limits.{max_result}
use Rattle.meaning.specs.Extension.{fold, ext}
use Rattle.meaning.specs.Kernel.{tap_sum}
use Rattle.meaning.specs.Smoothing.{pass}
use Rattle.theory.specs.Lists.{Sized}
use Rattle.theory.specs.Slide.{window}
use Rattle.theory.specs.Walk.{Stands}
use Rattle.plan.specs.declared.Plan.{Plan}
use Rattle.plan.specs.Structs.{stage_of}
use Rattle.plan.specs.Tested.{Tested}

pub record Summable (k : ℕ) (src : List ℤ) : Type 0 where
  pub some : 1 ≤ length src
  pub few : k < 2 ^ 63
  pub largest : ℕ
  pub sized : Sized largest src
  pub room : k * largest ≤ max_result

pub record Passable (p : Plan) (src : List ℤ) (n : ℕ) : Type 0 where
  pub plan : Tested p
  pub some : 1 ≤ length src
  pub same : n ≡ length src
  pub largest : ℕ
  pub sized : Sized largest src
  pub room : largest * tap_sum (stage_of p) ≤ max_result

pub record CellFits (b a w lo hi : ℤ) : Type 0 where
  pub within : SFits w64 (b *ℤ w)
  pub pair : SFits w64 (lo +ℤ hi)
  pub beside : SFits w64 (a *ℤ (lo +ℤ hi))
  pub cell : SFits w64 (b *ℤ w +ℤ a *ℤ (lo +ℤ hi))

pub record SlideFits (w hi first : ℤ) : Type 0 where
  pub entered : SFits w64 (w +ℤ hi)
  pub left : SFits w64 (w +ℤ hi -ℤ first)

pub record Reached (p : Plan) (src dst : List ℤ) (n : ℕ) (w : ℤ) : Type 0 where
  pub sum : w ≡ window (ext fold src) p.radius (pos n)
  pub front : take n dst ≡ take n (pass fold (stage_of p) src)

pub record Beside (p : Plan) (N n low high : ℕ) : Type 0 where
  pub low_stands : Stands N (pos n -ℤ pos (p.radius + 1)) low
  pub high_stands : Stands N (pos (n + p.radius + 1)) high
