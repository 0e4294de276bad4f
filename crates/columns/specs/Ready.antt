-- What one pass down a picture of W columns and H rows asks, and its steps.
--   Passable p W H src n     one pass of p down src into n cells: as many cells, and room for every sum of the pass
--   passed p W H src         what that pass writes
--   line W H f x             column x of f, without ends
--   row_of W H f g            the row whose cell x is g of column x
--   added w src start row x  cell x of a row, with w times its cell of the row of src that begins at start
--   Addable w src start row  room for each of those
--   rows_added w W H k src row x  cell x of a row, with w times each of the first k cells of column x
--   RowsAddable w W H k src row  room for each of those, and k is within one period
--   sides s e k              k cells of e on either side of 0, each times the inner weight: twice those from 0 on
--   Begins W H z i           the row that the extension has at z begins at i, and ends within the picture
--   Around p W H y a b c d   there is a row y + 1; at a, b, c and d begin the rows that leave or enter on the way to it from row y
--   stepped s v o i          a cell of the pass from v, the one above it, where the edges of the window change by o and what lies within by i
--   StepFits s v o i         every number on the way to that fits
use Rattle.std.specs.Prelude.{ℕ, ◌+◌, ◌*◌, ◌≤◌, ◌<◌, ◌≡◌, List, length, ℤ, pos, ◌+ℤ◌, ◌-ℤ◌, ◌*ℤ◌}
use Rattle.std.specs.Int.{w64}
use Rattle.std.proofs.Common.{SFits}
use Rattle.meaning.specs.Limits.{max_result, max_length}
use Rattle.meaning.specs.Extension.{at, fold, ext}
use Rattle.meaning.specs.Kernel.{Stage, tap_sum}
use Rattle.meaning.specs.Smoothing.{list_of, pass}
use Rattle.meaning.specs.Picture.{column, down}
use Rattle.theory.specs.Lists.{Sized}
use Rattle.theory.specs.Period.{up_to}
use Rattle.plan.specs.declared.Plan.{Plan}
use Rattle.plan.specs.Structs.{stage_of}
use Rattle.plan.specs.Tested.{Tested}

pub record Passable (p : Plan) (W H : ℕ) (src : List ℤ) (n : ℕ) : Type 0 where
  pub plan : Tested p
  pub wide : 1 ≤ W
  pub tall : 1 ≤ H
  pub few : W * H ≤ max_length
  pub cells : length src ≡ W * H
  pub same : n ≡ W * H
  pub largest : ℕ
  pub sized : Sized largest src
  pub room : largest * tap_sum (stage_of p) ≤ max_result

abbrev pub passed : Plan → ℕ → ℕ → List ℤ → List ℤ
passed p W H src = down (pass fold (stage_of p)) W H src

abbrev pub line : ℕ → ℕ → List ℤ → ℕ → ℤ → ℤ
line W H f x = ext fold (column W H f x)

abbrev pub row_of : ℕ → ℕ → List ℤ → ((ℤ → ℤ) → ℤ) → List ℤ
row_of W H f g = list_of W (λ x. g (line W H f x))

unfoldable pub added : ℤ → List ℤ → ℕ → List ℤ → ℕ → ℤ
added w src start row x = at row x +ℤ w *ℤ at src (start + x)

pub record Addable (w : ℤ) (src : List ℤ) (start : ℕ) (row : List ℤ) : Type 0 where
  pub inside : start + length row ≤ length src
  pub weighed : (x : ℕ) → x < length row → SFits w64 (w *ℤ at src (start + x))
  pub fits : (x : ℕ) → x < length row → SFits w64 (added w src start row x)

unfoldable pub rows_added : ℤ → ℕ → ℕ → ℕ → List ℤ → List ℤ → ℕ → ℤ
rows_added w W H k src row x = at row x +ℤ w *ℤ up_to (line W H src x) k

pub record RowsAddable (w : ℤ) (W H k : ℕ) (src row : List ℤ) : Type 0 where
  pub wide : 1 ≤ W
  pub few : W * H ≤ max_length
  pub cells : length src ≡ W * H
  pub long : length row ≡ W
  pub within : k ≤ 2 * H
  pub weight : ℕ
  pub is : w ≡ pos weight
  pub largest : ℕ
  pub sized : Sized largest src
  pub held : ℕ
  pub holds : Sized held row
  pub room : held + weight * (k * largest) ≤ max_result

unfoldable pub sides : Stage → (ℤ → ℤ) → ℕ → ℤ
sides s e k = pos (2 * s.inner) *ℤ up_to e k

pub record Begins (W H : ℕ) (z : ℤ) (i : ℕ) : Type 0 where
  pub is : i ≡ fold H z * W
  pub inside : i + W ≤ W * H

pub record Around (p : Plan) (W H y a b c d : ℕ) : Type 0 where
  pub below : y + 1 < H
  pub inside : y * W + W + W ≤ W * H
  pub low : Begins W H (pos y -ℤ pos (p.radius + 1)) a
  pub leaves : Begins W H (pos y -ℤ pos p.radius) b
  pub enters : Begins W H (pos (y + p.radius + 1)) c
  pub high : Begins W H (pos (y + p.radius + 2)) d

abbrev pub stepped : Stage → ℤ → ℤ → ℤ → ℤ
stepped s v o i = v +ℤ pos s.edge *ℤ o +ℤ (pos s.inner -ℤ pos s.edge) *ℤ i

pub record StepFits (s : Stage) (v o i : ℤ) : Type 0 where
  pub outer : SFits w64 (pos s.edge *ℤ o)
  pub between : SFits w64 (v +ℤ pos s.edge *ℤ o)
  pub inside : SFits w64 ((pos s.inner -ℤ pos s.edge) *ℤ i)
  pub cell : SFits w64 (stepped s v o i)
