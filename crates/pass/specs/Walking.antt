-- The cells beside the window walk with it, in the extension of N cells.
-- Laws: beside_start, beside_next (one cell on), beside_end (where the window's far side meets the end);
-- leaves_at, enters_at (where what leaves the window stands, and what enters after the next); low_read, leaves_read, high_read (what is read there, of a series f);
-- walk_cell, walk_slide, walk_next, walk_low (a turn of a walk).
use Rattle.std.specs.Prelude.{ℕ, ◌+◌, ◌*◌, ◌-◌, ◌≤◌, ◌<◌, ◌≡◌, refl, List, length, set, ℤ, pos, ◌+ℤ◌, ◌-ℤ◌, ◌*ℤ◌}
use Rattle.std.proofs.Common.{◌∙◌, ap, arith}
use Rattle.algebra.specs.Difference.{diff, linear, sub_pos}
use Rattle.meaning.specs.Extension.{fold, ext}
use Rattle.theory.specs.Walk.{Stands, stands_here, stands_periods, stands_next, stands_mirror, stands_ext}
use Rattle.plan.specs.declared.Plan.{Plan}
use Rattle.plan.specs.Structs.{stage_of}
use Rattle.pass.specs.Ready.{Passable, CellFits, SlideFits, Reached, Beside}
use Rattle.pass.specs.Turn.{Turn, cell_fits, low_next, slide_fits, pass_room}
use Rattle.pass.specs.Course.{reached_next}

module _ {p : Plan} {N : ℕ} where
  pub beside_start : (q : ℕ) {t high : ℕ} → p.radius ≡ q * (2 * N) + t → t < 2 * N → Stands N (pos (t + 1)) high → Beside p N 0 (2 * N - 1 - t) high
  beside_start q e l s =
      let r = stands_periods q l e in
      record { low_stands = stands_mirror r (simp diff (omega linear)); high_stands = stands_next r s (ap pos (omega arith)) }

  pub beside_end : {n : ℕ} → n + (p.radius + 1) ≡ N → 2 * (p.radius + 1) ≤ N → Beside p N n (n - (p.radius + 1)) N
  beside_end {n} e l = record { low_stands = rw (sub_pos n (p.radius + 1) (omega arith)) (stands_here (omega arith)); high_stands = let i : n + p.radius + 1 ≡ N = omega arith in rw i (stands_here (omega arith)) }

  module _ {n low high : ℕ} (h : Beside p N n low high) where
    pub leaves_at : {k : ℕ} → Stands N (pos (low + 1)) k → Stands N (pos n -ℤ pos p.radius) k
    leaves_at s = stands_next h.low_stands s (simp diff (omega linear))

    pub enters_at : {m : ℕ} → Stands N (pos (high + 1)) m → Stands N (pos (n + p.radius + 2)) m
    enters_at t = stands_next h.high_stands t (ap pos (omega arith))

    pub beside_next : {k m : ℕ} → Stands N (pos (low + 1)) k → Stands N (pos (high + 1)) m → Beside p N (n + 1) k m
    beside_next s t = record { low_stands = stands_next h.low_stands s (simp diff (omega linear)); high_stands = stands_next h.high_stands t (ap pos (omega arith)) }

module _ {p : Plan} (f : List ℤ) {n low high : ℕ} (h : Beside p (length f) n low high) {x : ℤ} where
  pub low_read : x ≡ ext fold f (pos low) → x ≡ ext fold f (pos n -ℤ pos (p.radius + 1))
  low_read e = e ∙ stands_ext f h.low_stands

  pub leaves_read : {k : ℕ} → Stands (length f) (pos (low + 1)) k → x ≡ ext fold f (pos k) → x ≡ ext fold f (pos n -ℤ pos p.radius)
  leaves_read s e = e ∙ stands_ext f (leaves_at h s)

  pub high_read : x ≡ ext fold f (pos high) → x ≡ ext fold f (pos (n + p.radius + 1))
  high_read e = e ∙ stands_ext f h.high_stands

-- ---- a turn of a walk: what leaves the window is read at k, and what enters it at high
module _ {p : Plan} {f d : List ℤ} {N n low high k : ℕ} {w lo : ℤ} (h : Passable p f N) (s : Reached p f d n w) (b : Beside p (length f) n low high) (i : lo ≡ ext fold f (pos n -ℤ pos (p.radius + 1))) (t : Stands (length f) (pos (low + 1)) k) where
  walk_turn : Turn (stage_of p) (ext fold f) n (pos p.inner) (pos p.edge) w lo (ext fold f (pos k)) (ext fold f (pos high))
  walk_turn = record { inner = refl; edge = refl; sum = s.sum; low = i; leaves = leaves_read f b t refl; enters = high_read f b refl }

  pub walk_cell : CellFits (pos p.inner) (pos p.edge) w lo (ext fold f (pos high))
  walk_cell = cell_fits walk_turn (pass_room h)

  pub walk_slide : SlideFits w (ext fold f (pos high)) (ext fold f (pos k))
  walk_slide = slide_fits walk_turn (pass_room h)

  pub walk_next : length d ≡ length f → n < length f
      → Reached p f (set d n (pos p.inner *ℤ w +ℤ pos p.edge *ℤ (lo +ℤ ext fold f (pos high)))) (n + 1) (w +ℤ ext fold f (pos high) -ℤ ext fold f (pos k))
  walk_next e l = reached_next s walk_turn e l refl refl refl refl

  pub walk_low : ext fold f (pos k) ≡ ext fold f (pos (n + 1) -ℤ pos (p.radius + 1))
  walk_low = low_next walk_turn
