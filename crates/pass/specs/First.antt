-- The first window of a pass: sums of the extension of f from 0 on.
-- Laws: fewer (room for fewer cells), sum_fits (one cell more), periods_fit (a period, q times);
-- sides_is, sides_fit (both sides of the window and the cell at the radius, which is q periods and t).
use Rattle.std.specs.Prelude.{ℕ, ◌+◌, ◌*◌, ◌≤◌, ◌<◌, ◌≡◌, refl, List, length, ℤ, pos, ◌+ℤ◌, ◌*ℤ◌}
use Rattle.std.proofs.Common.{sym, ◌∙◌, ap₂, le_trans, mul-le-mul_right, arith, SFits}
use Rattle.std.specs.Int.{w64}
use Rattle.algebra.specs.Size.{abs_self, abs-+, abs-*, fits_abs}
use Rattle.meaning.specs.Extension.{fold, ext}
use Rattle.theory.specs.Sizes.{ext_size}
use Rattle.theory.specs.Slide.{window}
use Rattle.theory.specs.Walk.{stands_periods, stands_ext}
use Rattle.theory.specs.Period.{up_to, up_to_next, up_to_size, up_to_periods, window_mirrored, ext_repeats, ext_mirrored}
use Rattle.pass.specs.Ready.{Summable}

pub fewer : {j k : ℕ} {f : List ℤ} → Summable k f → j ≤ k → Summable j f
fewer h l = record { some = h.some; few = omega (arith, h.few); largest = h.largest; sized = h.sized; room = le_trans (mul-le-mul_right h.largest l) h.room }

module _ (f : List ℤ) where
  abbrev e : ℤ → ℤ
  e = ext fold f

  pub sum_fits : {k : ℕ} → Summable k f → {i : ℕ} → i < k → SFits w64 (up_to e i +ℤ e (pos i))
  sum_fits h {i} l = rw (← up_to_next e i) (fits_abs (up_to_size (ext_size fold h.sized) (i + 1)) (omega (arith, mul-le-mul_right h.largest l, h.room)))

  pub periods_fit : (q : ℕ) → Summable (q * (2 * length f)) f → SFits w64 (pos q *ℤ up_to e (2 * length f))
  periods_fit q h = fits_abs (abs-* (abs_self (pos q)) (up_to_size (ext_size fold h.sized) (2 * length f))) (omega (arith, h.room))

  -- the locals of the first window
  module _ (q : ℕ) {t : ℕ} (l : t < 2 * length f) {periods part last : ℤ} (i : periods ≡ pos q *ℤ up_to e (2 * length f)) (j : part ≡ up_to e t) (k : last ≡ e (pos t)) where
    side_is : periods +ℤ part ≡ up_to e (q * (2 * length f) + t)
    side_is = ap₂ ◌+ℤ◌ i j ∙ sym (up_to_periods (ext_repeats f) q t)

    pub sides_is : periods +ℤ part +ℤ (periods +ℤ part) +ℤ last ≡ window e (q * (2 * length f) + t) (pos 0)
    sides_is = rw (side_is, k, stands_ext f (stands_periods q l refl)) (sym (window_mirrored (ext_mirrored f) (q * (2 * length f) + t)))

    pub sides_fit : Summable (2 * (q * (2 * length f) + t) + 1) f
        → SFits w64 (periods +ℤ part) × (SFits w64 (periods +ℤ part +ℤ (periods +ℤ part)) × SFits w64 (periods +ℤ part +ℤ (periods +ℤ part) +ℤ last))
    sides_fit h =
        let size = ext_size fold h.sized in
        let side = up_to_size size (q * (2 * length f) + t) in
        rw (side_is, k) (fits_abs side (omega (arith, h.room)), (fits_abs (abs-+ side side) (omega (arith, h.room)), fits_abs (abs-+ (abs-+ side side) (size _)) (omega (arith, h.room))))
