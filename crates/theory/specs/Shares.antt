-- What the samples hold of the result at n: only those within reach hold any of it.
--   share φ ss f n p   sample p, by its weight
-- Laws: share_outside (past the end, or beyond the reach); shares_result (those within reach make the result);
-- shares_size, near_size (of the first shares and of the result, where the samples within reach are of size up to M).
use Rattle.std.specs.Prelude.{◌≡◌, List, ℕ, ◌+◌, ◌*◌, ◌≤◌, ◌<◌, min, length, ℤ, pos, nat_abs, ◌*ℤ◌}
use Rattle.std.proofs.Common.{◌∙◌, mul-le-mul_left, le_refl, arith}
use Rattle.std.proofs.Math.Decide.{dec_lt, dec_le}
use Rattle.std.proofs.Math.IntN.{*ℤ-zero}
use Rattle.algebra.specs.Ring.{*ℤ-zero_l}
use Rattle.algebra.specs.Size.{Abs, abs_self, abs_weaken, abs-*}
use Rattle.algebra.specs.Sum.{sum, sum_wide, sum_part, sum_weighted}
use Rattle.meaning.specs.Extension.{at, IndexMap}
use Rattle.meaning.specs.Kernel.{Stage, reach, divisor}
use Rattle.meaning.specs.Smoothing.{result, weight, apart}
use Rattle.theory.specs.Folding.{Folding, Nearness}
use Rattle.theory.specs.Lists.{at_past}
use Rattle.theory.specs.Weights.{weight_nonneg, weight_sum, result_weights}
use Rattle.theory.specs.Local.{weight_outside}

abbrev pub share : IndexMap → List Stage → List ℤ → ℕ → ℕ → ℤ
share φ ss f n p = weight φ ss (length f) (pos n) p *ℤ at f p

module _ {φ : IndexMap} (C : Nearness φ) (ss : List Stage) (f : List ℤ) {n : ℕ} (h : n < length f) where
  pub share_outside : (p : ℕ) → (p < length f → reach ss < apart n p) → share φ ss f n p ≡ pos 0
  share_outside p far = go (dec_lt p (length f))
    where
      go : Dec (p < length f) → share φ ss f n p ≡ pos 0
      go (yes l) = *ℤ-zero_l (at f p) (weight_outside C ss n p h (far l))
      go (no l) = rw (at_past f p (omega arith)) (*ℤ-zero (weight φ ss (length f) (pos n) p))

  module _ (F : Folding φ) where
    pub shares_result : result φ ss f (pos n) ≡ sum (min (length f) (n + reach ss + 1)) (share φ ss f n)
    shares_result = result_weights F ss f (pos n) ∙ sum_wide (min (length f) (n + reach ss + 1)) (length f) (share φ ss f n) (omega arith) (λ p l. share_outside p (λ k. omega arith))

    -- no weight is negative, and all of them make the divisor
    module _ {M : ℕ} (small : (p : ℕ) → p < length f → apart p n ≤ reach ss → nat_abs (at f p) ≤ M) where
      share_size : (p : ℕ) → p < length f → Abs (share φ ss f n p) (M * nat_abs (weight φ ss (length f) (pos n) p))
      share_size p l = go (dec_le (apart p n) (reach ss))
        where
          go : Dec (apart p n ≤ reach ss) → Abs (share φ ss f n p) (M * nat_abs (weight φ ss (length f) (pos n) p))
          go (yes k) = abs_weaken (abs-* (abs_self (weight φ ss (length f) (pos n) p)) (record { bound = small p l k })) (omega arith)
          go (no k) = rw (share_outside p (λ t. omega arith)) (omega arith)

      pub shares_size : (m : ℕ) → m ≤ length f → Abs (sum m (share φ ss f n)) (M * divisor ss)
      shares_size m l =
          let nonneg = weight_nonneg φ ss (length f) (pos n) in
          let all : Abs (sum (length f) (weight φ ss (length f) (pos n))) (divisor ss) = rw (weight_sum F ss {N = length f} (omega arith) (pos n)) (abs_self (pos (divisor ss))) in
          abs_weaken (sum_weighted m M nonneg (λ p k. share_size p (omega arith))) (mul-le-mul_left M (sum_part m (length f) l nonneg all).bound)

      pub near_size : Abs (result φ ss f (pos n)) (M * divisor ss)
      near_size = rw (result_weights F ss f (pos n)) (shares_size (length f) (le_refl (length f)))
