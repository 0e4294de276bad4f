-- Stages of one and the same tap row, whatever their radius: their passes, sums and kernels are the same.
--   SameTaps s t   the taps of s and t are equal at every offset
-- Laws: pass_at_same, tap_sum_same; kernel_same, divisor_same (of K equal stages).
use Rattle.std.specs.Prelude.{◌≡◌, refl, replicate, ℤ, pos, ◌-ℤ◌, ◌*ℤ◌}
use Rattle.std.proofs.Math.Path.{sym, ap}
use Rattle.std.proofs.Common.{◌∙◌, arith}
use Prim.Native.Nat.{ℕ, zero, suc, ◌+◌, ◌≤◌}
use Rattle.algebra.specs.Ring.{*ℤ-idr}
use Rattle.algebra.specs.Within.{sum_within, beyond-*, within_ext, within_wide}
use Rattle.meaning.specs.Kernel.{Stage, tap, pass_at, kernel, tap_sum, divisor}
use Rattle.theory.specs.Kernel.{tap_outside, tap_reach_width, kernel_cons}
use Rattle.theory.specs.Convolution.{pass_at_ext, pass_at_const}
use Rattle.theory.specs.Stages.{divisor_replicate}

abbrev pub SameTaps : Stage → Stage → Type 0
SameTaps s t = (m : ℤ) → tap s m ≡ tap t m

module _ (s t : Stage) (h : SameTaps s t) where
  pub pass_at_same : (e : ℤ → ℤ) (n : ℤ) → pass_at s e n ≡ pass_at t e n
  unfolding pass_at
  pass_at_same e n = wide s (omega arith) ∙ within_ext _ (λ j l. ap (λ z. z *ℤ e (n -ℤ j)) (h j)) ∙ sym (wide t (omega arith))
    where
      R : ℕ
      R = suc (s.radius + t.radius)

      wide : (u : Stage) → suc u.radius ≤ R → sum_within (suc u.radius) (λ j. tap u j *ℤ e (n -ℤ j)) ≡ sum_within R (λ j. tap u j *ℤ e (n -ℤ j))
      wide u l = sym (within_wide _ R _ l (beyond-* (λ j. e (n -ℤ j)) (λ m k. tap_outside u m (omega (arith, tap_reach_width u)))))

  pub tap_sum_same : tap_sum s ≡ tap_sum t
  tap_sum_same = let e : pos (tap_sum s) ≡ pos (tap_sum t) = sym (ones s) ∙ pass_at_same (λ x. pos 1) (pos 0) ∙ ones t in cc
    where
      ones : (u : Stage) → pass_at u (λ x. pos 1) (pos 0) ≡ pos (tap_sum u)
      ones u = pass_at_const u (pos 1) (pos 0) ∙ *ℤ-idr (pos (tap_sum u))

  pub kernel_same : (K : ℕ) (m : ℤ) → kernel (replicate K s) m ≡ kernel (replicate K t) m
  kernel_same zero m = refl
  kernel_same (suc K) m = kernel_cons s (replicate K s) m ∙ pass_at_ext s (kernel_same K) m ∙ pass_at_same (kernel (replicate K t)) m ∙ sym (kernel_cons t (replicate K t) m)

  pub divisor_same : (K : ℕ) → divisor (replicate K s) ≡ divisor (replicate K t)
  divisor_same K = rw (divisor_replicate K s, divisor_replicate K t, tap_sum_same)
