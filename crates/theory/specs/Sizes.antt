-- How large results grow: samples of size up to M give results of size up to M times the divisor, and so after every pass.
-- Laws: pass_at_size, convolved_size; kernel_size, weight_size (no tap and no weight is larger than the divisor); ext_size; result_size, results_size.
use Rattle.std.specs.Prelude.{Bool, true, false, cond, List, [], ◌∷◌, ℕ, ◌*◌, eqb, length, ℤ, pos, nat_abs, ◌-ℤ◌}
use Rattle.std.proofs.Common.{one-mul, mul-one, mul_comm, arith}
use Rattle.algebra.specs.Size.{Abs}
use Rattle.algebra.specs.Within.{within_weighted}
use Rattle.meaning.specs.Extension.{at, IndexMap, ext}
use Rattle.meaning.specs.Kernel.{Stage, kernel, width, tap_sum, divisor, pass_at}
use Rattle.meaning.specs.Smoothing.{convolved, result, results, weight}
use Rattle.theory.specs.Kernel.{kernel_none, kernel_cons, kernel_nonneg}
use Rattle.theory.specs.Convolution.{kernel_sum, pass_at_one}
use Rattle.theory.specs.Lists.{Sized, sized_list_of}

-- ---- of a row
pub convolved_size : (ss : List Stage) {M : ℕ} {e : ℤ → ℤ} → ((n : ℤ) → Abs (e n) M) → (n : ℤ) → Abs (convolved ss e n) (M * divisor ss)
unfolding convolved
convolved_size ss {M} {e} h n = rw (mul_comm M (divisor ss)) (rw (kernel_sum ss) at (within_weighted (width ss) M (kernel ss) (λ m. e (n -ℤ m)) (λ m l. kernel_nonneg ss m) (λ m l. h (n -ℤ m))))

pub pass_at_size : (s : Stage) {M : ℕ} {e : ℤ → ℤ} → ((n : ℤ) → Abs (e n) M) → (n : ℤ) → Abs (pass_at s e n) (M * tap_sum s)
unfolding divisor
pass_at_size s {M} {e} h n = rw (← pass_at_one s e n, ← mul-one (tap_sum s)) (convolved_size (s ∷ []) h n)

-- ---- of the kernel
one_size : (b : Bool) → Abs (pos (cond b 1 0)) 1
one_size true = omega arith
one_size false = omega arith

pub kernel_size : (ss : List Stage) (m : ℤ) → Abs (kernel ss m) (divisor ss)
unfolding divisor
kernel_size [] m = rw (kernel_none m) (one_size (eqb (nat_abs m) 0))
kernel_size (s ∷ ss) m = rw (kernel_cons s ss m, mul_comm (tap_sum s) (divisor ss)) (pass_at_size s (kernel_size ss) m)

pub weight_size : (φ : IndexMap) (ss : List Stage) (N : ℕ) (n : ℤ) (p : ℕ) → Abs (weight φ ss N n p) (divisor ss)
unfolding weight
weight_size φ ss N n p = rw (one-mul (divisor ss)) at (convolved_size ss (λ x. one_size (eqb (φ N x) p)) n)

-- ---- of a series
module _ (φ : IndexMap) {M : ℕ} {f : List ℤ} (h : Sized M f) where
  pub ext_size : (n : ℤ) → Abs (ext φ f n) M
  unfolding ext
  ext_size n = h.size (φ (length f) n)

  pub result_size : (ss : List Stage) (n : ℤ) → Abs (result φ ss f n) (M * divisor ss)
  unfolding result
  result_size ss n = convolved_size ss ext_size n

  pub results_size : (ss : List Stage) → Sized (M * divisor ss) (results φ ss f)
  unfolding results
  results_size ss = sized_list_of (length f) _ (λ n l. result_size ss (pos n))
