-- The weight of a sample, by strided sums of taps.
--   strided_in xs start step   xs at start, start + step, start + 2 step, .. summed
--   weight_in xs N n p         the weight of sample p of N in the result at n, by the taps xs: at its images, on either side
--   Stridable, Weighable      what the two ask
--   one, two, three           the first, the first two and the first three of the four sums of a weight
-- Laws: strided_fits, strided_next, strided_rest, strided_end (a strided sum, tap by tap);
-- first, second, third, fourth (what each of the four sums asks); weight_held (it is the weight, where xs holds the kernel), weighable (what that asks).
use Rattle.std.specs.Prelude.{ℕ, suc, ◌+◌, ◌*◌, ◌-◌, ◌≤◌, ◌<◌, ◌≡◌, List, length, ℤ, pos, ◌≤ℤ◌}
use Rattle.std.proofs.Math.Path.{sym, ap, ap₂}
use Rattle.std.proofs.Common.{◌∙◌, SFits}
use Rattle.std.proofs.Math.Nat.{le-mul_of_pos_right}
use native.Mathlib.Omega.{arith}
use Rattle.std.proofs.Math.IntN.{◌+ℤ◌, +ℤ_idl, +ℤ_idr, +ℤ_assoc}
use Rattle.std.specs.Int.{w64}
use Rattle.algebra.specs.Order.{nonneg_pos, nonneg-+}
use Rattle.algebra.specs.Size.{Abs, abs_weaken, abs_part, fits_abs}
use Rattle.algebra.specs.Sum.{sum, sum_ext, sum_none, sum_next, sum_same, sum_nonneg}
use Rattle.meaning.specs.Limits.{max_result, max_length}
use Rattle.meaning.specs.Extension.{at, fold}
use Rattle.meaning.specs.Kernel.{Stage, width, divisor}
use Rattle.meaning.specs.Smoothing.{weight, apart}
use Rattle.theory.specs.Lists.{at_past}
use Rattle.theory.specs.Kernel.{kernel_beyond}
use Rattle.theory.specs.Sizes.{weight_size}
use Rattle.theory.specs.Images.{strided, weight_images}
use Rattle.taps.specs.Taps.{Held, held_nonneg}

unfoldable pub strided_in : List ℤ → ℕ → ℕ → ℤ
strided_in xs start step = sum (length xs) (λ i. at xs (start + i * step))

unfoldable pub weight_in : List ℤ → ℕ → ℕ → ℕ → ℤ
weight_in xs N n p = strided_in xs (apart n p) (2 * N) +ℤ strided_in xs (2 * N - apart n p) (2 * N) +ℤ strided_in xs (n + p + 1) (2 * N) +ℤ strided_in xs (2 * N - (n + p + 1)) (2 * N)

-- no tap is negative, so that no partial sum is larger than the whole
pub record Stridable (xs : List ℤ) (start step : ℕ) (before : ℤ) : Type 0 where
  pub some : 0 < step
  pub few : step ≤ 2 * max_length
  pub nonneg : (m : ℕ) → pos 0 ≤ℤ at xs m
  pub so_far : pos 0 ≤ℤ before
  pub size : Abs (before +ℤ strided_in xs start step) max_result

pub record Weighable (xs : List ℤ) (N n p : ℕ) : Type 0 where
  pub few : N ≤ max_length
  pub result : n < N
  pub sample : p < N
  pub nonneg : (m : ℕ) → pos 0 ≤ℤ at xs m
  pub size : Abs (weight_in xs N n p) max_result

-- ---- a strided sum, tap by tap
module _ (xs : List ℤ) (i step : ℕ) (some : 0 < step) where
  -- as many steps as xs has taps go past its end
  past : (k : ℕ) → length xs ≤ i + k → at xs (i + k * step) ≡ pos 0
  past k h = at_past xs _ (omega (arith, le-mul_of_pos_right k some))

  strided_in_next : strided_in xs i step ≡ at xs i +ℤ strided_in xs (i + step) step
  unfolding strided_in
  strided_in_next = sum_next (length xs) _ (past (length xs) (omega arith)) ∙ ap₂ ◌+ℤ◌ (ap (at xs) here) (sum_ext (length xs) (λ k l. ap (at xs) (later k)))
    where
      here : i + 0 * step ≡ i
      here = omega arith

      later : (k : ℕ) → i + suc k * step ≡ i + step + k * step
      later k = omega arith

strided_in_nonneg : (xs : List ℤ) → ((m : ℕ) → pos 0 ≤ℤ at xs m) → (i step : ℕ) → pos 0 ≤ℤ strided_in xs i step
unfolding strided_in
strided_in_nonneg xs h i step = sum_nonneg (length xs) (λ k l. h (i + k * step))

module _ {xs : List ℤ} {i step : ℕ} {s : ℤ} (h : Stridable xs i step s) where
  pub strided_end : length xs ≤ i → s ≡ s +ℤ strided_in xs i step
  unfolding strided_in
  strided_end l = sym (ap (λ z. s +ℤ z) (sum_none (length xs) (λ k t. past xs i step h.some k (omega arith))) ∙ +ℤ_idr s)

  module _ {x : ℤ} (e : x ≡ at xs i) where
    pub strided_rest : s +ℤ x +ℤ strided_in xs (i + step) step ≡ s +ℤ strided_in xs i step
    strided_rest = rw (e, strided_in_next xs i step h.some) (+ℤ_assoc s (at xs i) (strided_in xs (i + step) step))

    pub strided_next : Stridable xs (i + step) step (s +ℤ x)
    strided_next = record { some = h.some; few = h.few; nonneg = h.nonneg; so_far = nonneg-+ h.so_far (rw e (h.nonneg i)); size = rw strided_rest h.size }

    pub strided_fits : SFits w64 (s +ℤ x)
    strided_fits = fits_abs (abs_part strided_next.so_far (strided_in_nonneg xs h.nonneg (i + step) step) strided_next.size) (omega arith)

-- ---- the four sums of a weight, each on top of those before
module _ (xs : List ℤ) (N n p : ℕ) where
  abbrev pub one : ℤ
  one = strided_in xs (apart n p) (2 * N)

  abbrev pub two : ℤ
  two = one +ℤ strided_in xs (2 * N - apart n p) (2 * N)

  abbrev pub three : ℤ
  three = two +ℤ strided_in xs (n + p + 1) (2 * N)

module _ {xs : List ℤ} {N n p : ℕ} (w : Weighable xs N n p) where
  nonneg : (start : ℕ) → pos 0 ≤ℤ strided_in xs start (2 * N)
  nonneg start = strided_in_nonneg xs w.nonneg start (2 * N)

  nonneg_two : pos 0 ≤ℤ two xs N n p
  nonneg_two = nonneg-+ (nonneg _) (nonneg _)

  nonneg_three : pos 0 ≤ℤ three xs N n p
  nonneg_three = nonneg-+ nonneg_two (nonneg _)

  size_three : Abs (three xs N n p) max_result
  unfolding weight_in
  size_three = abs_part nonneg_three (nonneg _) w.size

  size_two : Abs (two xs N n p) max_result
  size_two = abs_part nonneg_two (nonneg _) size_three

  stridable : {start : ℕ} {s : ℤ} → pos 0 ≤ℤ s → Abs (s +ℤ strided_in xs start (2 * N)) max_result → Stridable xs start (2 * N) s
  stridable h k = record { some = omega (arith, w.sample); few = omega (arith, w.few); nonneg = w.nonneg; so_far = h; size = k }

  pub first : Stridable xs (apart n p) (2 * N) (pos 0)
  first = stridable nonneg_pos (rw (+ℤ_idl (one xs N n p)) (abs_part (nonneg _) (nonneg _) size_two))

  pub second : Stridable xs (2 * N - apart n p) (2 * N) (one xs N n p)
  second = stridable (nonneg _) size_two

  pub third : Stridable xs (n + p + 1) (2 * N) (two xs N n p)
  third = stridable nonneg_two size_three

  pub fourth : Stridable xs (2 * N - (n + p + 1)) (2 * N) (three xs N n p)
  unfolding weight_in
  fourth = stridable nonneg_three w.size

-- ---- where xs holds the kernel
module _ (ss : List Stage) (xs : List ℤ) (held : Held ss xs) where
  strided_held : (N : ℕ) → 0 < N → (start : ℕ) → strided_in xs start (2 * N) ≡ strided ss N start
  unfolding strided_in strided
  strided_held N some start =
      let twice : 0 < 2 * N = omega arith in
      sum_same (length xs) (suc (width ss)) _ (λ i l. past xs start (2 * N) twice i (omega arith)) (λ i l. held.tap _ ∙ kernel_beyond ss _ (omega (arith, le-mul_of_pos_right i twice)))
      ∙ sum_ext (suc (width ss)) (λ i l. held.tap (start + i * (2 * N)))

  pub weight_held : (N n p : ℕ) → n < N → p < N → weight_in xs N n p ≡ weight fold ss N (pos n) p
  unfolding weight_in
  weight_held N n p h k = simp (strided_held N (omega arith)) (sym (weight_images ss N n p h k))

pub weighable : {ss : List Stage} {xs : List ℤ} → Held ss xs → {N n p : ℕ} → N ≤ max_length → n < N → p < N → divisor ss ≤ max_result → Weighable xs N n p
weighable {ss} {xs} held {N} {n} {p} few h k room = record {
  few = few;
  result = h;
  sample = k;
  nonneg = held_nonneg held;
  size = rw (weight_held ss xs held N n p h k) (abs_weaken (weight_size fold ss N (pos n) p) room);
}
