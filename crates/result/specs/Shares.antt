-- What the samples hold of the result at n, by the taps xs.
--   share_in xs f n p            sample p, by its weight
--   Summable xs f n start end   what the sum from start up to end asks: no share before start, a weight for every sample, and room for every sum
--   Pointable ss n f            what the result at n asks: the bounds hold under some bound on the samples within reach
-- Laws: share_next, shares_fit (one share more); summable, summed_result (by taps that hold the kernel, those within reach make the result);
-- divisible (the result and the divisor are as small as a division asks).
use Rattle.std.specs.Prelude.{ℕ, ◌+◌, ◌≤◌, ◌<◌, ◌≡◌, List, length, ℤ, pos, nat_abs, ◌+ℤ◌, ◌*ℤ◌}
use Rattle.std.proofs.Common.{sym, ◌∙◌, ap, add-one, arith, SFits}
use Rattle.std.specs.Int.{w64}
use Rattle.algebra.specs.Size.{Abs, abs_weaken, abs_rest, fits_abs}
use Rattle.algebra.specs.Sum.{sum, sum_ext, sum_none}
use Rattle.meaning.specs.Limits.{least, max_result}
use Rattle.meaning.specs.Extension.{at, fold}
use Rattle.meaning.specs.Kernel.{Stage, reach}
use Rattle.meaning.specs.Smoothing.{result, apart}
use Rattle.meaning.specs.Refusals.{plan_divisor}
use Rattle.meaning.specs.Bounds.{AllowedLength}
use Rattle.theory.specs.HalfSample.{half_sample, half_sample_near}
use Rattle.theory.specs.Accepted.{length_accepted, accepted_divisor, divisor_allowed}
use Rattle.theory.specs.Shares.{share, share_outside, shares_result, shares_size, near_size}
use Rattle.refusals.specs.Span.{low, high}
use Rattle.taps.specs.Taps.{Held}
use Rattle.taps.specs.Weigh.{weight_in, Weighable, weight_held, weighable}

unfoldable pub share_in : List ℤ → List ℤ → ℕ → ℕ → ℤ
share_in xs f n p = weight_in xs (length f) n p *ℤ at f p

pub record Summable (xs f : List ℤ) (n start end : ℕ) : Type 0 where
  pub order : start ≤ end
  pub inside : end ≤ length f
  pub none : sum start (share_in xs f n) ≡ pos 0
  pub weights : (p : ℕ) → p < length f → Weighable xs (length f) n p
  pub sums : (p : ℕ) → p ≤ length f → Abs (sum p (share_in xs f n)) max_result

pub record Pointable (ss : List Stage) (n : ℕ) (f : List ℤ) : Type 0 where
  pub bound : ℕ
  pub common : AllowedLength ss bound (length f)
  pub place : n < length f
  pub samples : (p : ℕ) → p < length f → apart p n ≤ reach ss → nat_abs (at f p) ≤ bound

-- ---- one share more
module _ {xs f : List ℤ} {n start end : ℕ} (h : Summable xs f n start end) {p : ℕ} (l : p < length f) {s w x : ℤ} (so_far : s ≡ sum p (share_in xs f n)) (weighs : w ≡ weight_in xs (length f) n p) (reads : x ≡ at f p) where
  pub share_next : s +ℤ w *ℤ x ≡ sum (p + 1) (share_in xs f n)
  unfolding sum share_in
  share_next = rw (add-one, so_far, weighs, reads)

  pub shares_fit : SFits w64 (w *ℤ x) × SFits w64 (s +ℤ w *ℤ x)
  shares_fit =
      let before : Abs s max_result = rw so_far (h.sums p (omega arith)) in
      let after : Abs (s +ℤ w *ℤ x) max_result = rw share_next (h.sums (p + 1) (omega arith)) in
      (fits_abs (abs_rest before after) (omega arith), fits_abs after (omega arith))

-- ---- by the kernel
module _ {ss : List Stage} {xs f : List ℤ} {n : ℕ} (held : Held ss xs) (h : Pointable ss n f) {end : ℕ} (to : end ≡ high (length f) n (reach ss)) where
  share_held : (p : ℕ) → p < length f → share_in xs f n p ≡ share fold ss f n p
  unfolding share_in
  share_held p l = rw (weight_held ss xs held (length f) n p h.place l)

  pub summable : {start : ℕ} → start ≡ low n (reach ss) → Summable xs f n start end
  summable {start} from = record {
    order = omega (arith, h.place);
    inside = omega arith;
    none = sum_none start (λ p l. share_held p (omega (arith, h.place)) ∙ share_outside half_sample_near ss f h.place p (λ k. omega arith));
    weights = λ p l. weighable held h.common.count.1 h.place l (length_accepted h.common).divides;
    sums = λ p l. rw (sum_ext p {g = share fold ss f n} (λ i k. share_held i (omega arith))) (abs_weaken (shares_size half_sample_near ss f h.place half_sample h.samples p l) h.common.product);
  }

  pub summed_result : {r : ℤ} → r ≡ sum end (share_in xs f n) → r ≡ result fold ss f (pos n)
  summed_result e = e ∙ sum_ext end (λ i k. share_held i (omega arith)) ∙ ap (λ m. sum m (share fold ss f n)) to ∙ sym (shares_result half_sample_near ss f h.place half_sample)

-- ---- over the divisor
pub divisible : {ss : List Stage} {n : ℕ} {f : List ℤ} → Pointable ss n f → {r : ℤ} {d : ℕ} → r ≡ result fold ss f (pos n) → d ≡ plan_divisor ss → (nat_abs r ≤ max_result) × ((least ≤ d) × (d ≤ max_result))
divisible {ss} {n} {f} h e k =
    let ok = length_accepted h.common in
    let is = k ∙ accepted_divisor ss ok in
    (rw e (abs_weaken (near_size half_sample_near ss f h.place half_sample h.samples) h.common.product).bound, rw is (divisor_allowed ss ok.plan.stages, ok.divides))
