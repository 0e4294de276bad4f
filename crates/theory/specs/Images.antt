-- The weight of a sample, by its images: the places where the fold reads it.
--   strided ss N d   the taps at d, d + 2N, d + 4N, .. summed
-- Law: weight_images (four strided sums: the images of p lie so far from n, on either side, and every 2N on).
use Rattle.std.specs.Prelude.{◌≡◌, cond, List, ℕ, suc, ◌+◌, ◌*◌, ◌-◌, ◌≤◌, ◌<◌, eqb, negsuc, nat_abs, ◌-ℤ◌, ◌*ℤ◌}
use Rattle.std.proofs.Math.Path.{sym, ap, ap₂}
use Rattle.std.proofs.Common.{◌∙◌, mul-le-mul_left, arith, eq-eqb, ne_eqb}
use Rattle.std.proofs.Math.IntN.{ℤ, pos, neg_ℤ, ◌+ℤ◌, +ℤ_idr, +ℤ_assoc}
use Rattle.algebra.specs.Difference.{minus, rep, diff, linear}
use Rattle.algebra.specs.Ring.{ac, sub_back, *ℤ-zero_l}
use Rattle.algebra.specs.Order.{of+, of_neg}
use Rattle.algebra.specs.Size.{of_abs, nat_abs_neg, nat_abs_sub}
use Rattle.algebra.specs.Sum.{sum, sum_ext, sum-+, sum_next, sum_split, sum_blocks, sum_where}
use Rattle.algebra.specs.Within.{sum_within, beyond-*, within_ext, within_halves, within_neg, within_shift}
use Rattle.meaning.specs.Extension.{reflect, fold}
use Rattle.meaning.specs.Kernel.{Stage, kernel, width}
use Rattle.meaning.specs.Smoothing.{convolved, reads, weight, apart}
use Rattle.theory.specs.Kernel.{kernel_symmetric, kernel_beyond}
use Rattle.theory.specs.HalfSample.{reflect_min, fold_at, fold_negsuc}

unfoldable pub strided : List Stage → ℕ → ℕ → ℤ
strided ss N d = sum (suc (width ss)) (λ i. kernel ss (pos (d + i * (2 * N))))

-- ---- sums
-- w + 1 periods are a period longer than w
enough : (w N : ℕ) → 0 < N → w + 2 * N ≤ suc w * (2 * N)
enough w N h = omega (arith, mul-le-mul_left w h)

-- ---- over whole periods: in each, p and its mirror read p
module _ (N p : ℕ) (h : p < N) where
  period : (g : ℕ → ℤ) → sum (2 * N) (λ t. g t *ℤ pos (cond (eqb (reflect N t) p) 1 0)) ≡ g p +ℤ g (2 * N - suc p)
  period g = ap (λ n. sum n (λ t. g t *ℤ pos (cond (eqb (reflect N t) p) 1 0))) twice ∙ sum_split N N _ ∙ ap₂ ◌+ℤ◌ low (high ∙ ap g mirror)
    where
      twice : 2 * N ≡ N + N
      twice = omega arith

      -- one t of the range is read as p
      read : (f : ℕ → ℕ) (g : ℕ → ℤ) (q : ℕ) → q < N → f q ≡ p → ((t : ℕ) → t < N → f t ≡ p → t ≡ q) → sum N (λ t. g t *ℤ pos (cond (eqb (f t) p) 1 0)) ≡ g q
      read f g q l e k = sum_where N q g (λ t. eqb (f t) p) l (eq-eqb (f q) p e) (λ t m d. ne_eqb (f t) p (λ i. d (k t m i)))

      low : sum N (λ t. g t *ℤ pos (cond (eqb (reflect N t) p) 1 0)) ≡ g p
      low = read (reflect N) g p h (omega (arith, reflect_min N p)) (λ t l e. omega (arith, reflect_min N t))

      high : sum N (λ t. g (N + t) *ℤ pos (cond (eqb (reflect N (N + t)) p) 1 0)) ≡ g (N + (N - suc p))
      high = read (λ t. reflect N (N + t)) (λ t. g (N + t)) (N - suc p) (omega arith) (omega (arith, reflect_min N (N + (N - suc p)))) (λ t l e. omega (arith, reflect_min N (N + t)))

      mirror : N + (N - suc p) ≡ 2 * N - suc p
      mirror = omega arith

  periods : (k : ℕ) (g : ℕ → ℤ) → sum (k * (2 * N)) (λ x. g x *ℤ reads fold N p (pos x)) ≡ sum k (λ i. g (i * (2 * N) + p)) +ℤ sum k (λ i. g (i * (2 * N) + (2 * N - suc p)))
  periods k g =
      sum_blocks k (2 * N) _
      ∙ sum_ext k (λ i l. sum_ext (2 * N) (λ t m. ap (λ j. g (i * (2 * N) + t) *ℤ pos (cond (eqb j p) 1 0)) (fold_at N i m)) ∙ period (λ t. g (i * (2 * N) + t)))
      ∙ sum-+ k _ _

-- ---- the taps at e, e + 2N, e + 4N, .. of a whole e
module _ (ss : List Stage) (N : ℕ) where
  from : ℤ → ℤ
  from e = sum (suc (width ss)) (λ i. kernel ss (e +ℤ pos (i * (2 * N))))

  from_next : (e : ℤ) → minus e < 2 * N → from e ≡ kernel ss e +ℤ from (e +ℤ pos (2 * N))
  unfolding from
  from_next e h = sum_next _ (λ i. kernel ss (e +ℤ pos (i * (2 * N)))) (kernel_beyond ss last far) ∙ ap₂ ◌+ℤ◌ (ap (kernel ss) first) (sum_ext _ (λ i l. ap (kernel ss) (next i)))
    where
      last : ℤ
      last = e +ℤ pos (suc (width ss) * (2 * N))

      far : width ss < nat_abs last
      far = omega (arith, of_abs last, of+ e (pos (suc (width ss) * (2 * N))), enough (width ss) N (omega arith))

      first : e +ℤ pos (0 * (2 * N)) ≡ e
      first = rw (rep e) (simp diff (omega linear))

      next : (i : ℕ) → e +ℤ pos (suc i * (2 * N)) ≡ e +ℤ pos (2 * N) +ℤ pos (i * (2 * N))
      next i = rw (rep e) (simp diff (omega linear))

  -- the taps on both sides are the same from e and from -e
  from_neg : (e : ℤ) → nat_abs e < 2 * N → from (neg_ℤ e) +ℤ from (e +ℤ pos (2 * N)) ≡ from e +ℤ from (neg_ℤ e +ℤ pos (2 * N))
  from_neg e h = rw (from_next (neg_ℤ e) (omega (arith, of_abs e, of_neg e)), from_next e (omega (arith, of_abs e)), kernel_symmetric ss e) (simp ac)

  from_pos : (d : ℕ) → d < 2 * N → from (pos d) +ℤ from (neg_ℤ (pos d) +ℤ pos (2 * N)) ≡ strided ss N d +ℤ strided ss N (2 * N - d)
  unfolding from strided
  from_pos d h = let e : neg_ℤ (pos d) +ℤ pos (2 * N) ≡ pos (2 * N - d) = simp diff (omega linear) in ap (λ z. strided ss N d +ℤ from z) e

  from_both : (e : ℤ) → nat_abs e < 2 * N → from (neg_ℤ e) +ℤ from (e +ℤ pos (2 * N)) ≡ strided ss N (nat_abs e) +ℤ strided ss N (2 * N - nat_abs e)
  from_both (pos d) h = from_neg (pos d) h ∙ from_pos d h
  from_both (negsuc d) h = from_pos (suc d) h

  -- ---- the weight
  module _ (n p : ℕ) (hn : n < N) (hp : p < N) where
    -- a place x is weighed by the tap of n - x, if it reads p
    placed : ℤ → ℤ
    placed x = kernel ss (pos n -ℤ x) *ℤ reads fold N p x

    over_places : (R : ℕ) → width ss + n ≤ R → weight fold ss N (pos n) p ≡ sum_within R placed
    unfolding weight convolved placed
    over_places R l =
        sym (within_shift (width ss) R f (neg_ℤ (pos n)) (rw (nat_abs_neg (pos n)) l) (beyond-* _ (kernel_beyond ss)))
        ∙ sym (within_neg R _)
        ∙ within_ext R (λ x t. ap f (there x) ∙ ap (λ y. kernel ss (pos n -ℤ x) *ℤ reads fold N p y) (sub_back (pos n) x))
      where
        f : ℤ → ℤ
        f m = kernel ss m *ℤ reads fold N p (pos n -ℤ m)

        there : (x : ℤ) → neg_ℤ x -ℤ neg_ℤ (pos n) ≡ pos n -ℤ x
        there x = rw (rep x) (simp diff (omega linear))

    taps : ℕ → (ℕ → ℤ) → ℤ
    taps M f = sum M (λ x. kernel ss (f x) *ℤ reads fold N p (pos x))

    -- x and -1 - x read alike
    from_0 : (M : ℕ) → width ss + n < M → weight fold ss N (pos n) p ≡ taps M (λ x. neg_ℤ (pos n -ℤ pos x)) +ℤ taps M (λ x. pos n -ℤ negsuc x)
    unfolding placed taps sum
    from_0 M l = over_places M (omega arith) ∙ within_halves M placed ∙ ap₂ ◌+ℤ◌ (ap₂ ◌+ℤ◌ (sum_ext M above) last ∙ +ℤ_idr (taps M (λ x. neg_ℤ (pos n -ℤ pos x)))) (sum_ext M below)
      where
        above : (x : ℕ) → x < M → placed (pos x) ≡ kernel ss (neg_ℤ (pos n -ℤ pos x)) *ℤ reads fold N p (pos x)
        above x t = rw (kernel_symmetric ss (pos n -ℤ pos x))

        below : (x : ℕ) → x < M → placed (negsuc x) ≡ kernel ss (pos n -ℤ negsuc x) *ℤ reads fold N p (pos x)
        below x t = rw (fold_negsuc N (omega arith) x)

        last : placed (pos M) ≡ pos 0
        last = *ℤ-zero_l _ (kernel_beyond ss (pos n -ℤ pos M) (omega (arith, nat_abs_sub n M)))

    by_images : (f : ℕ → ℤ) (d e : ℤ) → ((i : ℕ) → f (i * (2 * N) + p) ≡ d +ℤ pos (i * (2 * N))) → ((i : ℕ) → f (i * (2 * N) + (2 * N - suc p)) ≡ e +ℤ pos (i * (2 * N)))
        → taps (suc (width ss) * (2 * N)) f ≡ from d +ℤ from e
    unfolding taps from
    by_images f d e h k = periods N p hp (suc (width ss)) (λ x. kernel ss (f x)) ∙ ap₂ ◌+ℤ◌ (sum_ext _ (λ i l. ap (kernel ss) (h i))) (sum_ext _ (λ i l. ap (kernel ss) (k i)))

    four : weight fold ss N (pos n) p ≡ from (neg_ℤ (pos n -ℤ pos p)) +ℤ from (pos n -ℤ pos p +ℤ pos (2 * N)) +ℤ (from (pos (n + p + 1)) +ℤ from (neg_ℤ (pos (n + p + 1)) +ℤ pos (2 * N)))
    four =
        from_0 (suc (width ss) * (2 * N)) (omega (arith, enough (width ss) N (omega arith)))
        ∙ ap₂ ◌+ℤ◌ (by_images _ (neg_ℤ (pos n -ℤ pos p)) (neg_ℤ (pos (n + p + 1)) +ℤ pos (2 * N)) (λ i. simp diff (omega linear)) (λ i. simp diff (omega linear)))
        (by_images _ (pos (n + p + 1)) (pos n -ℤ pos p +ℤ pos (2 * N)) (λ i. simp diff (omega linear)) (λ i. simp diff (omega linear)))
        ∙ simp ac

    pub weight_images : weight fold ss N (pos n) p ≡ strided ss N (apart n p) +ℤ strided ss N (2 * N - apart n p) +ℤ strided ss N (n + p + 1) +ℤ strided ss N (2 * N - (n + p + 1))
    weight_images = four ∙ ap₂ ◌+ℤ◌ direct (from_pos (n + p + 1) (omega arith)) ∙ simp +ℤ_assoc
      where
        direct : from (neg_ℤ (pos n -ℤ pos p)) +ℤ from (pos n -ℤ pos p +ℤ pos (2 * N)) ≡ strided ss N (apart n p) +ℤ strided ss N (2 * N - apart n p)
        direct = rw (← nat_abs_sub n p) (from_both (pos n -ℤ pos p) (omega (arith, nat_abs_sub n p)))
