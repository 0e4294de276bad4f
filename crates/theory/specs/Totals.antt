-- Sums of results: the divisor times the sum of the samples, of a series and of a picture.
--   total f   the sum of a list's elements
-- A kernel weighs the row moved on by m as the row moved back by m. Over a Balanced map the two together sum to twice the samples,
-- for what leaves at the ends is what enters there. Of a Folding only `here` is needed.
-- Laws: total_list_of; convolved_total (of any N samples g), results_total, picture_total.
use Rattle.std.specs.Prelude.{◌≡◌, refl, List, length, ℤ, negsuc, neg_ℤ, ◌-ℤ◌, ◌*ℤ◌}
use Rattle.std.proofs.Math.Path.{sym, ap, ap₂}
use Rattle.std.proofs.Common.{◌∙◌, mul_comm, arith}
use Prim.Native.Nat.{ℕ, zero, suc, ◌+◌, ◌*◌}
use Rattle.std.proofs.Math.IntN.{pos, suc_ℤ, ◌+ℤ◌, +ℤ_idl, +ℤ_idr, +ℤ_comm, +ℤ-suc_ℤ, suc_ℤ-+ℤ, neg_ℤ-pred_ℤ, *ℤ-zero}
use Rattle.algebra.specs.Ring.{*ℤ-assoc}
use Rattle.algebra.specs.Order.{zarith, of+}
use Rattle.algebra.specs.Sum.{sum, sum_ext, sum-*, sum_first, sum_blocks}
use Rattle.algebra.specs.Within.{within_ext, within_sum}
use Rattle.meaning.specs.Extension.{at, IndexMap, ext}
use Rattle.meaning.specs.Kernel.{Stage, kernel, width, divisor}
use Rattle.meaning.specs.Smoothing.{list_of, convolved, result, results}
use Rattle.meaning.specs.Picture.{cell, pixel, picture}
use Rattle.theory.specs.Folding.{Folding, Balanced}
use Rattle.theory.specs.Lists.{length_list_of, at_list_of}
use Rattle.theory.specs.Convolution.{convolved_sum, kernel_pairs}
use Rattle.theory.specs.Picture.{length_picture, cell_picture}

abbrev pub total : List ℤ → ℤ
total f = sum (length f) (at f)

pub total_list_of : (n : ℕ) (g : ℕ → ℤ) → total (list_of n g) ≡ sum n g
total_list_of n g = ap (λ k. sum k (at (list_of n g))) (length_list_of n g) ∙ sum_ext n (at_list_of n g)

-- row after row
total_cells : (W H : ℕ) (f : List ℤ) → length f ≡ W * H → total f ≡ sum H (λ y. sum W (λ x. cell W f x y))
total_cells W H f e = ap (λ k. sum k (at f)) (e ∙ mul_comm W H) ∙ sum_blocks H W (at f)

-- ---- N places of a row, moved
module _ (N : ℕ) (e : ℤ → ℤ) where
  moved : ℤ → ℤ
  moved m = sum N (λ n. e (pos n +ℤ m))

  -- one step on: the first leaves and the next enters
  moved_on : (m : ℤ) → moved m +ℤ e (pos N +ℤ m) ≡ e m +ℤ moved (suc_ℤ m)
  unfolding moved sum
  moved_on m = sum_first N (λ n. e (pos n +ℤ m)) ∙ ap₂ ◌+ℤ◌ (ap e (+ℤ_idl m)) (sum_ext N (λ n l. ap e (suc_ℤ-+ℤ (pos n) m ∙ sym (+ℤ-suc_ℤ (pos n) m))))

  -- by m either way, where what leaves and what enters are the same together
  module _ (h : (m : ℕ) → e (negsuc m) +ℤ e (pos (N + m)) ≡ e (pos m) +ℤ e (pos N -ℤ pos (suc m))) where
    both_ways : (m : ℕ) → moved (pos m) +ℤ moved (neg_ℤ (pos m)) ≡ moved (pos 0) +ℤ moved (pos 0)
    both_ways zero = refl
    both_ways (suc m) =
        step (moved (pos m)) (moved (neg_ℤ (pos m))) (moved (pos (suc m))) (moved (negsuc m)) (e (pos m)) (e (pos (N + m))) (e (negsuc m)) (e (pos N -ℤ pos (suc m)))
        (moved_on (pos m)) (moved_on (negsuc m) ∙ ap (λ z. e (negsuc m) +ℤ moved z) (sym (neg_ℤ-pred_ℤ (pos (suc m))))) (h m)
        ∙ both_ways m
      where
        step : (a b c d u v x y : ℤ) → a +ℤ v ≡ u +ℤ c → d +ℤ y ≡ x +ℤ b → x +ℤ v ≡ u +ℤ y → c +ℤ d ≡ a +ℤ b
        step a b c d u v x y i j k = omega (zarith, of+ a v, of+ u c, of+ d y, of+ x b, of+ x v, of+ u y, of+ c d, of+ a b)

    pairs : (m : ℤ) → moved m +ℤ moved (neg_ℤ m) ≡ moved (pos 0) +ℤ moved (pos 0)
    pairs (pos m) = both_ways m
    pairs (negsuc m) = +ℤ_comm (moved (negsuc m)) (moved (pos (suc m))) ∙ both_ways (suc m)

    row_total : (ss : List Stage) → sum N (λ n. convolved ss e (pos n)) ≡ pos (divisor ss) *ℤ sum N (λ n. e (pos n))
    unfolding moved convolved
    row_total ss =
        sym (within_sum (width ss) N (λ m n. kernel ss m *ℤ e (pos n -ℤ m)))
        ∙ within_ext _ (λ m l. sum-* N (kernel ss m) (λ n. e (pos n -ℤ m)))
        ∙ kernel_pairs ss (λ m. moved (neg_ℤ m)) (moved (pos 0)) (λ m. pairs (neg_ℤ m))
        ∙ ap (λ z. pos (divisor ss) *ℤ z) (sum_ext N (λ n l. ap e (+ℤ_idr (pos n))))

-- ---- series
module _ {φ : IndexMap} (F : Folding φ) (B : Balanced φ) where
  pub convolved_total : (ss : List Stage) (N : ℕ) (g : ℕ → ℤ) → sum N (λ n. convolved ss (λ i. g (φ N i)) (pos n)) ≡ pos (divisor ss) *ℤ sum N g
  unfolding sum
  convolved_total ss zero g = sym (*ℤ-zero (pos (divisor ss)))
  convolved_total ss (suc N) g =
      row_total (suc N) (λ i. g (φ (suc N) i)) (λ m. B.ends (omega arith) m g) ss
      ∙ ap (λ z. pos (divisor ss) *ℤ z) (sum_ext (suc N) (λ n l. ap g (F.here l)))

  pub results_total : (ss : List Stage) (f : List ℤ) → total (results φ ss f) ≡ pos (divisor ss) *ℤ total f
  unfolding results result ext
  results_total ss f = total_list_of (length f) _ ∙ convolved_total ss (length f) (at f)

-- ---- pictures
module _ {φ ψ : IndexMap} (F : Folding φ) (G : Folding ψ) (B : Balanced φ) (D : Balanced ψ) where
  pub picture_total : (hs vs : List Stage) (W H : ℕ) (f : List ℤ) → length f ≡ W * H → total (picture φ ψ hs vs W H f) ≡ pos (divisor hs * divisor vs) *ℤ total f
  unfolding pixel
  picture_total hs vs W H f e =
      total_cells W H (picture φ ψ hs vs W H f) (length_picture φ ψ hs vs W H f)
      ∙ sum_ext H (λ y hy. sum_ext W (λ x hx. cell_picture φ ψ hs vs W H f x y hx hy) ∙ convolved_total F B hs W _ ∙ ap (λ z. pos (divisor hs) *ℤ z) (sym (convolved_sum vs W _ (pos y))))
      ∙ sum-* H (pos (divisor hs)) _
      ∙ ap (λ z. pos (divisor hs) *ℤ z) (convolved_total G D vs H (λ y. sum W (λ x. cell W f x y)) ∙ ap (λ z. pos (divisor vs) *ℤ z) (sym (total_cells W H f e)))
      ∙ sym (*ℤ-assoc (pos (divisor hs)) (pos (divisor vs)) (total f))
