-- Negated samples and results: what smoothing and the outputs make of them.
-- Laws: results_negated, picture_negated (the results of negated samples); nearest_even_negated_each (a half to the even neighbour, of negated results); smooth_negated, output_negated (their rows are those of the samples and results themselves).
use Rattle.std.specs.Prelude.{ℕ, ◌+◌, ◌*◌, ◌<◌, ◌≡◌, refl, List, [], ◌∷◌, map, ltb, length, ℤ, pos, negsuc, neg_ℤ, nat_abs, ◌*ℤ◌}
use Rattle.std.proofs.Common.{sym, ap, ap₂, ◌∙◌}
use Rattle.std.proofs.lemmas.List.{length-map}
use Rattle.std.proofs.Math.ListN.{get_or-map}
use Rattle.algebra.specs.Ring.{*ℤ-idl, negℤ-*ℤ}
use Rattle.algebra.specs.Size.{nat_abs_neg}
use Rattle.meaning.specs.Extension.{at, IndexMap, ext}
use Rattle.meaning.specs.Kernel.{Stage}
use Rattle.meaning.specs.Smoothing.{convolved, result, results}
use Rattle.meaning.specs.Picture.{cell, pixel, picture}
use Rattle.meaning.specs.Refusals.{Shape, above}
use Rattle.meaning.specs.Values.{nearest_even, output_rows}
use Rattle.meaning.specs.Calls.{smooth_rows}
use Rattle.theory.specs.Lists.{list_of_ext, list_of_map}
use Rattle.theory.specs.Convolution.{convolved_ext, convolved-*}
use Rattle.theory.specs.Picture.{grid_ext, grid_map}
use Rattle.theory.specs.Places.{row_at_ext}
use Rattle.theory.specs.Rounded.{nearest_even_negated}

at_negated : (f : List ℤ) (i : ℕ) → at (map neg_ℤ f) i ≡ neg_ℤ (at f i)
at_negated f i = get_or-map neg_ℤ f i (pos 0)

above_negated : (M : ℕ) (f : List ℤ) (i : ℕ) → above M (at (map neg_ℤ f) i) ≡ above M (at f i)
above_negated M f i = ap (ltb M) (ap nat_abs (at_negated f i) ∙ nat_abs_neg (at f i))

-- ---- results
times_minus_one : (z : ℤ) → negsuc 0 *ℤ z ≡ neg_ℤ z
times_minus_one z = negℤ-*ℤ (pos 1) z ∙ ap neg_ℤ (*ℤ-idl z)

convolved_negated : (ss : List Stage) (e : ℤ → ℤ) (n : ℤ) → convolved ss (λ x. neg_ℤ (e x)) n ≡ neg_ℤ (convolved ss e n)
convolved_negated ss e n = convolved_ext ss (λ x. sym (times_minus_one (e x))) n ∙ convolved-* ss (negsuc 0) e n ∙ times_minus_one (convolved ss e n)

result_negated : (φ : IndexMap) (ss : List Stage) (f : List ℤ) (n : ℤ) → result φ ss (map neg_ℤ f) n ≡ neg_ℤ (result φ ss f n)
unfolding result ext
result_negated φ ss f n = convolved_ext ss (λ x. rw (length-map f neg_ℤ) (at_negated f (φ (length f) x))) n ∙ convolved_negated ss (ext φ f) n

pub results_negated : (φ : IndexMap) (ss : List Stage) (f : List ℤ) → results φ ss (map neg_ℤ f) ≡ map neg_ℤ (results φ ss f)
unfolding results
results_negated φ ss f = rw (length-map f neg_ℤ) (list_of_ext (length f) (λ n l. result_negated φ ss f (pos n)) ∙ list_of_map neg_ℤ (length f) (λ n. result φ ss f (pos n)))

pub picture_negated : (φ ψ : IndexMap) (hs vs : List Stage) (W H : ℕ) (f : List ℤ) → picture φ ψ hs vs W H (map neg_ℤ f) ≡ map neg_ℤ (picture φ ψ hs vs W H f)
unfolding picture pixel
picture_negated φ ψ hs vs W H f =
    grid_ext W H (λ x y l m. convolved_ext hs (λ i. convolved_ext vs (λ j. at_negated f (ψ H j * W + φ W i)) (pos y) ∙ convolved_negated vs (λ j. cell W f (φ W i) (ψ H j)) (pos y)) (pos x)
    ∙ convolved_negated hs (λ i. convolved vs (λ j. cell W f (φ W i) (ψ H j)) (pos y)) (pos x))
    ∙ grid_map neg_ℤ W H _

-- ---- whole output
pub nearest_even_negated_each : (d : ℕ) → 0 < d → (r : List ℤ) → map (λ z. nearest_even z d) (map neg_ℤ r) ≡ map neg_ℤ (map (λ z. nearest_even z d) r)
nearest_even_negated_each d h [] = refl
nearest_even_negated_each d h (z ∷ r) = ap₂ ◌∷◌ (nearest_even_negated d h z) (nearest_even_negated_each d h r)

-- ---- rows
pub smooth_negated : (s : Shape) (M : ℕ) (f : List ℤ) (nr nw : ℕ) → smooth_rows s M (map neg_ℤ f) nr nw ≡ smooth_rows s M f nr nw
unfolding smooth_rows
smooth_negated s M f nr nw = rw (length-map f neg_ℤ, row_at_ext 11 (length f) (λ i l. above_negated M f i))

pub output_negated : (s : Shape) (M : ℕ) (r : List ℤ) (n : ℕ) → output_rows s M (map neg_ℤ r) n ≡ output_rows s M r n
unfolding output_rows
output_negated s M r n = rw (length-map r neg_ℤ, row_at_ext 12 (length r) (λ i l. above_negated (M * s.divisor) r i))
