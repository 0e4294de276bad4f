-- The law: passes are one convolution.
--   repeated K g f   g (g (.. f)), K times
-- A symmetric kernel commutes with a folding, so the extension of the results is the result at every whole n (ext_results).
-- Then a stage in front is one pass more (results_cons), and K equal stages are K passes (results_replicate).
-- Laws: length_results, at_results, length_pass, at_pass; result_cons, result_empty (of no samples);
-- result_fold, ext_results; results_none, results_cons, results_append, results_replicate.
use Rattle.std.specs.Prelude.{◌≡◌, ℕ, zero, suc, ◌<◌, length, replicate, ℤ, pos}
use Rattle.std.proofs.Math.Path.{refl, sym, ap}
use Rattle.std.proofs.Common.{◌∙◌, arith}
use mathlib.Core.List.{List, [], ◌∷◌, ◌++◌}
use Rattle.std.proofs.Math.IntN.{*ℤ-zero}
use Rattle.meaning.specs.Extension.{at, IndexMap, ext}
use Rattle.meaning.specs.Kernel.{Stage, divisor, pass_at}
use Rattle.meaning.specs.Smoothing.{result, results, pass}
use Rattle.theory.specs.Convolution.{pass_at_ext, convolved_none, convolved_forward, convolved_backward, convolved_const, convolved_cons}
use Rattle.theory.specs.Lists.{length_list_of, at_list_of, list_of_ext, list_of_at, at_past}
use Rattle.theory.specs.Folding.{Folding, Follows, forward, backward}

abbrev pub repeated : ℕ → (List ℤ → List ℤ) → List ℤ → List ℤ
repeated zero g f = f
repeated (suc K) g f = g (repeated K g f)

module _ (φ : IndexMap) where
  -- ---- shape
  pub length_results : (ss : List Stage) (f : List ℤ) → length (results φ ss f) ≡ length f
  unfolding results
  length_results ss f = length_list_of (length f) _

  pub at_results : (ss : List Stage) (f : List ℤ) (n : ℕ) → n < length f → at (results φ ss f) n ≡ result φ ss f (pos n)
  unfolding results
  at_results ss f n h = at_list_of (length f) _ n h

  pub length_pass : (s : Stage) (f : List ℤ) → length (pass φ s f) ≡ length f
  unfolding pass
  length_pass s f = length_list_of (length f) _

  pub at_pass : (s : Stage) (f : List ℤ) (n : ℕ) → n < length f → at (pass φ s f) n ≡ pass_at s (ext φ f) (pos n)
  unfolding pass
  at_pass s f n h = at_list_of (length f) _ n h

  -- ---- at every whole n
  result_none : (f : List ℤ) (n : ℤ) → result φ [] f n ≡ ext φ f n
  unfolding result
  result_none f n = convolved_none (ext φ f) n

  pub result_cons : (s : Stage) (ss : List Stage) (f : List ℤ) (n : ℤ) → result φ (s ∷ ss) f n ≡ pass_at s (result φ ss f) n
  unfolding result
  result_cons s ss f n = convolved_cons s ss (ext φ f) n

  follows : (ss : List Stage) (f : List ℤ) (n : ℤ) (p : ℕ) → Follows (φ (length f)) n p → result φ ss f n ≡ result φ ss f (pos p)
  unfolding result ext
  follows ss f n p (forward h) = convolved_forward ss (ext φ f) n (pos p) (λ d. ap (at f) (h d))
  follows ss f n p (backward h) = convolved_backward ss (ext φ f) n (pos p) (λ d. ap (at f) (h d))

  pub result_empty : (ss : List Stage) (n : ℤ) → result φ ss [] n ≡ pos 0
  unfolding result ext
  result_empty ss n = convolved_const ss (pos 0) n ∙ *ℤ-zero (pos (divisor ss))

-- ---- the extension of the results
module _ {φ : IndexMap} (F : Folding φ) where
  pub result_fold : (ss : List Stage) (f : List ℤ) (n : ℤ) → result φ ss f n ≡ result φ ss f (pos (φ (length f) n))
  result_fold ss [] n = result_empty φ ss n ∙ sym (result_empty φ ss _)
  result_fold ss (x ∷ f) n = follows φ ss (x ∷ f) n _ (F.follows (omega arith) n)

  pub ext_results : (ss : List Stage) (f : List ℤ) (n : ℤ) → ext φ (results φ ss f) n ≡ result φ ss f n
  unfolding ext
  ext_results ss [] n = at_past (results φ ss []) _ (rw (length_results φ ss []) (omega arith)) ∙ sym (result_empty φ ss n)
  ext_results ss (x ∷ f) n = rw (length_results φ ss (x ∷ f)) (at_results φ ss (x ∷ f) _ (F.below (omega arith) n) ∙ sym (result_fold ss (x ∷ f) n))

  -- ---- passes
  pub results_none : (f : List ℤ) → results φ [] f ≡ f
  unfolding results ext
  results_none f = list_of_ext (length f) (λ n l. result_none φ f (pos n) ∙ ap (at f) (F.here l)) ∙ list_of_at (length f) f refl

  pub results_cons : (s : Stage) (ss : List Stage) (f : List ℤ) → results φ (s ∷ ss) f ≡ pass φ s (results φ ss f)
  unfolding results pass
  results_cons s ss f = rw (length_results φ ss f) (list_of_ext (length f) (λ n l. result_cons φ s ss f (pos n) ∙ pass_at_ext s (λ x. sym (ext_results ss f x)) (pos n)))

  pub results_append : (ss ts : List Stage) (f : List ℤ) → results φ (ss ++ ts) f ≡ results φ ss (results φ ts f)
  results_append [] ts f = sym (results_none (results φ ts f))
  results_append (s ∷ ss) ts f = results_cons s (ss ++ ts) f ∙ ap (pass φ s) (results_append ss ts f) ∙ sym (results_cons s ss (results φ ts f))

  pub results_replicate : (K : ℕ) (s : Stage) (f : List ℤ) → results φ (replicate K s) f ≡ repeated K (pass φ s) f
  results_replicate zero s f = results_none f
  results_replicate (suc K) s f = results_cons s (replicate K s) f ∙ ap (pass φ s) (results_replicate K s f)
