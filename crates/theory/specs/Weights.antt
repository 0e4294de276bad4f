-- Results are linear in the samples.
-- Laws: reads_yes, reads_no; result_linear; result_set (a sample set to another value), result_weights (a result as a sum over samples);
-- weight_nonneg, weight_sum.
use Rattle.std.specs.Prelude.{◌≡◌, ◌≢◌, ℕ, suc, ◌<◌, eqb, set, ℤ, pos, ◌-ℤ◌, ◌*ℤ◌, ◌≤ℤ◌}
use Rattle.std.proofs.Math.Path.{refl, sym, ap, ap₂}
use Rattle.std.proofs.Common.{◌∙◌, arith, length-set, eq-eqb, ne_eqb}
use mathlib.Core.List.{List, [], ◌∷◌}
use Rattle.std.proofs.Math.Decide.{ℕ_discrete, dec_lt}
use Rattle.std.proofs.Math.ListN.{length}
use Rattle.std.proofs.Math.Seq.{get_or-set_same, get_or-set_other}
use Rattle.std.proofs.Math.IntN.{◌+ℤ◌, *ℤ_comm, *ℤ-zero, +ℤ_idr}
use Rattle.algebra.specs.Ring.{*ℤ-idl, *ℤ-idr}
use Rattle.algebra.specs.Order.{nonneg_pos}
use Rattle.algebra.specs.Expression.{◌⊕◌, ◌⊝◌, ◌⊗◌, con}
use Rattle.algebra.specs.Solver.{ring, ◌≗◌}
use Rattle.algebra.specs.Sum.{sum, sum_ext, sum_where}
use Rattle.meaning.specs.Extension.{at, IndexMap, ext}
use Rattle.meaning.specs.Kernel.{Stage, divisor}
use Rattle.meaning.specs.Smoothing.{convolved, result, reads, weight}
use Rattle.theory.specs.Folding.{Folding}
use Rattle.theory.specs.Lists.{at_past}
use Rattle.theory.specs.Passes.{result_empty}
use Rattle.theory.specs.Convolution.{convolved_ext, convolved_const, convolved-+, convolved-*, convolved_sum, convolved_nonneg}

pub reads_yes : (φ : IndexMap) (N : ℕ) {p : ℕ} (x : ℤ) → φ N x ≡ p → reads φ N p x ≡ pos 1
reads_yes φ N x h = rw (eq-eqb _ _ h)

pub reads_no : (φ : IndexMap) (N : ℕ) {p : ℕ} (x : ℤ) → φ N x ≢ p → reads φ N p x ≡ pos 0
reads_no φ N x h = rw (ne_eqb _ _ h)

module _ (φ : IndexMap) (ss : List Stage) where
  -- h is c times f plus d times g, sample by sample
  pub result_linear : (c d : ℤ) (f g h : List ℤ) → length f ≡ length h → length g ≡ length h → ((i : ℕ) → i < length h → at h i ≡ c *ℤ at f i +ℤ d *ℤ at g i) → (n : ℤ) → result φ ss h n ≡ c *ℤ result φ ss f n +ℤ d *ℤ result φ ss g n
  unfolding result ext
  result_linear c d f g h lf lg e n =
      convolved_ext ss (λ x. rw (lf, lg) (all (φ (length h) x) (dec_lt (φ (length h) x) (length h)))) n
      ∙ convolved-+ ss (λ x. c *ℤ ext φ f x) (λ x. d *ℤ ext φ g x) n
      ∙ ap₂ ◌+ℤ◌ (convolved-* ss c (ext φ f) n) (convolved-* ss d (ext φ g) n)
    where
      all : (i : ℕ) → Dec (i < length h) → at h i ≡ c *ℤ at f i +ℤ d *ℤ at g i
      all i (yes l) = e i l
      all i (no l) = rw (at_past h i (omega arith), at_past f i (omega arith), at_past g i (omega arith), *ℤ-zero c, *ℤ-zero d) refl

  -- ---- one sample set to another value
  ext_set : (f : List ℤ) (p : ℕ) (v : ℤ) → p < length f → (x : ℤ) → ext φ (set f p v) x ≡ ext φ f x +ℤ (v -ℤ at f p) *ℤ reads φ (length f) p x
  unfolding ext
  ext_set f p v h x = rw (length-set f p v) (go (ℕ_discrete (φ (length f) x) p))
    where
      go : Dec (φ (length f) x ≡ p) → at (set f p v) (φ (length f) x) ≡ at f (φ (length f) x) +ℤ (v -ℤ at f p) *ℤ reads φ (length f) p x
      go (yes e) = rw (reads_yes φ (length f) x e, e, get_or-set_same f p v (pos 0) h) (ring 2 (λ v u. v ≗ u ⊕ (v ⊝ u) ⊗ con (pos 1)) refl v (at f p))
      go (no e) = rw (reads_no φ (length f) x e, get_or-set_other f p (φ (length f) x) v (pos 0) e, *ℤ-zero (v -ℤ at f p)) (sym (+ℤ_idr (at f (φ (length f) x))))

  pub result_set : (f : List ℤ) (p : ℕ) (v : ℤ) → p < length f → (n : ℤ) → result φ ss (set f p v) n ≡ result φ ss f n +ℤ (v -ℤ at f p) *ℤ weight φ ss (length f) n p
  unfolding result weight
  result_set f p v h n =
      convolved_ext ss (ext_set f p v h) n
      ∙ convolved-+ ss (ext φ f) (λ x. (v -ℤ at f p) *ℤ reads φ (length f) p x) n
      ∙ ap (λ z. result φ ss f n +ℤ z) (convolved-* ss (v -ℤ at f p) (reads φ (length f) p) n)

  pub weight_nonneg : (N : ℕ) (n : ℤ) (p : ℕ) → pos 0 ≤ℤ weight φ ss N n p
  unfolding weight
  weight_nonneg N n p = convolved_nonneg ss (λ x. nonneg_pos) n

-- ---- a result as a sum over the samples
module _ {φ : IndexMap} (F : Folding φ) (ss : List Stage) where
  -- at x one sample is read
  pick : {N : ℕ} → 0 < N → (g : ℕ → ℤ) (x : ℤ) → sum N (λ p. g p *ℤ reads φ N p x) ≡ g (φ N x)
  pick {N} h g x = sum_where N (φ N x) g (eqb (φ N x)) (F.below h x) (eq-eqb (φ N x) (φ N x) refl) (λ p l d. ne_eqb (φ N x) p (λ e. d (sym e)))

  -- so the convolution of what is read is a sum over the samples
  over : {N : ℕ} → 0 < N → (g : ℕ → ℤ) (n : ℤ) → convolved ss (λ x. g (φ N x)) n ≡ sum N (λ p. g p *ℤ weight φ ss N n p)
  unfolding weight
  over {N} h g n =
      convolved_ext ss (λ x. sym (pick h g x)) n
      ∙ convolved_sum ss N (λ p x. g p *ℤ reads φ N p x) n
      ∙ sum_ext N (λ p l. convolved-* ss (g p) (reads φ N p) n)

  pub result_weights : (f : List ℤ) (n : ℤ) → result φ ss f n ≡ sum (length f) (λ p. weight φ ss (length f) n p *ℤ at f p)
  unfolding result ext sum
  result_weights [] n = result_empty φ ss n
  result_weights (x ∷ f) n = over (omega arith) (at (x ∷ f)) n ∙ sum_ext (suc (length f)) (λ p l. *ℤ_comm (at (x ∷ f) p) (weight φ ss (suc (length f)) n p))

  pub weight_sum : {N : ℕ} → 0 < N → (n : ℤ) → sum N (λ p. weight φ ss N n p) ≡ pos (divisor ss)
  weight_sum {N} h n =
      sum_ext N (λ p l. sym (*ℤ-idl (weight φ ss N n p))) ∙ sym (over h (λ p. pos 1) n)
      ∙ convolved_const ss (pos 1) n ∙ *ℤ-idr (pos (divisor ss))
