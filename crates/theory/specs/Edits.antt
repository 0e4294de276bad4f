-- What an edit makes of results: those within reach gain, all others stay, and of a true smoothing comes that of the new samples.
--   result_row ss L p r new   row 12 of an edit, under the limit L
-- Laws: length_gained, gained_near, gained_far; gained_changed, gained_changes (which results change), changed_same, changed_all,
-- changed_is (how many); gained_fresh (of a true smoothing comes one), fresh_passes (a true smoothing passes row 12); asked_length (of the work that an edit asks).
use Rattle.std.specs.Prelude.{◌≡◌, ◌≢◌, Bool, true, false, cond, ◌&&◌, ◌||◌, List, ℕ, ◌+◌, ◌*◌, ◌-◌, ◌≤◌, ◌<◌, min, eqb, length, set, ℤ, pos, nat_abs, ◌+ℤ◌, ◌-ℤ◌, ◌*ℤ◌}
use Rattle.std.proofs.Math.Path.{refl}
use Rattle.std.proofs.Common.{sym, ◌∙◌, ap, arith, length-set, le-ltb, eq-eqb, ne_eqb}
use Rattle.std.proofs.Math.Decide.{dec_le, ℕ_discrete}
use Rattle.std.proofs.lemmas.List.{length-replicate}
use Rattle.std.proofs.Math.IntN.{zero-*ℤ, +ℤ_idr}
use Rattle.algebra.specs.Order.{zarith}
use Rattle.algebra.specs.Size.{Abs, of_abs}
use Rattle.meaning.specs.Extension.{at, IndexMap}
use Rattle.meaning.specs.Kernel.{Stage, reach, divisor}
use Rattle.meaning.specs.Smoothing.{result, results, weight, apart, near}
use Rattle.meaning.specs.Refusals.{Row, row_at, above}
use Rattle.meaning.specs.Calls.{edit_room, asked, gained, changed}
use Rattle.theory.specs.Folding.{Folding, Nearness}
use Rattle.theory.specs.Lists.{length_list_of, at_list_of, list_of_ext, list_of_at, Sized, sized_set}
use Rattle.theory.specs.Stages.{PositiveInner}
use Rattle.theory.specs.Passes.{length_results, at_results}
use Rattle.theory.specs.Sizes.{results_size}
use Rattle.theory.specs.Tests.{no_or, no_and}
use Rattle.theory.specs.Weights.{result_set}
use Rattle.theory.specs.Local.{near_yes, near_no, near_true, near_false, near_within, weight_positive, set_outside, no_gain}
use Rattle.theory.specs.Places.{row_at_off}
use Rattle.theory.specs.Counts.{count_ext, count_within, changed_none, changed_where}

-- ---- each result
module _ (φ : IndexMap) (ss : List Stage) (p : ℕ) (d : ℤ) (r : List ℤ) where
  pub length_gained : length (gained φ ss p d r) ≡ length r
  unfolding gained
  length_gained = length_list_of (length r) _

  module _ {n : ℕ} (h : n < length r) where
    pub gained_near : apart n p ≤ reach ss → at (gained φ ss p d r) n ≡ at r n +ℤ d *ℤ weight φ ss (length r) (pos n) p
    unfolding gained
    gained_near l = at_list_of (length r) _ n h ∙ rw (near_yes ss n p l) refl

    pub gained_far : reach ss < apart n p → at (gained φ ss p d r) n ≡ at r n
    unfolding gained
    gained_far l = at_list_of (length r) _ n h ∙ rw (near_no ss n p l) refl

gained_none : (φ : IndexMap) (ss : List Stage) (p : ℕ) (r : List ℤ) → gained φ ss p (pos 0) r ≡ r
unfolding gained
gained_none φ ss p r = list_of_ext (length r) (λ n l. rw (zero-*ℤ (weight φ ss (length r) (pos n) p), +ℤ_idr (at r n)) (either (near ss n p) (at r n))) ∙ list_of_at (length r) r refl
  where
    either : (b : Bool) (z : ℤ) → cond b z z ≡ z
    either true z = refl
    either false z = refl

-- ---- which results change, and how many
pub gained_changed : (φ : IndexMap) (ss : List Stage) (p : ℕ) (d : ℤ) (r : List ℤ) {n : ℕ} → n < length r → at (gained φ ss p d r) n ≢ at r n → (d ≢ pos 0) × (apart n p ≤ reach ss)
gained_changed φ ss p d r {n} h k = (λ e. k (ap (λ d. at (gained φ ss p d r) n) e ∙ ap (λ r. at r n) (gained_none φ ss p r)), go (dec_le (apart n p) (reach ss)))
  where
    go : Dec (apart n p ≤ reach ss) → apart n p ≤ reach ss
    go (yes l) = l
    go (no l) = absurd (k (gained_far φ ss p d r h (omega arith)))

pub changed_same : (φ : IndexMap) (ss : List Stage) (p : ℕ) {d : ℤ} (r : List ℤ) → d ≡ pos 0 → changed r (gained φ ss p d r) ≡ 0
changed_same φ ss p r e = rw (e, gained_none φ ss p r) (changed_none r)

module _ {φ : IndexMap} (F : Folding φ) {ss : List Stage} (b : PositiveInner ss) (p : ℕ) (d : ℤ) (r : List ℤ) (hp : p < length r) where
  pub gained_changes : {n : ℕ} → n < length r → d ≢ pos 0 → apart n p ≤ reach ss → at (gained φ ss p d r) n ≢ at r n
  gained_changes {n} h k l e = k (no_gain (at r n) (weight_positive F b n p hp l) (sym (gained_near φ ss p d r h l) ∙ e))

  pub changed_all : d ≢ pos 0 → changed r (gained φ ss p d r) ≡ min (length r) (p + reach ss + 1) - (p - reach ss)
  changed_all k =
      changed_where r (gained φ ss p d r) (λ n. near ss n p) (λ n l t. gained_changes l k (near_true ss n p t)) (λ n l t. gained_far φ ss p d r l (near_false ss n p t))
      ∙ count_ext (length r) (λ n l. near_within ss p l)
      ∙ count_within (p - reach ss) (min (length r) (p + reach ss + 1)) (length r)
      ∙ omega arith

  pub changed_is : changed r (gained φ ss p d r) ≡ cond (eqb (nat_abs d) 0) 0 (min (length r) (p + reach ss + 1) - (p - reach ss))
  changed_is = go (ℕ_discrete (nat_abs d) 0)
    where
      go : Dec (nat_abs d ≡ 0) → changed r (gained φ ss p d r) ≡ cond (eqb (nat_abs d) 0) 0 (min (length r) (p + reach ss + 1) - (p - reach ss))
      go (yes e) = rw (eq-eqb (nat_abs d) 0 e) (changed_same φ ss p r (omega (zarith, of_abs d)))
      go (no e) = rw (ne_eqb (nat_abs d) 0 e) (changed_all (λ z. e (ap nat_abs z)))

-- ---- of a true smoothing
pub gained_fresh : {φ : IndexMap} → Nearness φ → (ss : List Stage) (f : List ℤ) (p : ℕ) (v : ℤ) → p < length f → gained φ ss p (v -ℤ at f p) (results φ ss f) ≡ results φ ss (set f p v)
unfolding gained results
gained_fresh {φ} C ss f p v h = rw (length_results φ ss f, length-set f p v) (list_of_ext (length f) (λ n l. rw (at_results φ ss f n l) (go l (dec_le (apart n p) (reach ss)))))
  where
    go : {n : ℕ} → n < length f → Dec (apart n p ≤ reach ss) → cond (near ss n p) (result φ ss f (pos n) +ℤ (v -ℤ at f p) *ℤ weight φ ss (length f) (pos n) p) (result φ ss f (pos n)) ≡ result φ ss (set f p v) (pos n)
    go {n} l (yes k) = rw (near_yes ss n p k) (sym (result_set φ ss f p v h (pos n)))
    go {n} l (no k) = rw (near_no ss n p (omega arith)) (sym (set_outside C ss f n p v l h (omega arith)))

abbrev pub result_row : List Stage → ℕ → ℕ → List ℤ → List ℤ → Row
result_row ss L p r new = row_at 12 (length r) (λ n. near ss n p && (above L (at r n) || above L (at new n)))

pub fresh_passes : {φ : IndexMap} → Nearness φ → (ss : List Stage) {M : ℕ} {f : List ℤ} → Sized M f → (p : ℕ) {v : ℤ} → p < length f → Abs v M → (result_row ss (M * divisor ss) p (results φ ss f) (gained φ ss p (v -ℤ at f p) (results φ ss f))).applies ≡ false
fresh_passes {φ} C ss {M} {f} h p {v} l k =
    rw (gained_fresh C ss f p v l) (row_at_off 12 _ (λ n i. no_and (near ss n p) _ (λ t. no_or (le-ltb _ _ ((results_size φ h ss).size n).bound) (le-ltb _ _ ((results_size φ (sized_set h p k) ss).size n).bound))))

-- ---- the work that is asked
pub asked_length : (ss : List Stage) (N : ℕ) → length (asked ss N) ≡ edit_room ss N
unfolding asked
asked_length ss N = length-replicate _ _
