-- What one edit leaves, by its outcome. A stored smoothing is results that are those of its samples; it stays one, whatever the edits and their answers.
-- Laws: edit_done, edit_refused; edit_fresh (a stored smoothing stays one), edit_sized (and its samples within the bound). That no edit of such a one answers 12 is edit_never_12 of AcceptedEdits.
use Rattle.std.specs.Prelude.{◌≡◌, List, ℕ, length, set, ℤ, ◌-ℤ◌}
use Rattle.std.proofs.Common.{◌∙◌, ap}
use Rattle.std.proofs.Math.Decide.{ℕ_discrete}
use Rattle.meaning.specs.Extension.{at, IndexMap}
use Rattle.meaning.specs.Kernel.{Stage}
use Rattle.meaning.specs.Smoothing.{results}
use Rattle.meaning.specs.Refusals.{zeros}
use Rattle.meaning.specs.Calls.{gained, changed, Edited, edit_series}
use Rattle.meaning.specs.Bounds.{AllowedEdit}
use Rattle.theory.specs.Folding.{Nearness}
use Rattle.theory.specs.Lists.{Sized, sized_set}
use Rattle.theory.specs.Refusals.{if_done_done, if_done_refused}
use Rattle.theory.specs.Edits.{gained_fresh}
use Rattle.theory.specs.AcceptedEdits.{edit_allowed}

module _ (φ : IndexMap) (ss : List Stage) (M p : ℕ) (v : ℤ) (f r w : List ℤ) where
  abbrev left : Edited
  left = edit_series φ ss M p v f r w

  abbrev new : List ℤ
  new = gained φ ss p (v -ℤ at f p) r

  pub edit_done : left.answer.number ≡ 0 → (left.count ≡ changed r new) × (left.samples ≡ set f p v) × (left.results ≡ new) × (left.work ≡ zeros w)
  unfolding edit_series
  edit_done e = (if_done_done _ _ _ e, if_done_done _ _ _ e, if_done_done _ _ _ e, if_done_done _ _ _ e)

  pub edit_refused : (left.answer.number ≡ 0 → ⊥) → (left.count ≡ 0) × (left.samples ≡ f) × (left.results ≡ r) × (left.work ≡ w)
  unfolding edit_series
  edit_refused n = (if_done_refused _ _ _ n, if_done_refused _ _ _ n, if_done_refused _ _ _ n, if_done_refused _ _ _ n)

  allowed : left.answer.number ≡ 0 → AllowedEdit φ ss M p v f r (length w)
  unfolding edit_series
  allowed e = edit_allowed φ ss M p v f r (length w) e

  pub edit_fresh : Nearness φ → r ≡ results φ ss f → left.results ≡ results φ ss left.samples
  edit_fresh C h = go (ℕ_discrete left.answer.number 0)
    where
      go : Dec (left.answer.number ≡ 0) → left.results ≡ results φ ss left.samples
      go (yes e) = rw ((edit_done e).2, (edit_done e).1) (ap (gained φ ss p (v -ℤ at f p)) h ∙ gained_fresh C ss f p v (allowed e).position)
      go (no n) = rw ((edit_refused n).2, (edit_refused n).1) h

  pub edit_sized : Sized M f → Sized M left.samples
  edit_sized h = go (ℕ_discrete left.answer.number 0)
    where
      go : Dec (left.answer.number ≡ 0) → Sized M left.samples
      go (yes e) = rw (edit_done e).1 (sized_set h p (record { bound = (allowed e).value }))
      go (no n) = rw (edit_refused n).1 h
