-- The steps of an edit, each over plain lists.
-- Laws: position_inside, value_fits, change_fits, editable (what rows 1 to 11 leave); edit_refused, edit_too_large, edit_done (the ends of an edit without work); call_refused, call_done (of the call, with it).
use Rattle.std.specs.Prelude.{ℕ, ◌+◌, ◌*◌, ◌≤◌, ◌<◌, ◌≡◌, refl, List, length, set, ℤ, nat_abs, ◌-ℤ◌, Result, IsErrAnd}
use Rattle.std.proofs.Math.Path.{sym, ap}
use Rattle.std.proofs.Common.{◌∙◌, arith, SFits}
use Rattle.std.proofs.lemmas.Result.{err_from_is_err_and}
use Rattle.std.specs.Int.{w32, w64}
use Rattle.algebra.specs.Size.{Abs, abs--, fits_abs}
use Rattle.meaning.specs.Extension.{at, fold}
use Rattle.meaning.specs.Kernel.{Stage, divisor}
use Rattle.meaning.specs.Refusals.{Answer, first_of, zeros}
use Rattle.meaning.specs.Calls.{gained, edit_rows, edit_series}
use Rattle.theory.specs.Refusals.{refused_first, done_rest, if_done_done, if_done_refused}
use Rattle.theory.specs.AcceptedEdits.{Begun}
use Rattle.plan.specs.declared.Refusal.{Refusal}
use Rattle.plan.specs.Structs.{plain, refused, answer_of, value_or, refused_number}
use Rattle.edit.specs.Contract.{GivesAlone, Gives}
use Rattle.edit.specs.Rows.{front_rows, rows_parts, front_numbered, front_allowed}
use Rattle.stored.specs.Changes.{Changes, Editable}

-- ---- the ends of an edit, by what its test of rows 1 to 11 answered
module _ (ss : List Stage) (M p : ℕ) (v : ℤ) (f r : List ℤ) (nw : ℕ) where
  abbrev d : ℤ
  d = v -ℤ at f p

  pub edit_refused : (x : Refusal) (q : Result ℕ Refusal) → IsErrAnd q (λ y. y ≡ x) → refused x ≡ first_of (front_rows ss M p v f (length r) nw)
      → (w : List ℤ) → length w ≡ nw → GivesAlone (edit_series fold ss M p v f r w) (answer_of q) (value_or 0 q) f r
  unfolding edit_series
  edit_refused x q h e w l =
      let o = err_from_is_err_and q h in
      let all = refused_first _ _ e (refused_number x) ∙ sym (ap first_of (rows_parts ss M p v f r (gained fold ss p d r) nw)) in
      let n = refused_number x in
      rw (o.1, o.2, l, ← all) (record { answer = refl; count = sym (if_done_refused (refused x) _ 0 n); samples = sym (if_done_refused (refused x) _ f n); results = sym (if_done_refused (refused x) _ r n) })

  module _ (e : plain 0 ≡ first_of (front_rows ss M p v f (length r) nw)) where
    begun : Begun ss M p v f (length r) nw × (nat_abs (at f p) ≤ M)
    begun = front_allowed ss M p v f (length r) nw e

    pub position_inside : p < length f
    position_inside = begun.0.position

    pub value_fits : SFits w32 v
    value_fits = fits_abs {n = M} (record { bound = begun.0.value }) (omega (arith, begun.0.common.bound))

    change_size : Abs (v -ℤ at f p) (M + M)
    change_size = abs-- {a = v} {b = at f p} (record { bound = begun.0.value }) (record { bound = begun.1 })

    pub change_fits : SFits w64 (v -ℤ at f p)
    change_fits = fits_abs change_size (omega (arith, begun.0.common.bound))

    pub editable : Editable ss M p (v -ℤ at f p) r
    editable = record { common = rw begun.0.results begun.0.common; position = rw begun.0.results position_inside; change = omega (arith, change_size.bound) }

    module _ {b : Answer} {k : ℕ} {left : List ℤ} (h : Changes ss (M * divisor ss) p (v -ℤ at f p) r b k left) where
      all : b ≡ first_of (edit_rows ss M p v f r (gained fold ss p (v -ℤ at f p) r) nw)
      all = done_rest _ _ (front_numbered ss M p v f (length r) nw) e refl h.answer ∙ sym (ap first_of (rows_parts ss M p v f r (gained fold ss p d r) nw))

    pub edit_too_large : (x : Refusal) (q : Result ℕ Refusal) → IsErrAnd q (λ y. y ≡ x) → {left : List ℤ} → Changes ss (M * divisor ss) p (v -ℤ at f p) r (refused x) 0 left
        → (w : List ℤ) → length w ≡ nw → GivesAlone (edit_series fold ss M p v f r w) (answer_of q) (value_or 0 q) f left
    unfolding edit_series
    edit_too_large x q i h w l =
        let o = err_from_is_err_and q i in
        rw (o.1, o.2, l, ← all h) (record { answer = refl; count = h.count; samples = sym (if_done_refused (refused x) _ f (refused_number x)); results = h.results })

    pub edit_done : {k : ℕ} {left : List ℤ} → Changes ss (M * divisor ss) p (v -ℤ at f p) r (plain 0) k left → {u : ℤ} → u ≡ v
        → (w : List ℤ) → length w ≡ nw → GivesAlone (edit_series fold ss M p v f r w) (plain 0) k (set f p u) left
    unfolding edit_series
    edit_done h g w l = rw (l, ← all h) (record { answer = refl; count = h.count; samples = ap (set f p) g ∙ sym (if_done_done _ _ f refl); results = h.results })

-- ---- the ends of the call, which clears its work where the edit is done
module _ (ss : List Stage) (M p : ℕ) (v : ℤ) (f r w : List ℤ) {g s : List ℤ} where
  pub call_refused : (x : Refusal) (q : Result ℕ Refusal) → IsErrAnd q (λ y. y ≡ x) → GivesAlone (edit_series fold ss M p v f r w) (refused x) 0 g s
      → Gives (edit_series fold ss M p v f r w) (answer_of q) (value_or 0 q) g s w
  unfolding edit_series
  call_refused x q h e =
      let o = err_from_is_err_and q h in
      rw (o.1, o.2) (record { answer = e.answer; count = e.count; samples = e.samples; results = e.results; work = sym (if_done_refused _ _ w (rw (← e.answer) (refused_number x))) })

  pub call_done : {k : ℕ} → GivesAlone (edit_series fold ss M p v f r w) (plain 0) k g s → {x : List ℤ} → x ≡ zeros w → Gives (edit_series fold ss M p v f r w) (plain 0) k g s x
  unfolding edit_series
  call_done e t = record { answer = e.answer; count = e.count; samples = e.samples; results = e.results; work = t ∙ sym (if_done_done _ _ w (rw (← e.answer) refl)) }
