-- A point's end, as numbers.
-- Laws: both (answer and value are those of the outcome); point_value_lem, point_refused (what each case says of it).
use Rattle.std.specs.Prelude.{ℕ, ◌≡◌, List, ℤ, Float, Result, Ok, Err}
use Rattle.std.proofs.Common.{sym, ap, ◌∙◌}
use Rattle.meaning.specs.Extension.{fold}
use Rattle.meaning.specs.Kernel.{Stage}
use Rattle.meaning.specs.Calls.{point}
use Rattle.meaning.specs.Values.{plus_zero}
use Rattle.plan.specs.declared.Refusal.{Refusal}
use Rattle.plan.specs.Structs.{refused, answer_of, value_or}
use Rattle.point.specs.Contract.{Tells}
use Rattle.answers.specs.Told.{said}
use Rattle.dungdapple.specs.Told.{Points}

module _ (ss : List Stage) (M n : ℕ) (f w : List ℤ) {q : Result Float Refusal} (g : Tells (point fold ss M n f w) q) where
  pub both : Points (point fold ss M n f w) (answer_of q) (value_or plus_zero q)
  both = record { answer = g.answer; value = g.value }

  pub point_value_lem : {v : Float} → q ≡ Ok v → Points (point fold ss M n f w) (said 0 0 0) v
  point_value_lem e = record { answer = sym (ap answer_of e) ∙ g.answer; value = sym (ap (value_or plus_zero) e) ∙ g.value }

  pub point_refused : {e : Refusal} → q ≡ Err e → Points (point fold ss M n f w) (refused e) plus_zero
  point_refused e = record { answer = sym (ap answer_of e) ∙ g.answer; value = sym (ap (value_or plus_zero) e) ∙ g.value }
