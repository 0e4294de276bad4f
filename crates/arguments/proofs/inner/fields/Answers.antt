-- The first number that its field cannot hold.
use Rattle.std.proofs.Common.{◌≡◌, ◌∙◌, refl, sym, ap, arith, ℕ, Option, None, Some, Result, Ok, Err}
use Rattle.std.specs.Prelude.{IsErrAnd}
use Rattle.std.specs.Option.{ok_or}
use Rattle.std.specs.Result.{OkIff, result_ok}
use Rattle.std.proofs.lemmas.Option.{none-some}
use Rattle.std.proofs.lemmas.Result.{err_from_is_err_and}
use Rattle.plan.specs.declared.Refusal.{Refusal}
use Rattle.plan.specs.Structs.{refused, answer_of}
use Rattle.record.specs.declared.Fields.{Fields}
use Rattle.arguments.specs.Numbers.{numbers_of}
use Rattle.arguments.specs.Fields.{field_1, field_2, field_3, field_4, field_5, fields_hold}
use Rattle.arguments.proofs.inner.fields.Goals as goal

-- what is answered for a number that its field cannot hold
told : {o : Option ℕ} {e : Refusal} (d : Refusal) (r : Result Fields Refusal) → o ≡ None → Err e ≡ ok_or o d → IsErrAnd r (λ y. y ≡ e) → answer_of r ≡ refused d
told d r n v h = let p = err_from_is_err_and r h in rw (p.1, p.2, ap answer_of v, n) refl

module _ {E P : Type 0} {o : Option ℕ} (n : ℕ) where
  over : (t : Result ℕ E) → OkIff t P n → o ≡ result_ok t → o ≡ None → P → ⊥
  over (Ok x) h v s = absurd (none-some x (sym s ∙ v))
  over (Err e) h v s = h

  held : {x : ℕ} (t : Result ℕ E) → OkIff t P n → o ≡ result_ok t → o ≡ Some x → P
  held (Ok y) h v s = h.0
  held {x = x} (Err e) h v s = absurd (none-some x (sym v ∙ s))

pub returns-in_err-passes-clause-answer : goal.returns-in_err-passes-clause-answer
returns-in_err-passes-clause-answer c =
    let e = c.in_err-passes.ensures in
    told _ _ e.ok_part e.value c.from_residual.ensures.1 ∙ field_1 (numbers_of c.args.plan) _ (omega (arith, over _ c.try_from.result c.try_from.ensures c.ok.ensures.value e.ok_part))

pub returns-in_err-radius-clause-answer : goal.returns-in_err-radius-clause-answer
returns-in_err-radius-clause-answer c =
    let e = c.in_err-radius.ensures in
    let passes = held _ c.try_from.result c.try_from.ensures c.ok.ensures.value c.in_ok-passes.ensures.ok_part in
    told _ _ e.ok_part e.value c.from_residual-in_err-radius.ensures.1 ∙ field_2 (numbers_of c.args.plan) _ passes (omega (arith, over _ c.try_from-2.result c.try_from-2.ensures c.ok-2.ensures.value e.ok_part))

pub returns-in_err-inner-clause-answer : goal.returns-in_err-inner-clause-answer
returns-in_err-inner-clause-answer c =
    let e = c.in_err-inner.ensures in
    let passes = held _ c.try_from.result c.try_from.ensures c.ok.ensures.value c.in_ok-passes.ensures.ok_part in
    let radius = held _ c.try_from-2.result c.try_from-2.ensures c.ok-2.ensures.value c.in_ok-radius.ensures.ok_part in
    told _ _ e.ok_part e.value c.from_residual-in_err-inner.ensures.1 ∙ field_3 (numbers_of c.args.plan) _ passes radius (omega (arith, over _ c.try_from-3.result c.try_from-3.ensures c.ok-3.ensures.value e.ok_part))

pub returns-in_err-edge-clause-answer : goal.returns-in_err-edge-clause-answer
returns-in_err-edge-clause-answer c =
    let e = c.in_err-edge.ensures in
    let passes = held _ c.try_from.result c.try_from.ensures c.ok.ensures.value c.in_ok-passes.ensures.ok_part in
    let radius = held _ c.try_from-2.result c.try_from-2.ensures c.ok-2.ensures.value c.in_ok-radius.ensures.ok_part in
    let inner = held _ c.try_from-3.result c.try_from-3.ensures c.ok-3.ensures.value c.in_ok-inner.ensures.ok_part in
    told _ _ e.ok_part e.value c.from_residual-in_err-edge.ensures.1 ∙ field_4 (numbers_of c.args.plan) _ passes radius inner (omega (arith, over _ c.try_from-4.result c.try_from-4.ensures c.ok-4.ensures.value e.ok_part))

pub returns-in_err-bound-clause-answer : goal.returns-in_err-bound-clause-answer
returns-in_err-bound-clause-answer c =
    let e = c.in_err-bound.ensures in
    let passes = held _ c.try_from.result c.try_from.ensures c.ok.ensures.value c.in_ok-passes.ensures.ok_part in
    let radius = held _ c.try_from-2.result c.try_from-2.ensures c.ok-2.ensures.value c.in_ok-radius.ensures.ok_part in
    let inner = held _ c.try_from-3.result c.try_from-3.ensures c.ok-3.ensures.value c.in_ok-inner.ensures.ok_part in
    let edge = held _ c.try_from-4.result c.try_from-4.ensures c.ok-4.ensures.value c.in_ok-edge.ensures.ok_part in
    told _ _ e.ok_part e.value c.from_residual-in_err-bound.ensures.1 ∙ field_5 (numbers_of c.args.plan) _ passes radius inner edge (omega (arith, over _ c.try_from-5.result c.try_from-5.ensures c.ok-5.ensures.value e.ok_part))

pub returns-clause-answer : goal.returns-clause-answer
returns-clause-answer c =
    let passes = held _ c.try_from.result c.try_from.ensures c.ok.ensures.value c.in_ok-passes.ensures.ok_part in
    let radius = held _ c.try_from-2.result c.try_from-2.ensures c.ok-2.ensures.value c.in_ok-radius.ensures.ok_part in
    let inner = held _ c.try_from-3.result c.try_from-3.ensures c.ok-3.ensures.value c.in_ok-inner.ensures.ok_part in
    let edge = held _ c.try_from-4.result c.try_from-4.ensures c.ok-4.ensures.value c.in_ok-edge.ensures.ok_part in
    let bound = held _ c.try_from-5.result c.try_from-5.ensures c.ok-5.ensures.value c.in_ok-bound.ensures.ok_part in
    fields_hold (numbers_of c.args.plan) _ passes radius inner edge bound
