-- The product of 1 and the divisor, capped: at most the largest result, it is the divisor; above, no bound lets the plan pass.
use mathlib.Core.Path.{sym, ◌∙◌}
use Rattle.plan.specs.Structs.{failed_number, passed_number}
use Rattle.plan.specs.Tested.{Tested, plan_passed, divisor_failed, divisor_large, divisor_done}
use Rattle.plan.proofs.Plan.divisor.Goals as goal
use Rattle.plan.proofs.Plan.divisor.Goals.{Else-is_err}

pub returns-then-is_err : goal.returns-then-is_err
returns-then-is_err c = divisor_failed c.args.self c.allowed.ensures (failed_number c.allowed.result (sym c.is_err.ensures.value ∙ c.if-is_err.true))

tested : (c : Else-is_err) → Tested c.args.self
tested c = plan_passed _ c.allowed.ensures (passed_number c.allowed.result (sym c.is_err.ensures.value ∙ c.if-is_err.false))

pub scaled-product-requires : goal.scaled-product-requires
scaled-product-requires c = tested (goal.at.scaled-product-requires c).Else-is_err

pub returns-then-product-gt-MAX_RESULT : goal.returns-then-product-gt-MAX_RESULT
returns-then-product-gt-MAX_RESULT c = divisor_large _ (tested (goal.at.returns-then-product-gt-MAX_RESULT c).Else-is_err) _ c.scaled-product.ensures c.if-product-gt-MAX_RESULT.true

pub returns : goal.returns
returns c = divisor_done _ (tested (goal.at.returns c).Else-is_err) _ c.scaled-product.ensures c.if-product-gt-MAX_RESULT.false
