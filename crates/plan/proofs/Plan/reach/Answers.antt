-- A plan has a divisor other than 0 exactly where it is accepted under some bound.
use Prim.Native.Nat.{◌*◌, ◌≤◌}
use native.Mathlib.Nat.{mul-le-mul}
use native.Mathlib.Omega.{arith}
use Rattle.meaning.specs.Kernel.{tap_reach}
use Rattle.theory.specs.Kernel.{tap_reach_width}
use Rattle.plan.specs.declared.Plan.{Plan}
use Rattle.plan.specs.Structs.{stage_of}
use Rattle.plan.specs.Tested.{Tested, reach_failed, reach_passed, reach_done}
use Rattle.plan.proofs.Plan.reach.Goals as goal
use Rattle.plan.proofs.Plan.reach.Goals.{Else-divisor-eq0}

-- far below 2^64
within : (p : Plan) → Tested p → p.passes * tap_reach (stage_of p) ≤ 8 * 1024
within p t = let far : tap_reach (stage_of p) ≤ 1024 = omega (arith, tap_reach_width (stage_of p), t.radius) in mul-le-mul t.passes.1 far

pub returns-then-divisor-eq0 : goal.returns-then-divisor-eq0
returns-then-divisor-eq0 c = reach_failed c.args.self c.divisor.ensures c.if-divisor-eq0.true

passed : (c : Else-divisor-eq0) → Tested c.args.self
passed c = reach_passed c.args.self c.divisor.ensures c.if-divisor-eq0.false

pub tap_reach-requires : goal.tap_reach-requires
tap_reach-requires c = passed (goal.at.tap_reach-requires c).Else-divisor-eq0

pub overflow_mul-result : goal.overflow_mul-result
overflow_mul-result c = rw c.tap_reach.ensures (omega (arith, within c.args.self (passed (goal.at.overflow_mul-result c).Else-divisor-eq0)))

pub returns : goal.returns
returns c =
    rw c.tap_reach.ensures (reach_done c.args.self c.divisor.ensures c.if-divisor-eq0.false)
