-- Of the plan that was taken.
use native.Mathlib.Omega.{arith}
use Rattle.theory.specs.Narrow.{plan_reach_most}
use Rattle.plan.specs.Structs.{stage_of}
use Rattle.dungdapple.proofs.dungdapple_reach.Goals as goal

pub overflow_cast-result : goal.overflow_cast-result
overflow_cast-result c = omega (arith, c.reach.ensures, plan_reach_most c.plan-numbers.result.passes (stage_of c.plan-numbers.result))
