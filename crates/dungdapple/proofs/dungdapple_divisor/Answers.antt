-- Of the plan that was taken; a double holds it.
use native.Mathlib.Omega.{arith}
use Rattle.theory.specs.Values.{whole_held}
use Rattle.theory.specs.Narrow.{divisor_most}
use Rattle.plan.specs.Structs.{stages_of}
use Rattle.dungdapple.proofs.dungdapple_divisor.Goals as goal

pub int_to_float-result : goal.int_to_float-result
int_to_float-result c = whole_held _ (omega (arith, c.divisor.ensures, divisor_most (stages_of c.plan-numbers.result)))
