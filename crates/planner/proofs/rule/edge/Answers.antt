-- The quotient is that of the definition: at the radius found no difference is cut off, and no product wraps.
use mathlib.Core.Path.{refl}
use native.Mathlib.Omega.{arith}
use Rattle.meaning.specs.Planner.{nearest_down, edge_for}
use Rattle.planner.specs.Sizes.{found_fits}
use Rattle.planner.proofs.rule.edge.Goals as goal

pub overflow_add-next : goal.overflow_add-next
overflow_add-next c = omega (arith, found_fits c.requires)

pub overflow_mul-numerator : goal.overflow_mul-numerator
overflow_mul-numerator c = omega (arith, found_fits c.requires)

pub overflow_add-numerator : goal.overflow_add-numerator
overflow_add-numerator c = omega (arith, found_fits c.requires)

pub overflow_mul-numerator-2 : goal.overflow_mul-numerator-2
overflow_mul-numerator-2 c = omega (arith, found_fits c.requires)

pub overflow_mul-numerator-4 : goal.overflow_mul-numerator-4
overflow_mul-numerator-4 c = omega (arith, found_fits c.requires)

pub overflow_mul-numerator-5 : goal.overflow_mul-numerator-5
overflow_mul-numerator-5 c = omega (arith, found_fits c.requires)

pub overflow_sub-numerator : goal.overflow_sub-numerator
overflow_sub-numerator c = omega (arith, found_fits c.requires)

pub overflow_mul-numerator-6 : goal.overflow_mul-numerator-6
overflow_mul-numerator-6 c = omega (arith, found_fits c.requires)

pub overflow_mul-denominator : goal.overflow_mul-denominator
overflow_mul-denominator c = omega (arith, found_fits c.requires)

pub overflow_mul-denominator-2 : goal.overflow_mul-denominator-2
overflow_mul-denominator-2 c = omega (arith, found_fits c.requires)

pub overflow_sub-denominator : goal.overflow_sub-denominator
overflow_sub-denominator c = omega (arith, found_fits c.requires)

pub overflow_mul-denominator-3 : goal.overflow_mul-denominator-3
overflow_mul-denominator-3 c = omega (arith, found_fits c.requires)

pub overflow_mul-result : goal.overflow_mul-result
overflow_mul-result c = omega (arith, found_fits c.requires)

pub overflow_add-result : goal.overflow_add-result
overflow_add-result c = omega (arith, found_fits c.requires)

pub overflow_mul-result-2 : goal.overflow_mul-result-2
overflow_mul-result-2 c = omega (arith, found_fits c.requires)

pub nonzero_div-result : goal.nonzero_div-result
nonzero_div-result c = omega (arith, found_fits c.requires)

pub returns : goal.returns
unfolding edge_for nearest_down
returns c = refl
