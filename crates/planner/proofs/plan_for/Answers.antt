-- Where no row applies the bounds hold, and the outcome is that of the rule's two numbers.
use Rattle.std.proofs.lemmas.Result.{err_from_is_err_and}
use native.Mathlib.Omega.{arith}
use Rattle.planner.specs.Structs.{plan_refused, plan_full, plan_below, done_allowed}
use Rattle.planner.specs.Sizes.{found_fits}
use Rattle.planner.proofs.plan_for.Goals as goal

pub returns-in_err-allowed : goal.returns-in_err-allowed
returns-in_err-allowed c = let p = err_from_is_err_and c.from_residual.result c.from_residual.ensures.1 in rw (p.1, p.2) (plan_refused _ _ _ _ c.in_err-allowed.ensures)

pub radius-radius-requires : goal.radius-radius-requires
radius-radius-requires c = let ok = done_allowed _ _ _ c.in_ok-allowed.ensures in record { sigma = ok.sigma.1; passes = ok.passes }

pub edge-edge-requires : goal.edge-edge-requires
edge-edge-requires c = record { allowed = done_allowed _ _ _ c.in_ok-allowed.ensures; radius = c.radius-radius.ensures }

pub overflow_add-radius : goal.overflow_add-radius
overflow_add-radius c = omega (arith, found_fits (record { allowed = done_allowed _ _ _ c.in_ok-allowed.ensures; radius = c.radius-radius.ensures }))

pub returns-then-edge-inner : goal.returns-then-edge-inner
returns-then-edge-inner c = plan_full _ _ _ c.in_ok-allowed.ensures c.radius-radius.ensures c.edge-edge.ensures c.if-edge-inner.true

pub returns : goal.returns
returns c = plan_below _ _ _ c.in_ok-allowed.ensures c.radius-radius.ensures c.edge-edge.ensures c.if-edge-inner.false
