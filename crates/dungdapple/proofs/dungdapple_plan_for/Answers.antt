-- The numbers that were taken, the call, and its answer told.
use mathlib.Core.Path.{◌≡◌, ap, ◌∙◌}
use native.Mathlib.Omega.{arith}
use Rattle.meaning.specs.Planner.{Planned, plan_for}
use Rattle.planner.specs.declared.Planned.{Planned as Found}
use Rattle.theory.specs.Narrow.{narrow_planned, planned_radius, planned_edge}
use Rattle.dungdapple.specs.Held.{fits_as}
use Rattle.dungdapple.specs.Found.{planned_found}
use Rattle.dungdapple.specs.Same.{same₃}
use Rattle.dungdapple.proofs.dungdapple_plan_for.Goals as goal

pub overflow_cast-radius : goal.overflow_cast-radius
overflow_cast-radius c =
    let e = planned_found _ _ _ c.plan_for-planned.result c.plan_for-planned.ensures in
    fits_as (ap (λ (p : Found). p.radius) c.unwrap_or-found.ensures ∙ ap (λ (o : Planned). o.radius) e) (planned_radius c.count-sigma.result c.count-times.result c.count-weight.result) (omega arith)

pub overflow_cast-edge : goal.overflow_cast-edge
overflow_cast-edge c =
    let e = planned_found _ _ _ c.plan_for-planned.result c.plan_for-planned.ensures in
    fits_as (ap (λ (p : Found). p.edge) c.unwrap_or-found.ensures ∙ ap (λ (o : Planned). o.edge) e) (planned_edge c.count-sigma.result c.count-times.result c.count-weight.result) (omega arith)

pub number-requires : goal.number-requires
number-requires c =
    let e = planned_found _ _ _ c.plan_for-planned.result c.plan_for-planned.ensures in
    omega (arith, ap (λ (o : Planned). o.answer.number) e, (narrow_planned c.count-sigma.result c.count-times.result c.count-weight.result).number)

pub returns : goal.returns
returns c =
    let e = planned_found _ _ _ c.plan_for-planned.result c.plan_for-planned.ensures in
    rw (c.number.ensures, c.unwrap_or-found.ensures) (e ∙ same₃ plan_for c.count-sigma.ensures c.count-times.ensures c.count-weight.ensures)
