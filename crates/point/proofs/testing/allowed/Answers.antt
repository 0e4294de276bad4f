-- Rows 1 to 9, and where none applies row 11 of the samples within reach.
use mathlib.Core.Path.{◌≡◌, refl, ◌∙◌, ap}
use native.Mathlib.Omega.{arith}
use lib.ListN.{length}
use Rattle.meaning.specs.Refusals.{differs}
use Rattle.meaning.specs.Kernel.{reach}
use Rattle.theory.specs.Accepted.{accepted_reach, length_accepted}
use Rattle.theory.specs.Farthest.{reach_most}
use Rattle.theory.specs.Placed.{placed_allowed}
use Rattle.plan.specs.Structs.{stage_of, stages_of, passed_on}
use Rattle.point.specs.Steps.{test_refused, test_sample}
use Rattle.point.proofs.testing.allowed.Goals as goal
use Rattle.point.proofs.testing.allowed.Goals.{After-reach}

pub returns-in_err-position_allowed : goal.returns-in_err-position_allowed
returns-in_err-position_allowed c =
    let a = c.args in
    passed_on _ _ c.from_residual.ensures.1
    (test_refused (stages_of a.plan) a.bound a.position a.samples.now a.work _ (ap (differs a.work) (c.edit_room.ensures (stages_of a.plan))) _ c.in_err-position_allowed.ensures)

pub within_reach-span-requires : goal.within_reach-span-requires
within_reach-span-requires c =
    let a = c.args in
    let (ok, w, l) = placed_allowed (stages_of a.plan) a.bound (length a.samples.now) _ a.position c.in_ok-position_allowed.ensures refl in
    omega (arith, c.reach.ensures ∙ accepted_reach _ (length_accepted ok), reach_most a.plan.passes (stage_of a.plan) (length_accepted ok))

pub returns : goal.returns
returns c =
    let a = c.args in
    let (ok, w, l) = placed_allowed (stages_of a.plan) a.bound (length a.samples.now) _ a.position c.in_ok-position_allowed.ensures refl in
    let r : c.reach.result ≡ reach (stages_of a.plan) = c.reach.ensures ∙ accepted_reach _ (length_accepted ok) in
    test_sample (stages_of a.plan) a.bound a.position a.samples.now a.work _ (ap (differs a.work) (c.edit_room.ensures (stages_of a.plan))) c.in_ok-position_allowed.ensures (omega arith) (omega arith) c.samples_allowed.ensures
