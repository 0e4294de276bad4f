-- The taps are the plan's, so the shares within reach make the definition's result.
use Rattle.std.proofs.Common.{arith, ◌≡◌, ◌∙◌}
use Rattle.std.proofs.lemmas.Int.{to_z-of_z}
use Rattle.meaning.specs.Kernel.{reach}
use Rattle.theory.specs.Accepted.{accepted_reach, length_accepted}
use Rattle.plan.specs.Structs.{stages_of}
use Rattle.result.specs.Shares.{summable, summed_result}
use Rattle.result.proofs.inner.by_taps.Goals as goal
use Rattle.result.proofs.inner.by_taps.Goals.{After-reach}

far : (c : After-reach) → c.reach.result ≡ reach (stages_of c.args.plan)
far c = c.reach.ensures ∙ accepted_reach _ (length_accepted c.requires.pointable.common)

pub within_reach-span-requires : goal.within_reach-span-requires
within_reach-span-requires c = omega (arith, far c)

pub summed-requires : goal.summed-requires
summed-requires c =
    let f = far (goal.at.summed-requires c).After-reach in
    summable c.requires.whole.held c.requires.pointable (omega arith) (omega arith)

pub returns : goal.returns
returns c =
    let f = far (goal.at.returns c).After-reach in
    let e = summed_result c.requires.whole.held c.requires.pointable (omega arith) c.summed.ensures in
    grind (arith, to_z-of_z)
