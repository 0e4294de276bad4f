-- The taps are the plan's, so an edit by them is the definition's.
use Rattle.std.proofs.Common.{◌≡◌, ◌*◌, sym}
use mir.Facts.{to_z-of_z}
use Rattle.meaning.specs.Kernel.{divisor}
use Rattle.plan.specs.Structs.{stages_of}
use Rattle.plan.specs.Capped.{capped_below}
use Rattle.stored.specs.Changes.{gainable, changes_held}
use Rattle.stored.proofs.inner.by_taps.Goals as goal
use Rattle.stored.proofs.inner.by_taps.Goals.{After-scaled}

limit_is : (c : After-scaled) → let a = c.args in c.scaled.result ≡ a.bound * divisor (stages_of a.plan)
limit_is c = let a = c.args in sym (capped_below (a.bound * divisor (stages_of a.plan)) c.scaled.result (sym c.scaled.ensures) c.requires.editable.common.product)

pub invariant_of-edit : goal.invariant_of-edit
invariant_of-edit c =
    let a = c.args in
    record { gainable = rw (to_z-of_z c.ranges.change) (gainable (stages_of a.plan) a.bound a.p a.change a.results.now c.requires.editable _ c.requires.whole.held) }

pub returns : goal.returns
returns c =
    let a = c.args in
    changes_held (stages_of a.plan) a.bound a.p a.change a.results.now c.requires.editable _ c.requires.whole.held c.requires.whole.count (rw (limit_is (goal.at.returns c).After-scaled, to_z-of_z c.ranges.change) at c.apply.ensures)
