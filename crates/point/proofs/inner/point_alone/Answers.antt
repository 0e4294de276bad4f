-- The point of a call that is lent so much work, as of any that is.
use mathlib.Core.Path.{sym, ◌∙◌}
use lib.ListN.{length}
use Rattle.meaning.specs.Calls.{asked}
use Rattle.theory.specs.Edits.{asked_length}
use Rattle.plan.specs.Structs.{stages_of}
use Rattle.point.proofs.inner.point_alone.Goals as goal

pub returns : goal.returns
returns c =
    let a = c.args in
    c.point_within.ensures (asked (stages_of a.plan) (length a.samples.now)) (asked_length (stages_of a.plan) (length a.samples.now) ∙ sym (c.edit_room-room.ensures (stages_of a.plan)))
