-- The edit of a call that is lent so much work, as of any that is.
use mathlib.Core.Path.{sym, ◌∙◌}
use lib.ListN.{length}
use mir.Facts.{to_z-of_z}
use Rattle.meaning.specs.Calls.{asked}
use Rattle.theory.specs.Edits.{asked_length}
use Rattle.plan.specs.Structs.{stages_of}
use Rattle.edit.proofs.inner.edit_alone.Goals as goal

pub returns : goal.returns
returns c =
    let a = c.args in
    rw (to_z-of_z c.ranges.value) at (c.edit_within.ensures (asked (stages_of a.plan) (length a.samples.now)) (asked_length (stages_of a.plan) (length a.samples.now) ∙ sym (c.edit_room-room.ensures (stages_of a.plan))))
