-- The numbers that were taken, the call, and its answer told.
use mathlib.Core.Path.{◌∙◌}
use lib.ListN.{length}
use lib.Ieee.{of_bits}
use Rattle.meaning.specs.Extension.{fold}
use Rattle.meaning.specs.Calls as C
use Rattle.theory.specs.Narrow.{narrow_point}
use Rattle.plan.specs.Structs.{stages_of}
use Rattle.dungdapple.specs.Same.{same₃, stages_taken, narrow_as, points_as}
use Rattle.dungdapple.proofs.dungdapple_point.Goals as goal

pub checked-requires : goal.checked-requires
checked-requires c =
    let a = c.args in
    let ss = stages_of c.plan-numbers.result in
    narrow_as c.point_alone-pointed.ensures.answer (narrow_point fold ss c.count-most.result c.count-at.result a.samples.now (C.asked ss (length a.samples.now)))

pub returns : goal.returns
unfolding of_bits
returns c =
    let a = c.args in
    let t = c.point_alone-pointed.ensures in
    points_as (same₃ (λ ss M n. C.point fold ss M n a.samples.now (C.asked ss (length a.samples.now))) (stages_taken c.plan-numbers.ensures) c.count-most.ensures c.count-at.ensures) c.checked.ensures (record { answer = t.answer; value = c.unwrap_or.ensures ∙ t.value })
