-- The numbers that were taken, the call, and its answer told.
use mathlib.Core.Path.{◌∙◌}
use native.Mathlib.Omega.{arith}
use lib.ListN.{length}
use mir.Syntax.{w64}
use mir.Val.{to_z, of_z}
use Rattle.meaning.specs.Extension.{fold}
use Rattle.meaning.specs.Calls as C
use Rattle.theory.specs.Narrow.{narrow_edit, narrow_count}
use Rattle.plan.specs.Structs.{stages_of}
use Rattle.dungdapple.specs.Held.{fits_as}
use Rattle.dungdapple.specs.Same.{narrow_as}
use Rattle.dungdapple.proofs.dungdapple_edit_series.Goals as goal

pub overflow_cast-count : goal.overflow_cast-count
overflow_cast-count c =
    let a = c.args in
    let ss = stages_of c.plan-numbers.result in
    fits_as (c.unwrap_or.ensures ∙ c.edit_alone-edited.ensures.count) (narrow_count fold ss c.count-most.result c.count-at.result (to_z w64 (of_z w64 c.whole-new.result)) a.samples.now a.results.now (C.asked ss (length a.samples.now))) (omega arith)

pub checked-requires : goal.checked-requires
checked-requires c =
    let a = c.args in
    let ss = stages_of c.plan-numbers.result in
    narrow_as c.edit_alone-edited.ensures.answer (narrow_edit fold ss c.count-most.result c.count-at.result (to_z w64 (of_z w64 c.whole-new.result)) a.samples.now a.results.now (C.asked ss (length a.samples.now)))
