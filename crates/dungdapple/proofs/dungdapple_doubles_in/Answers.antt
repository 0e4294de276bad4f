-- The numbers that were taken, the call, and its answer told.
use Rattle.theory.specs.Narrow.{narrow_doubles}
use Rattle.dungdapple.specs.Same.{narrow_as}
use Rattle.dungdapple.proofs.dungdapple_doubles_in.Goals as goal

pub checked-requires : goal.checked-requires
checked-requires c =
    let a = c.args in
    narrow_as c.doubles_in-answer.ensures.answer (narrow_doubles c.count-most.result a.doubles.now a.samples.now)
