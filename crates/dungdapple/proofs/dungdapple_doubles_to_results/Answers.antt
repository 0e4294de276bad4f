-- The call, and its answer told.
use Rattle.theory.specs.Narrow.{narrow_back}
use Rattle.dungdapple.specs.Same.{narrow_as}
use Rattle.dungdapple.proofs.dungdapple_doubles_to_results.Goals as goal

pub checked-requires : goal.checked-requires
checked-requires c =
    let a = c.args in
    narrow_as c.doubles_to_results-answer.ensures.answer (narrow_back a.doubles.now a.results.now)
