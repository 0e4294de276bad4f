-- Refused, nothing was touched; done, each cell is that of its result and carry.
use Rattle.std.proofs.lemmas.Result.{err_from_is_err_and}
use Rattle.carry.specs.Steps.{carry_refused, carry_done}
use Rattle.carry.proofs.carry_series.Goals as goal

pub returns-in_err-quotients : goal.returns-in_err-quotients
returns-in_err-quotients c = let p = err_from_is_err_and c.from_residual.result c.from_residual.ensures.1 in rw (p.1, p.2) (carry_refused _ _ _ _ _ c.in_err-quotients.ensures.answer)

pub returns : goal.returns
returns c =
    let p = c.in_ok-quotients.ensures.passed in
    carry_done _ _ _ _ c.in_ok-quotients.ensures.answer p.divides (rw p.results at c.carry_into.ensures.value) (rw p.results at c.carry_into.ensures.cells_after)
