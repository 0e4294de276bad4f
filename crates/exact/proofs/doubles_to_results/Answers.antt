-- Refused, nothing was touched; done, every number was converted.
use Rattle.std.proofs.lemmas.Result.{err_from_is_err_and}
use Rattle.exact.specs.Converting.{takable, back_refused, back_done}
use Rattle.exact.proofs.doubles_to_results.Goals as goal

pub returns-in_err-doubles_allowed : goal.returns-in_err-doubles_allowed
returns-in_err-doubles_allowed c = let p = err_from_is_err_and c.from_residual.result c.from_residual.ensures.1 in rw (p.1, p.2) (back_refused _ _ _ c.in_err-doubles_allowed.ensures)

pub results_into-requires : goal.results_into-requires
results_into-requires c = takable _ _ c.in_ok-doubles_allowed.ensures

pub returns : goal.returns
returns c = back_done _ _ c.in_ok-doubles_allowed.ensures c.results_into.ensures
