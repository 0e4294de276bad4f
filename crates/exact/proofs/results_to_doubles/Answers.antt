-- Refused, nothing was touched; done, every number was converted.
use Rattle.std.proofs.lemmas.Result.{err_from_is_err_and}
use Rattle.exact.specs.Converting.{held, exact_refused, exact_done}
use Rattle.exact.proofs.results_to_doubles.Goals as goal

pub returns-in_err-results_allowed : goal.returns-in_err-results_allowed
returns-in_err-results_allowed c = let p = err_from_is_err_and c.from_residual.result c.from_residual.ensures.1 in rw (p.1, p.2) (exact_refused _ _ _ c.in_err-results_allowed.ensures)

pub doubles_into-requires : goal.doubles_into-requires
doubles_into-requires c = held _ _ c.in_ok-results_allowed.ensures

pub returns : goal.returns
returns c = exact_done _ _ c.in_ok-results_allowed.ensures c.doubles_into.ensures
