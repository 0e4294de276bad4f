-- Refused, nothing was touched; done, each cell is that of its result.
use Rattle.std.proofs.lemmas.Result.{err_from_is_err_and}
use Rattle.meaning.specs.Values.{ratio}
use Rattle.theory.specs.Refusals.{first_alone}
use Rattle.outputs.specs.Steps.{call_refused, call_done}
use Rattle.doubles.proofs.doubles_series.Goals as goal

pub returns-in_err-quotients : goal.returns-in_err-quotients
returns-in_err-quotients c = let p = err_from_is_err_and c.from_residual.result c.from_residual.ensures.1 in rw (p.1, p.2) (call_refused _ ratio _ _ _ _ _ (first_alone _ c.in_err-quotients.ensures.answer))

pub returns : goal.returns
returns c = call_done _ ratio _ _ _ _ (first_alone _ c.in_ok-quotients.ensures.answer) c.in_ok-quotients.ensures.passed.divides (rw c.in_ok-quotients.ensures.passed.results at c.doubles_into.ensures)
