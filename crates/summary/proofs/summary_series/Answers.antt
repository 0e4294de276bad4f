-- Refused, it is the refused summary; done, that of the results.
use Rattle.std.proofs.lemmas.Result.{err_from_is_err_and}
use Rattle.summary.specs.Steps.{summary_refused, summary_done}
use Rattle.summary.proofs.summary_series.Goals as goal

pub returns-in_err-quotients : goal.returns-in_err-quotients
returns-in_err-quotients c = let p = err_from_is_err_and c.from_residual.result c.from_residual.ensures.1 in rw (p.1, p.2) (summary_refused _ _ _ _ c.in_err-quotients.ensures.answer)

pub returns : goal.returns
returns c = summary_done _ _ _ c.in_ok-quotients.ensures.answer c.in_ok-quotients.ensures.passed.divides (rw c.in_ok-quotients.ensures.passed.results at c.summary.ensures)
