-- Refused, nothing was touched; done, each cell is that of its result.
use Rattle.std.proofs.lemmas.Result.{err_from_is_err_and}
use Rattle.meaning.specs.Values.{rounded}
use Rattle.theory.specs.AcceptedOutputs.{output_numbered}
use Rattle.plan.specs.Rows.{rows_here, rows_next}
use Rattle.outputs.specs.Steps.{call_refused, call_done}
use Rattle.whole.proofs.whole_series_by.Goals as goal

pub returns-in_err-quotients : goal.returns-in_err-quotients
returns-in_err-quotients c = let p = err_from_is_err_and c.from_residual.result c.from_residual.ensures.1 in rw (p.1, p.2) (call_refused _ (rounded c.args.mode) _ _ _ _ _ (rows_here _ _ _ c.in_err-quotients.ensures.answer))

pub returns-in_err-rounding : goal.returns-in_err-rounding
returns-in_err-rounding c =
    let p = err_from_is_err_and c.from_residual-in_err-rounding.result c.from_residual-in_err-rounding.ensures.1 in
    rw (p.1, p.2) (call_refused _ (rounded c.args.mode) _ _ _ _ _ (rows_next _ _ (output_numbered _ _ _ _) c.in_ok-quotients.ensures.answer c.in_err-rounding.ensures.answer))

pub returns : goal.returns
returns c = call_done _ (rounded c.args.mode) _ _ _ _ (rows_next _ _ (output_numbered _ _ _ _) c.in_ok-quotients.ensures.answer c.in_ok-rounding.ensures.answer) c.in_ok-quotients.ensures.passed.divides (rw (c.in_ok-rounding.ensures.same, c.in_ok-quotients.ensures.passed.results) at c.whole_into.ensures)
