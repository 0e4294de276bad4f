-- Row 7, and where it does not apply row 8.
use Rattle.std.proofs.Common.{sym, ◌∙◌, arith}
use Rattle.meaning.specs.Limits.{least, max_samples}
use Rattle.theory.specs.Tests.{outside_no}
use Rattle.plan.specs.Structs.{passed_on}
use Rattle.plan.specs.Rows.{row_here, row_next, row_off}
use Rattle.writer.proofs.writing.allowed.Goals as goal

pub returns-in_err-row : goal.returns-in_err-row
returns-in_err-row c = passed_on _ _ c.from_residual.ensures.1 (rw (← c.outside-bad_size.ensures) (row_here _ _ _ c.in_err-row.ensures))

pub overflow_mul-samples : goal.overflow_mul-samples
overflow_mul-samples c = omega (arith, outside_no least max_samples c.args.samples (sym c.outside-bad_size.ensures ∙ row_off _ tt c.in_ok-row.ensures))

pub overflow_add-samples : goal.overflow_add-samples
overflow_add-samples c = omega (arith, outside_no least max_samples c.args.samples (sym c.outside-bad_size.ensures ∙ row_off _ tt c.in_ok-row.ensures))

pub returns : goal.returns
returns c = rw (← c.outside-bad_size.ensures) (row_next _ _ tt c.in_ok-row.ensures c.row-2.ensures)
