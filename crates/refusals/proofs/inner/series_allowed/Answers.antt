-- Rows 1 to 4, and where none applies rows 5 to 8; row 6 reads a capped product as the true one.
use mathlib.Core.Path.{refl, ◌∙◌, ap}
use Rattle.meaning.specs.Refusals.{first_of}
use Rattle.theory.specs.Refusals.{plan_numbered}
use Rattle.plan.specs.Structs.{passed_on}
use Rattle.plan.specs.Rows.{rows_here, rows_next}
use Rattle.plan.specs.Tested.{plan_passed}
use Rattle.plan.specs.Capped.{size_rows_capped}
use Rattle.refusals.proofs.inner.series_allowed.Goals as goal

pub returns-in_err-allowed : goal.returns-in_err-allowed
returns-in_err-allowed c = passed_on _ _ c.from_residual.ensures.1 (rows_here _ _ _ c.in_err-allowed.ensures)

pub scaled-requires : goal.scaled-requires
scaled-requires c = plan_passed _ c.in_ok-allowed.ensures refl

pub returns : goal.returns
returns c =
    let a = c.args in
    rows_next _ _ (plan_numbered _) c.in_ok-allowed.ensures
    (c.sizes_allowed.ensures ∙ ap first_of (size_rows_capped a.bound _ _ _ _ c.scaled.ensures) ∙ rw c.outside-bad_size.ensures)
