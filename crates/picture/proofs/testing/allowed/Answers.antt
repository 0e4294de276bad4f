-- Rows 1 to 8, and where none applies row 11.
use mathlib.Core.Bool.{◌||◌}
use lib.ListN.{length}
use Rattle.meaning.specs.Refusals.{differs, picture_of}
use Rattle.plan.specs.Structs.{stages_of, passed_on}
use Rattle.series.specs.Steps.{test_refused, test_rest}
use Rattle.refusals.specs.Sides.{cells_asked}
use Rattle.picture.proofs.testing.allowed.Goals as goal

pub returns-in_err-picture_allowed : goal.returns-in_err-picture_allowed
returns-in_err-picture_allowed c =
    let a = c.args in
    let r = a.raster in
    passed_on _ _ c.from_residual.ensures.1
    (test_refused (picture_of (stages_of r.across) (stages_of r.down) r.width r.height) r.bound a.samples.now a.results a.work
    (cells_asked r.width r.height (λ n. differs (length a.samples.now) n || differs a.results n || differs a.work n) (rw c.picture_cells.ensures at c.unwrap_or-cells.ensures) c.lengths_differ-wrong_length.ensures)
    _ c.in_err-picture_allowed.ensures)

pub returns : goal.returns
returns c =
    let a = c.args in
    let r = a.raster in
    test_rest (picture_of (stages_of r.across) (stages_of r.down) r.width r.height) r.bound a.samples.now a.results a.work
    (cells_asked r.width r.height (λ n. differs (length a.samples.now) n || differs a.results n || differs a.work n) (rw c.picture_cells.ensures at c.unwrap_or-cells.ensures) c.lengths_differ-wrong_length.ensures)
    c.in_ok-picture_allowed.ensures c.samples_allowed.ensures
