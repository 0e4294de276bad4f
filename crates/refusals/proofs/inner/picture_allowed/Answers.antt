-- Rows 1 to 4 of both plans, and where none applies rows 5 to 8; row 6 reads a capped product of both divisors as the true one.
use mathlib.Core.Path.{refl, ◌∙◌, ap}
use Rattle.meaning.specs.Refusals.{first_of}
use Rattle.theory.specs.Refusals.{plan_numbered}
use Rattle.plan.specs.Structs.{passed_on}
use Rattle.plan.specs.Rows.{rows_here, rows_next}
use Rattle.plan.specs.Tested.{plans_passed, plans_product}
use Rattle.plan.specs.Capped.{size_rows_capped}
use Rattle.refusals.specs.Sides.{cells_test}
use Rattle.refusals.proofs.inner.picture_allowed.Goals as goal

pub returns-in_err-plans_allowed : goal.returns-in_err-plans_allowed
returns-in_err-plans_allowed c = passed_on _ _ c.from_residual.ensures.1 (rows_here _ _ _ c.in_err-plans_allowed.ensures)

pub scaled-requires : goal.scaled-requires
scaled-requires c = let a = c.args.raster in (plans_passed a.across a.down c.in_ok-plans_allowed.ensures refl).0

pub scaled-product-requires : goal.scaled-product-requires
scaled-product-requires c = let a = c.args.raster in (plans_passed a.across a.down c.in_ok-plans_allowed.ensures refl).1

pub returns : goal.returns
returns c =
    let a = c.args.raster in
    let t = plans_passed a.across a.down c.in_ok-plans_allowed.ensures refl in
    let product = plans_product a.across a.down a.bound _ _ t.1 c.scaled.ensures c.scaled-product.ensures in
    rows_next _ _ (plan_numbered _) c.in_ok-plans_allowed.ensures
    (c.sizes_allowed.ensures ∙ ap first_of (size_rows_capped a.bound _ _ _ _ product) ∙ rw (cells_test a.width a.height (rw c.picture_cells.ensures at c.is_none-bad_size.ensures)))
