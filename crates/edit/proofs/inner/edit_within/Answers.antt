-- Refused, nothing was touched; done, the sample is the new value and the results have their gains. Of work only the length is tested.
use mathlib.Core.Path.{◌≡◌, ◌∙◌}
use borrow.Author.Rules.{rules}
use Rattle.std.proofs.Common.{arith}
use lib.IntN.{◌-ℤ◌}
use mir.Syntax.{w32, w64}
use mir.Val.{to_z, of_z}
use Rattle.meaning.specs.Extension.{at}
use mir.Facts.{to_z-of_z}
use Rattle.edit.specs.Steps.{position_inside, value_fits, change_fits, editable, edit_refused, edit_too_large, edit_done}
use Rattle.edit.proofs.inner.edit_within.Goals as goal
use Rattle.edit.proofs.inner.edit_within.Goals.{After-from}

pub returns-in_err-allowed : goal.returns-in_err-allowed
returns-in_err-allowed c = edit_refused _ _ _ _ _ c.args.results.now _ _ _ c.from_residual.ensures.1 (rw (to_z-of_z c.ranges.value) at c.in_err-allowed.ensures)

pub offset_bounds-samples-position : goal.offset_bounds-samples-position
offset_bounds-samples-position c = let l = position_inside _ _ _ _ _ c.args.results.now _ (rw (to_z-of_z c.ranges.value) at c.in_ok-allowed.ensures) in search rules

pub slice_copy_out-from : goal.slice_copy_out-from
slice_copy_out-from c = position_inside _ _ _ _ _ c.args.results.now _ (rw (to_z-of_z c.ranges.value) at c.in_ok-allowed.ensures)

-- the change, as the code holds it
change_is : (c : After-from) → let a = c.args in to_z w64 (of_z w64 (to_z w64 (of_z w64 a.value) -ℤ to_z w64 (of_z w64 c.from.result))) ≡ a.value -ℤ at a.samples.now a.position
change_is c =
    let f = change_fits _ _ _ _ _ c.args.results.now _ (rw (to_z-of_z c.ranges.value) at c.in_ok-allowed.ensures) in
    grind (arith, to_z-of_z)

pub overflow_sub-change : goal.overflow_sub-change
overflow_sub-change c =
    let f = change_fits _ _ _ _ _ c.args.results.now _ (rw (to_z-of_z c.ranges.value) at c.in_ok-allowed.ensures) in
    grind (arith, to_z-of_z)

pub edit_results-requires : goal.edit_results-requires
edit_results-requires c = rw (change_is (goal.at.edit_results-requires c).After-from) (editable _ _ _ _ _ c.args.results.now _ (rw (to_z-of_z c.ranges.value) at c.in_ok-allowed.ensures))

pub returns-in_err-count : goal.returns-in_err-count
returns-in_err-count c = edit_too_large _ _ _ _ _ c.args.results.now _ (rw (to_z-of_z c.ranges.value) at c.in_ok-allowed.ensures) _ _ c.from_residual-in_err-count.ensures.1
    (rw (change_is (goal.at.returns-in_err-count c).After-from) at c.in_err-count.ensures)

pub offset_bounds-samples-position-2 : goal.offset_bounds-samples-position-2
offset_bounds-samples-position-2 c = let l = position_inside _ _ _ _ _ c.args.results.now _ (rw (to_z-of_z c.ranges.value) at c.in_ok-allowed.ensures) in search rules

pub bounds-samples-position : goal.bounds-samples-position
bounds-samples-position c = position_inside _ _ _ _ _ c.args.results.now _ (rw (to_z-of_z c.ranges.value) at c.in_ok-allowed.ensures)

pub overflow_cast-samples : goal.overflow_cast-samples
overflow_cast-samples c = rw (to_z-of_z c.ranges.value) (value_fits _ _ _ _ _ c.args.results.now _ (rw (to_z-of_z c.ranges.value) at c.in_ok-allowed.ensures))

pub returns : goal.returns
returns c = edit_done _ _ _ _ _ c.args.results.now _ (rw (to_z-of_z c.ranges.value) at c.in_ok-allowed.ensures) (rw (change_is (goal.at.returns c).After-from) at c.in_ok-count.ensures) (to_z-of_z {w = w32} (overflow_cast-samples c) ∙ to_z-of_z c.ranges.value)
