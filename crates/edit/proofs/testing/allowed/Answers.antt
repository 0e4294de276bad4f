-- Rows 1 to 9, and where none applies row 10, then row 11 of the old sample alone.
use borrow.Author.Rules.{rules}
use mathlib.Core.Path.{◌≡◌, refl, ◌∙◌, ap}
use mathlib.Core.Bool.{◌||◌}
use native.Mathlib.Omega.{arith}
use lib.ListN.{length}
use mir.Facts.{to_z-of_z}
use Rattle.meaning.specs.Refusals.{differs}
use Rattle.meaning.specs.Calls.{edit_room}
use Rattle.plan.specs.Structs.{stages_of, passed_on}
use Rattle.theory.specs.Placed.{placed_allowed}
use Rattle.edit.specs.Rows.{front_refused, front_value, front_sample}
use Rattle.edit.proofs.testing.allowed.Goals as goal
use Rattle.edit.proofs.testing.allowed.Goals.{After-lengths_differ-wrong_length}

lengths : (c : After-lengths_differ-wrong_length) → let a = c.args in c.lengths_differ-wrong_length.result ≡ (differs a.results (length a.samples.now) || differs a.work (edit_room (stages_of a.plan) (length a.samples.now)))
lengths c = let a = c.args in c.lengths_differ-wrong_length.ensures ∙ ap (λ n. differs a.results (length a.samples.now) || differs a.work n) (c.edit_room.ensures (stages_of a.plan))

pub returns-in_err-position_allowed : goal.returns-in_err-position_allowed
returns-in_err-position_allowed c =
    let a = c.args in
    passed_on _ _ c.from_residual.ensures.1
    (front_refused (stages_of a.plan) a.bound a.position a.value a.samples.now a.results a.work _ (lengths (goal.at.returns-in_err-position_allowed c).After-lengths_differ-wrong_length) _ c.in_err-position_allowed.ensures)

pub returns-in_err-row : goal.returns-in_err-row
returns-in_err-row c =
    let a = c.args in
    passed_on _ _ c.from_residual-in_err-row.ensures.1
    (front_value (stages_of a.plan) a.bound a.position a.value a.samples.now a.results a.work _ (lengths (goal.at.returns-in_err-row c).After-lengths_differ-wrong_length) c.in_ok-position_allowed.ensures _ (rw (c.unsigned_abs.ensures.value, to_z-of_z c.ranges.value) at c.in_err-row.ensures))

pub overflow_add-place : goal.overflow_add-place
overflow_add-place c =
    let a = c.args in
    let (ok, w, l) = placed_allowed (stages_of a.plan) a.bound (length a.samples.now) _ a.position c.in_ok-position_allowed.ensures refl in
    search rules

pub samples_allowed-requires : goal.samples_allowed-requires
samples_allowed-requires c =
    let a = c.args in
    let (ok, w, l) = placed_allowed (stages_of a.plan) a.bound (length a.samples.now) _ a.position c.in_ok-position_allowed.ensures refl in
    omega arith

pub returns : goal.returns
returns c =
    let a = c.args in
    front_sample (stages_of a.plan) a.bound a.position a.value a.samples.now a.results a.work _ (lengths (goal.at.returns c).After-lengths_differ-wrong_length) c.in_ok-position_allowed.ensures (rw (c.unsigned_abs.ensures.value, to_z-of_z c.ranges.value) at c.in_ok-row.ensures) c.samples_allowed.ensures
