-- The edit without work, and then work cleared where it is done.
use mathlib.Core.Path.{refl}
use mir.Facts.{to_z-of_z}
use Rattle.plan.specs.Structs.{stages_of}
use Rattle.edit.specs.Steps.{call_refused, call_done}
use Rattle.edit.proofs.edit_series.Goals as goal

pub returns-in_err-count : goal.returns-in_err-count
returns-in_err-count c =
    let a = c.args in
    call_refused (stages_of a.plan) a.bound a.position a.value a.samples.now a.results.now a.work.now _ _ c.from_residual.ensures.1 (rw (to_z-of_z c.ranges.value) at (c.in_err-count.ensures a.work.now refl))

pub returns : goal.returns
returns c =
    let a = c.args in
    call_done (stages_of a.plan) a.bound a.position a.value a.samples.now a.results.now a.work.now (rw (to_z-of_z c.ranges.value) at (c.in_ok-count.ensures a.work.now refl)) c.clear.ensures
