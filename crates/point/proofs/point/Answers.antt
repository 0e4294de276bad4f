-- The point without work, and then work cleared where it has a value.
use mathlib.Core.Path.{refl}
use Rattle.plan.specs.Structs.{stages_of}
use Rattle.point.specs.Steps.{call_refused, call_done}
use Rattle.point.proofs.point.Goals as goal

pub returns-in_err-value : goal.returns-in_err-value
returns-in_err-value c =
    let a = c.args in
    call_refused (stages_of a.plan) a.bound a.position a.samples.now a.work.now _ _ c.from_residual.ensures.1 (c.in_err-value.ensures a.work.now refl)

pub returns : goal.returns
returns c =
    let a = c.args in
    call_done (stages_of a.plan) a.bound a.position a.samples.now a.work.now (c.in_ok-value.ensures a.work.now refl) c.clear.ensures
