-- Refused, nothing was touched; done, the passes are the results and work was cleared.
use mathlib.Core.Path.{◌≡◌}
use native.Mathlib.Omega.{arith}
use lib.ListN.{length}
use Rattle.meaning.specs.Refusals.{series_of}
use Rattle.plan.specs.Structs.{stages_of}
use Rattle.series.specs.Steps.{ready, call_refused, call_done}
use Rattle.series.proofs.smooth_series.Goals as goal

pub returns-in_err-allowed : goal.returns-in_err-allowed
returns-in_err-allowed c =
    let a = c.args in
    call_refused (series_of (stages_of a.plan) (length a.samples.now)) a.bound _ a.samples.now a.results.now a.work.now _ _ c.from_residual.ensures.1 c.in_err-allowed.ensures

pub smooth_into-requires : goal.smooth_into-requires
smooth_into-requires c =
    let a = c.args in
    (omega arith, ready a.plan a.bound a.samples.now (length a.results.now) (length a.work.now) c.in_ok-allowed.ensures)

pub returns : goal.returns
returns c =
    let a = c.args in
    let kept : length c.smooth_into.new.other ≡ length a.work.now = omega arith in
    call_done (series_of (stages_of a.plan) (length a.samples.now)) a.bound _ a.samples.now a.results.now a.work.now c.in_ok-allowed.ensures c.smooth_into.ensures c.clear.ensures kept
