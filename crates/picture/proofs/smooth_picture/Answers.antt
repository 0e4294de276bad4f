-- Refused, nothing was touched; done, the passes are the results and work was cleared.
use mathlib.Core.Path.{◌≡◌, ◌∙◌}
use native.Mathlib.Omega.{arith}
use lib.ListN.{length}
use Rattle.meaning.specs.Refusals.{picture_of}
use Rattle.theory.specs.HalfSample.{half_sample}
use Rattle.theory.specs.Picture.{rows_first}
use Rattle.plan.specs.Structs.{stages_of}
use Rattle.series.specs.Steps.{call_refused, call_done}
use Rattle.picture.specs.Steps.{ready}
use Rattle.picture.proofs.smooth_picture.Goals as goal

pub returns-in_err-allowed : goal.returns-in_err-allowed
returns-in_err-allowed c =
    let a = c.args in
    let r = a.raster in
    call_refused (picture_of (stages_of r.across) (stages_of r.down) r.width r.height) r.bound _ a.samples.now a.results.now a.work.now _ _ c.from_residual.ensures.1 c.in_err-allowed.ensures

pub smooth_into-requires : goal.smooth_into-requires
smooth_into-requires c =
    let a = c.args in
    let r = a.raster in
    (omega arith, ready r.across r.down r.bound r.width r.height a.samples.now (length a.results.now) (length a.work.now) c.in_ok-allowed.ensures)

pub returns : goal.returns
returns c =
    let a = c.args in
    let r = a.raster in
    let kept : length c.smooth_into.new.other ≡ length a.work.now = omega arith in
    call_done (picture_of (stages_of r.across) (stages_of r.down) r.width r.height) r.bound _ a.samples.now a.results.now a.work.now c.in_ok-allowed.ensures
    (c.smooth_into.ensures ∙ rows_first half_sample half_sample _ _ _ _ _) c.clear.ensures kept
