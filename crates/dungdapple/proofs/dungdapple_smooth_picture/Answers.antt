-- The numbers that were taken, the call, and its answer told.
use Rattle.meaning.specs.Extension.{fold}
use Rattle.meaning.specs.Refusals.{picture_of}
use Rattle.meaning.specs.Picture.{picture}
use Rattle.theory.specs.Narrow.{picture_cells_lem, narrow_smoothed}
use Rattle.plan.specs.Structs.{stages_of}
use Rattle.dungdapple.specs.Same.{narrow_as}
use Rattle.dungdapple.proofs.dungdapple_smooth_picture.Goals as goal

pub checked-requires : goal.checked-requires
checked-requires c =
    let a = c.args in
    let hs = stages_of c.raster-raster.result.across in
    let vs = stages_of c.raster-raster.result.down in
    let W = c.raster-raster.result.width in
    let H = c.raster-raster.result.height in
    narrow_as c.smooth_picture-answer.ensures.answer (narrow_smoothed (picture_of hs vs W H) (picture_cells_lem hs vs W H) c.raster-raster.result.bound (picture fold fold hs vs W H a.samples.now) a.samples.now a.results.now a.work.now)
