-- The numbers that were taken, the call, and its answer told.
use mathlib.Core.List.{[]}
use mathlib.Core.Path.{ap, ◌∙◌}
use Rattle.meaning.specs.Refusals.{Answer}
use Rattle.meaning.specs.Values.{ratio}
use Rattle.meaning.specs.Refusals.{picture_of}
use Rattle.theory.specs.Narrow.{picture_cells_lem, narrow_converted}
use Rattle.plan.specs.Structs.{stages_of}
use Rattle.answers.specs.Untested.{converted_untested}
use borrow.Author.Rules.{rules}
use Rattle.dungdapple.specs.Same.{narrow_as}
use Rattle.dungdapple.proofs.dungdapple_doubles_picture.Goals as goal

pub told-requires : goal.told-requires
told-requires c =
    let a = c.args in
    let hs = stages_of c.raster-raster.result.across in
    let vs = stages_of c.raster-raster.result.down in
    let W = c.raster-raster.result.width in
    let H = c.raster-raster.result.height in
    let e = c.doubles_picture-answer.ensures.answer in
    narrow_as e (narrow_converted (picture_of hs vs W H) (picture_cells_lem hs vs W H) c.raster-raster.result.bound a.results.now a.cells.now ratio)

pub returns : goal.returns
returns c =
    let a = c.args in
    let hs = stages_of c.raster-raster.result.across in
    let vs = stages_of c.raster-raster.result.down in
    let W = c.raster-raster.result.width in
    let H = c.raster-raster.result.height in
    let e = c.doubles_picture-answer.ensures.answer in
    let told = c.told.ensures (ap (λ (x : Answer). x.bad) e ∙ converted_untested ratio (picture_of hs vs W H) c.raster-raster.result.bound a.results.now a.cells.now [] tt) in
    search rules
