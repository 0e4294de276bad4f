-- The numbers that were taken, the call, and its answer told.
use mathlib.Core.Path.{ap, ◌∙◌}
use Rattle.meaning.specs.Refusals.{Answer}
use Rattle.meaning.specs.Refusals.{picture_of}
use Rattle.theory.specs.Narrow.{picture_cells_lem, narrow_carried}
use Rattle.plan.specs.Structs.{stages_of}
use Rattle.dungdapple.specs.Held.{carry_picture_held}
use Rattle.answers.specs.Untested.{carried_untested}
use borrow.Author.Rules.{rules}
use Rattle.dungdapple.specs.Same.{narrow_as}
use Rattle.dungdapple.proofs.dungdapple_carry_picture.Goals as goal

pub int_to_float-carry : goal.int_to_float-carry
int_to_float-carry c =
    let a = c.args in
    carry_picture_held c.raster-raster.result.bound a.results.now a.cells.now (stages_of c.raster-raster.result.across) (stages_of c.raster-raster.result.down) c.raster-raster.result.width c.raster-raster.result.height (c.unwrap_or.ensures ∙ c.carry_picture-run.ensures.carry)

pub told-requires : goal.told-requires
told-requires c =
    let a = c.args in
    let hs = stages_of c.raster-raster.result.across in
    let vs = stages_of c.raster-raster.result.down in
    let W = c.raster-raster.result.width in
    let H = c.raster-raster.result.height in
    let e = c.carry_picture-run.ensures.answer in
    narrow_as e (narrow_carried (picture_of hs vs W H) (picture_cells_lem hs vs W H) c.raster-raster.result.bound a.results.now a.cells.now)

pub returns : goal.returns
returns c =
    let a = c.args in
    let hs = stages_of c.raster-raster.result.across in
    let vs = stages_of c.raster-raster.result.down in
    let W = c.raster-raster.result.width in
    let H = c.raster-raster.result.height in
    let e = c.carry_picture-run.ensures.answer in
    let told = c.told.ensures (ap (λ (x : Answer). x.bad) e ∙ carried_untested (picture_of hs vs W H) c.raster-raster.result.bound a.results.now a.cells.now) in
    search rules
