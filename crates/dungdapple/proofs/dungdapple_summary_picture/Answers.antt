-- The numbers that were taken, the call, and its answer told.
use mathlib.Core.Path.{ap, ◌∙◌}
use Rattle.meaning.specs.Refusals.{Answer}
use lib.Ieee.{of_bits}
use native.Mathlib.Omega.{arith}
use Rattle.meaning.specs.Values.{Summary, summary_picture}
use Rattle.meaning.specs.Refusals.{picture_of}
use Rattle.theory.specs.Narrow.{picture_cells_lem, narrow_summary, lowest_most, highest_most}
use Rattle.plan.specs.Structs.{stages_of}
use Rattle.summary.specs.declared.Summary.{Summary as Found}
use Rattle.dungdapple.specs.Found.{summary_found}
use Rattle.dungdapple.specs.Held.{fits_as}
use Rattle.answers.specs.Untested.{summary_untested}
use Rattle.dungdapple.specs.Same.{same₅, stages_taken, narrow_as, summary_as}
use Rattle.dungdapple.proofs.dungdapple_summary_picture.Goals as goal

pub overflow_cast-lowest_at : goal.overflow_cast-lowest_at
unfolding of_bits
overflow_cast-lowest_at c =
    let a = c.args in
    let hs = stages_of c.raster-raster.result.across in
    let vs = stages_of c.raster-raster.result.down in
    let W = c.raster-raster.result.width in
    let H = c.raster-raster.result.height in
    fits_as (ap (λ (f : Found). f.lowest_at) c.unwrap_or-found.ensures ∙ ap (λ (o : Summary). o.lowest_at) (summary_found c.summary_picture-summed.result ∙ c.summary_picture-summed.ensures)) (lowest_most (picture_of hs vs W H) (picture_cells_lem hs vs W H) c.raster-raster.result.bound a.results.now) (omega arith)

pub overflow_cast-highest_at : goal.overflow_cast-highest_at
unfolding of_bits
overflow_cast-highest_at c =
    let a = c.args in
    let hs = stages_of c.raster-raster.result.across in
    let vs = stages_of c.raster-raster.result.down in
    let W = c.raster-raster.result.width in
    let H = c.raster-raster.result.height in
    fits_as (ap (λ (f : Found). f.highest_at) c.unwrap_or-found.ensures ∙ ap (λ (o : Summary). o.highest_at) (summary_found c.summary_picture-summed.result ∙ c.summary_picture-summed.ensures)) (highest_most (picture_of hs vs W H) (picture_cells_lem hs vs W H) c.raster-raster.result.bound a.results.now) (omega arith)

pub told-requires : goal.told-requires
told-requires c =
    let a = c.args in
    let hs = stages_of c.raster-raster.result.across in
    let vs = stages_of c.raster-raster.result.down in
    let W = c.raster-raster.result.width in
    let H = c.raster-raster.result.height in
    let e = ap (λ (o : Summary). o.answer) (summary_found c.summary_picture-summed.result ∙ c.summary_picture-summed.ensures) in
    narrow_as e (narrow_summary (picture_of hs vs W H) (picture_cells_lem hs vs W H) c.raster-raster.result.bound a.results.now)

pub returns : goal.returns
unfolding of_bits
returns c =
    let a = c.args in
    let hs = stages_of c.raster-raster.result.across in
    let vs = stages_of c.raster-raster.result.down in
    let W = c.raster-raster.result.width in
    let H = c.raster-raster.result.height in
    let r = c.raster-raster.ensures in
    let e = summary_found c.summary_picture-summed.result ∙ c.summary_picture-summed.ensures in
    rw c.unwrap_or-found.ensures (summary_as (same₅ (λ hs vs M W H. summary_picture hs vs M W H a.results.now) (stages_taken r.across) (stages_taken r.down) r.bound r.width r.height) (c.told.ensures (ap (λ (o : Summary). o.answer.bad) e ∙ summary_untested (picture_of hs vs W H) c.raster-raster.result.bound a.results.now)) e)
