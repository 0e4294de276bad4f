-- The numbers that were taken, the call, and its answer told.
use lib.ListN.{length}
use Rattle.meaning.specs.Extension.{fold}
use Rattle.meaning.specs.Refusals.{series_of}
use Rattle.meaning.specs.Smoothing.{results}
use Rattle.theory.specs.Narrow.{series_cells, narrow_smoothed}
use Rattle.plan.specs.Structs.{stages_of}
use Rattle.dungdapple.specs.Same.{narrow_as}
use Rattle.dungdapple.proofs.dungdapple_smooth_series.Goals as goal

pub checked-requires : goal.checked-requires
checked-requires c =
    let a = c.args in
    let ss = stages_of c.plan-numbers.result in
    narrow_as c.smooth_series-answer.ensures.answer (narrow_smoothed (series_of ss (length a.samples.now)) (series_cells ss (length a.samples.now)) c.count-most.result (results fold ss a.samples.now) a.samples.now a.results.now a.work.now)
