-- The numbers that were taken, the call, and its answer told.
use mathlib.Core.List.{[]}
use mathlib.Core.Path.{ap, ◌∙◌}
use Rattle.meaning.specs.Refusals.{Answer}
use lib.ListN.{length}
use Rattle.meaning.specs.Values.{ratio}
use Rattle.meaning.specs.Refusals.{series_of}
use Rattle.theory.specs.Narrow.{series_cells, narrow_converted}
use Rattle.plan.specs.Structs.{stages_of}
use Rattle.answers.specs.Untested.{converted_untested}
use borrow.Author.Rules.{rules}
use Rattle.dungdapple.specs.Same.{narrow_as}
use Rattle.dungdapple.proofs.dungdapple_doubles_series.Goals as goal

pub told-requires : goal.told-requires
told-requires c =
    let a = c.args in
    let ss = stages_of c.plan-numbers.result in
    let e = c.doubles_series-answer.ensures.answer in
    narrow_as e (narrow_converted (series_of ss (length a.results.now)) (series_cells ss (length a.results.now)) c.count-most.result a.results.now a.cells.now ratio)

pub returns : goal.returns
returns c =
    let a = c.args in
    let ss = stages_of c.plan-numbers.result in
    let e = c.doubles_series-answer.ensures.answer in
    let told = c.told.ensures (ap (λ (x : Answer). x.bad) e ∙ converted_untested ratio (series_of ss (length a.results.now)) c.count-most.result a.results.now a.cells.now [] tt) in
    search rules
