-- The numbers that were taken, the call, and its answer told.
use mathlib.Core.Path.{ap, ◌∙◌}
use Rattle.meaning.specs.Refusals.{Answer}
use lib.ListN.{length}
use Rattle.meaning.specs.Refusals.{series_of}
use Rattle.theory.specs.Narrow.{series_cells, narrow_carried}
use Rattle.plan.specs.Structs.{stages_of}
use Rattle.dungdapple.specs.Held.{carry_series_held}
use Rattle.answers.specs.Untested.{carried_untested}
use borrow.Author.Rules.{rules}
use Rattle.dungdapple.specs.Same.{narrow_as}
use Rattle.dungdapple.proofs.dungdapple_carry_series.Goals as goal

pub int_to_float-carry : goal.int_to_float-carry
int_to_float-carry c =
    let a = c.args in
    carry_series_held c.count-most.result a.results.now a.cells.now (stages_of c.plan-numbers.result) (c.unwrap_or.ensures ∙ c.carry_series-carried.ensures.carry)

pub told-requires : goal.told-requires
told-requires c =
    let a = c.args in
    let ss = stages_of c.plan-numbers.result in
    let e = c.carry_series-carried.ensures.answer in
    narrow_as e (narrow_carried (series_of ss (length a.results.now)) (series_cells ss (length a.results.now)) c.count-most.result a.results.now a.cells.now)

pub returns : goal.returns
returns c =
    let a = c.args in
    let ss = stages_of c.plan-numbers.result in
    let e = c.carry_series-carried.ensures.answer in
    let told = c.told.ensures (ap (λ (x : Answer). x.bad) e ∙ carried_untested (series_of ss (length a.results.now)) c.count-most.result a.results.now a.cells.now) in
    search rules
