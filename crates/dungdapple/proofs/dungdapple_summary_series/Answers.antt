-- The numbers that were taken, the call, and its answer told.
use mathlib.Core.Path.{ap, ◌∙◌}
use Rattle.meaning.specs.Refusals.{Answer}
use lib.Ieee.{of_bits}
use native.Mathlib.Omega.{arith}
use lib.ListN.{length}
use Rattle.meaning.specs.Values.{Summary, summary_series}
use Rattle.meaning.specs.Refusals.{series_of}
use Rattle.theory.specs.Narrow.{series_cells, narrow_summary, lowest_most, highest_most}
use Rattle.plan.specs.Structs.{stages_of}
use Rattle.summary.specs.declared.Summary.{Summary as Found}
use Rattle.dungdapple.specs.Found.{summary_found}
use Rattle.dungdapple.specs.Held.{fits_as}
use Rattle.answers.specs.Untested.{summary_untested}
use Rattle.dungdapple.specs.Same.{same₂, stages_taken, narrow_as, summary_as}
use Rattle.dungdapple.proofs.dungdapple_summary_series.Goals as goal

pub overflow_cast-lowest_at : goal.overflow_cast-lowest_at
unfolding of_bits
overflow_cast-lowest_at c =
    let a = c.args in
    let ss = stages_of c.plan-numbers.result in
    fits_as (ap (λ (f : Found). f.lowest_at) c.unwrap_or-found.ensures ∙ ap (λ (o : Summary). o.lowest_at) (summary_found c.summary_series-summed.result ∙ c.summary_series-summed.ensures)) (lowest_most (series_of ss (length a.results.now)) (series_cells ss (length a.results.now)) c.count-most.result a.results.now) (omega arith)

pub overflow_cast-highest_at : goal.overflow_cast-highest_at
unfolding of_bits
overflow_cast-highest_at c =
    let a = c.args in
    let ss = stages_of c.plan-numbers.result in
    fits_as (ap (λ (f : Found). f.highest_at) c.unwrap_or-found.ensures ∙ ap (λ (o : Summary). o.highest_at) (summary_found c.summary_series-summed.result ∙ c.summary_series-summed.ensures)) (highest_most (series_of ss (length a.results.now)) (series_cells ss (length a.results.now)) c.count-most.result a.results.now) (omega arith)

pub told-requires : goal.told-requires
told-requires c =
    let a = c.args in
    let ss = stages_of c.plan-numbers.result in
    let e = ap (λ (o : Summary). o.answer) (summary_found c.summary_series-summed.result ∙ c.summary_series-summed.ensures) in
    narrow_as e (narrow_summary (series_of ss (length a.results.now)) (series_cells ss (length a.results.now)) c.count-most.result a.results.now)

pub returns : goal.returns
unfolding of_bits
returns c =
    let a = c.args in
    let ss = stages_of c.plan-numbers.result in
    let e = summary_found c.summary_series-summed.result ∙ c.summary_series-summed.ensures in
    rw c.unwrap_or-found.ensures (summary_as (same₂ (λ ss M. summary_series ss M a.results.now) (stages_taken c.plan-numbers.ensures) c.count-most.ensures) (c.told.ensures (ap (λ (o : Summary). o.answer.bad) e ∙ summary_untested (series_of ss (length a.results.now)) c.count-most.result a.results.now)) e)
