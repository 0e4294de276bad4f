-- Rows 1 to 8, and where none applies row 11.
use lib.ListN.{length}
use Rattle.meaning.specs.Refusals.{series_of}
use Rattle.plan.specs.Structs.{stages_of, passed_on}
use Rattle.series.specs.Steps.{test_refused, test_rest, series_lengths}
use Rattle.series.proofs.testing.allowed.Goals as goal

pub returns-in_err-series_allowed : goal.returns-in_err-series_allowed
returns-in_err-series_allowed c =
    let a = c.args in
    passed_on _ _ c.from_residual.ensures.1
    (test_refused (series_of (stages_of a.plan) (length a.samples.now)) a.bound a.samples.now a.results a.work (λ z. series_lengths (length a.samples.now) a.results a.work c.lengths_differ-wrong_length.ensures) _ c.in_err-series_allowed.ensures)

pub returns : goal.returns
returns c =
    let a = c.args in
    test_rest (series_of (stages_of a.plan) (length a.samples.now)) a.bound a.samples.now a.results a.work (λ z. series_lengths (length a.samples.now) a.results a.work c.lengths_differ-wrong_length.ensures) c.in_ok-series_allowed.ensures c.samples_allowed.ensures
