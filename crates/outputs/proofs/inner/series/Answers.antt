-- Rows 1 to 8, and where none applies row 12.
use mathlib.Core.Path.{◌≡◌, refl}
use native.Mathlib.Omega.{arith}
use lib.ListN.{length}
use Rattle.meaning.specs.Refusals.{first_of, series_of}
use Rattle.meaning.specs.Values.{output_rows}
use Rattle.theory.specs.Accepted.{length_tested}
use Rattle.plan.specs.Structs.{stages_of, plain, passed_on, refused_number}
use Rattle.outputs.specs.Steps.{Over, test_refused, test_rest, series_lengths, series_over, over_passed, over_size, over_small}
use Rattle.outputs.proofs.inner.series.Goals as goal
use Rattle.outputs.proofs.inner.series.Goals.{After-divisor-divisor, In_ok-results_allowed}

pub returns-in_err-series_allowed-clause-answer : goal.returns-in_err-series_allowed-clause-answer
returns-in_err-series_allowed-clause-answer c =
    let a = c.args in
    let n = length a.results.now in
    passed_on _ _ c.from_residual.ensures.1 (test_refused (series_of (stages_of a.plan) n) a.bound a.results.now a.cells (λ z. series_lengths n a.cells refl) c.in_err-series_allowed.ensures (refused_number _))

-- once rows 1 to 8 are off
over : (c : After-divisor-divisor) → Over (series_of (stages_of c.args.plan) (length c.args.results.now)) c.args.bound c.divisor-divisor.result
over c = series_over c.args.plan (length_tested (stages_of c.args.plan) c.args.bound (length c.args.results.now) _ c.in_ok-series_allowed.ensures refl) c.divisor-divisor.ensures

pub overflow_mul-bound : goal.overflow_mul-bound
overflow_mul-bound c = omega (arith, (over (goal.at.overflow_mul-bound c).After-divisor-divisor).product)

pub returns-in_err-results_allowed-clause-answer : goal.returns-in_err-results_allowed-clause-answer
returns-in_err-results_allowed-clause-answer c =
    let a = c.args in
    let n = length a.results.now in
    let o = over (goal.at.returns-in_err-results_allowed-clause-answer c).After-divisor-divisor in
    passed_on _ _ c.from_residual-in_err-results_allowed.ensures.1 (test_rest (series_of (stages_of a.plan) n) a.bound a.results.now a.cells (λ z. series_lengths n a.cells refl) c.in_ok-series_allowed.ensures refl o.divides c.in_err-results_allowed.ensures)

-- once none applies
answer : (c : In_ok-results_allowed) → plain 0 ≡ first_of (output_rows (series_of (stages_of c.args.plan) (length c.args.results.now)) c.args.bound c.args.results.now c.args.cells)
answer c =
    let a = c.args in
    let n = length a.results.now in
    test_rest (series_of (stages_of a.plan) n) a.bound a.results.now a.cells (λ z. series_lengths n a.cells refl) c.in_ok-series_allowed.ensures refl (over c.before.before.before).divides c.in_ok-results_allowed.ensures

pub invariant_of-result : goal.invariant_of-result
invariant_of-result c =
    let e = answer (goal.at.invariant_of-result c).In_ok-results_allowed in
    let o = over (goal.at.invariant_of-result c).After-divisor-divisor in
    record { positive = o.divisor.0; most = o.divisor.1; sizes = over_size _ _ _ o e; small = over_small _ _ _ o e }

pub returns-clause-answer : goal.returns-clause-answer
returns-clause-answer c = answer (goal.at.returns-clause-answer c).In_ok-results_allowed

pub returns-clause-passed : goal.returns-clause-passed
returns-clause-passed c = over_passed _ _ _ (over (goal.at.returns-clause-passed c).After-divisor-divisor) (answer (goal.at.returns-clause-passed c).In_ok-results_allowed)
