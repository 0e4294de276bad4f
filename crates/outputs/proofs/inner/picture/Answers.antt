-- Rows 1 to 8, and where none applies row 12.
use mathlib.Core.Path.{◌≡◌, refl}
use mathlib.Core.Bool.{false, ◌||◌}
use Prim.Native.Nat.{◌*◌}
use native.Mathlib.Omega.{arith}
use borrow.Author.Rules.{rules}
use lib.ListN.{length}
use Rattle.meaning.specs.Refusals.{differs, first_of, picture_of}
use Rattle.meaning.specs.Values.{output_rows}
use Rattle.theory.specs.Accepted.{sides_tested}
use Rattle.plan.specs.Structs.{stages_of, plain, passed_on, refused_number}
use Rattle.refusals.specs.Sides.{cells_or_0, cells_asked}
use Rattle.outputs.specs.Steps.{Over, test_refused, test_rest, picture_over, over_passed, over_size, over_small}
use Rattle.outputs.proofs.inner.picture.Goals as goal
use Rattle.outputs.proofs.inner.picture.Goals.{After-lengths_differ-wrong_length, After-divisor-2, In_ok-results_allowed}

lengths : (c : After-lengths_differ-wrong_length) → (picture_of (stages_of c.args.raster.across) (stages_of c.args.raster.down) c.args.raster.width c.args.raster.height).bad_size ≡ false → c.lengths_differ-wrong_length.result ≡ (differs (length c.args.results.now) (c.args.raster.width * c.args.raster.height) || differs c.args.cells (c.args.raster.width * c.args.raster.height))
lengths c =
    let a = c.args in
    let asked : c.unwrap_or-asked.result ≡ cells_or_0 a.raster.width a.raster.height = search rules in
    cells_asked a.raster.width a.raster.height (λ n. differs (length a.results.now) n || differs a.cells n) asked c.lengths_differ-wrong_length.ensures

pub returns-in_err-picture_allowed-clause-answer : goal.returns-in_err-picture_allowed-clause-answer
returns-in_err-picture_allowed-clause-answer c =
    let a = c.args in
    let r = a.raster in
    passed_on _ _ c.from_residual.ensures.1 (test_refused (picture_of (stages_of r.across) (stages_of r.down) r.width r.height) r.bound a.results.now a.cells (lengths (goal.at.returns-in_err-picture_allowed-clause-answer c).After-lengths_differ-wrong_length) c.in_err-picture_allowed.ensures (refused_number _))

-- once rows 1 to 8 are off
over : (c : After-divisor-2) → Over (picture_of (stages_of c.args.raster.across) (stages_of c.args.raster.down) c.args.raster.width c.args.raster.height) c.args.raster.bound (c.divisor.result * c.divisor-2.result)
over c =
    let r = c.args.raster in
    picture_over r.across r.down (sides_tested (stages_of r.across) (stages_of r.down) r.bound r.width r.height _ c.in_ok-picture_allowed.ensures refl) c.divisor.ensures c.divisor-2.ensures

pub overflow_mul-divisor : goal.overflow_mul-divisor
overflow_mul-divisor c = omega (arith, (over (goal.at.overflow_mul-divisor c).After-divisor-2).divisor.1)

pub overflow_mul-raster : goal.overflow_mul-raster
overflow_mul-raster c = omega (arith, (over (goal.at.overflow_mul-raster c).After-divisor-2).product)

pub returns-in_err-results_allowed-clause-answer : goal.returns-in_err-results_allowed-clause-answer
returns-in_err-results_allowed-clause-answer c =
    let a = c.args in
    let r = a.raster in
    passed_on _ _ c.from_residual-in_err-results_allowed.ensures.1 (test_rest (picture_of (stages_of r.across) (stages_of r.down) r.width r.height) r.bound a.results.now a.cells (lengths (goal.at.returns-in_err-results_allowed-clause-answer c).After-lengths_differ-wrong_length) c.in_ok-picture_allowed.ensures refl (over (goal.at.returns-in_err-results_allowed-clause-answer c).After-divisor-2).divides c.in_err-results_allowed.ensures)

-- once none applies
answer : (c : In_ok-results_allowed) → plain 0 ≡ first_of (output_rows (picture_of (stages_of c.args.raster.across) (stages_of c.args.raster.down) c.args.raster.width c.args.raster.height) c.args.raster.bound c.args.results.now c.args.cells)
answer c =
    let a = c.args in
    let r = a.raster in
    test_rest (picture_of (stages_of r.across) (stages_of r.down) r.width r.height) r.bound a.results.now a.cells (lengths c.before.before.before.before.before.before.before.before.before.before.before) c.in_ok-picture_allowed.ensures refl (over c.before.before.before.before).divides c.in_ok-results_allowed.ensures

pub invariant_of-result : goal.invariant_of-result
invariant_of-result c =
    let e = answer (goal.at.invariant_of-result c).In_ok-results_allowed in
    let o = over (goal.at.invariant_of-result c).After-divisor-2 in
    record { positive = o.divisor.0; most = o.divisor.1; sizes = over_size _ _ _ o e; small = over_small _ _ _ o e }

pub returns-clause-answer : goal.returns-clause-answer
returns-clause-answer c = answer (goal.at.returns-clause-answer c).In_ok-results_allowed

pub returns-clause-passed : goal.returns-clause-passed
returns-clause-passed c = over_passed _ _ _ (over (goal.at.returns-clause-passed c).After-divisor-2) (answer (goal.at.returns-clause-passed c).In_ok-results_allowed)
