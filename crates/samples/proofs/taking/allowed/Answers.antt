-- Rows 5, 7 and 8, and where none applies row 11.
use Rattle.std.proofs.Common.{arith}
use Rattle.plan.specs.Structs.{passed_on}
use Rattle.samples.specs.Taking.{test_refused, test_bound, test_rest}
use Rattle.samples.proofs.taking.allowed.Goals as goal

pub returns-in_err-sizes_allowed : goal.returns-in_err-sizes_allowed
returns-in_err-sizes_allowed c = passed_on _ _ c.from_residual.ensures.1 (test_refused _ _ _ c.outside-bad_size.ensures _ c.in_err-sizes_allowed.ensures)

pub doubles_allowed-requires : goal.doubles_allowed-requires
doubles_allowed-requires c =
    let a = c.args in
    omega (arith, test_bound a.bound a.doubles.now a.samples c.outside-bad_size.ensures c.in_ok-sizes_allowed.ensures)

pub returns : goal.returns
returns c = let a = c.args in test_rest a.bound a.doubles.now a.samples c.outside-bad_size.ensures c.in_ok-sizes_allowed.ensures c.doubles_allowed.ensures
