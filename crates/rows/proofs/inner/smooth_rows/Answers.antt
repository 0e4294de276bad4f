-- Before row y, the rows above it are done.
use native.Mathlib.Omega.{arith}
use Rattle.rows.specs.Rows.{row_next, rows_done}
use Rattle.rows.proofs.inner.smooth_rows.Goals as goal

pub loop-y-preserved : goal.loop-y-preserved
loop-y-preserved c =
    let l = c.loop-y in
    row_next c.requires c.loop-y-test.true l.dst _ _ (omega arith) l.invariant c.smooth_into.ensures

pub returns : goal.returns
returns c =
    let l = c.loop-y in
    rows_done c.requires c.loop-y-test.false (omega arith) l.invariant
