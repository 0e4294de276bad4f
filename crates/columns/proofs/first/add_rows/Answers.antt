-- Before turn k, the first k rows are added.
use native.Mathlib.Omega.{arith}
use mir.Syntax.{w64}
use Rattle.std.proofs.lemmas.Int.{to_z-of_z}
use Rattle.columns.specs.Adding.{rows_none, rows_next}
use Rattle.columns.proofs.first.add_rows.Goals as goal

pub loop-k-init : goal.loop-k-init
loop-k-init c = let r = rows_none c.requires in grind (arith, to_z-of_z)

pub add_row-requires : goal.add_row-requires
add_row-requires c =
    let r = rows_next {K = c.args.count} (rw (to_z-of_z w64 c.args.weight c.ranges.weight) c.requires) (omega arith) c.row_at.ensures c.loop-k.invariant in
    r.ready

pub loop-k-preserved : goal.loop-k-preserved
loop-k-preserved c =
    let r = rows_next {K = c.args.count} (rw (to_z-of_z w64 c.args.weight c.ranges.weight) c.requires) (omega arith) c.row_at.ensures c.loop-k.invariant in
    r.gives c.add_row.ensures
