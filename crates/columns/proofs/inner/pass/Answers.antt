-- Before turn y, rows 0 to y are those of the pass; low and enters are where the rows before and after the window stand.
use Prim.Native.Nat.{◌+◌, ◌*◌, ◌≤◌}
use mathlib.Core.Path.{◌≡◌}
use native.Mathlib.Nat.{mul-le-mul_left}
use native.Mathlib.Omega.{arith}
use borrow.Author.Rules.{rules}
use Rattle.theory.specs.Fill.{fill_done}
use Rattle.theory.specs.Picture.{length_down}
use Rattle.pass.specs.Walking.{beside_start, beside_next}
use Rattle.columns.specs.First.{first_written}
use Rattle.columns.specs.Down.{around}
use Rattle.columns.proofs.inner.pass.Goals as goal

pub loop-y-init : goal.loop-y-init
loop-y-init c =
    (search rules, beside_start _ c.periods_before-radius.ensures.i_value c.periods_before-radius.ensures.rest_bound c.next-enters.ensures, first_written c.requires _ c.first_row.ensures)

pub next_row-requires-clause-around : goal.next_row-requires-clause-around
next_row-requires-clause-around c =
    around c.loop-y.invariant.1 (omega arith) c.next-leaves.ensures c.next-high.ensures c.row_at.ensures c.row_at-in-loop-y.ensures c.row_at-in-loop-y-2.ensures c.row_at-in-loop-y-3.ensures

pub loop-y-preserved : goal.loop-y-preserved
loop-y-preserved c =
    let l = c.loop-y in
    let w = c.args.sides.width in
    let e : (l.y + 1) * w + w ≡ l.y * w + w + w = omega arith in
    (search rules, beside_next l.invariant.1 c.next-leaves.ensures c.next-high.ensures, rw e c.next_row.ensures)

pub returns : goal.returns
returns c =
    let l = c.loop-y in
    let w = c.args.sides.width in
    let t : c.args.sides.height ≤ l.y + 1 = omega arith in
    let m = mul-le-mul_left w t in
    fill_done _ l.dst (l.y * w + w) l.invariant.2 (omega arith) (rw length_down (omega arith))
