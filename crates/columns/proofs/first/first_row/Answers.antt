-- Whole periods and the rest, then the two rows at the edges.
use Prim.Native.Nat.{◌+◌, ◌*◌}
use native.Mathlib.Omega.{arith}
use mir.Syntax.{w64}
use Rattle.std.proofs.lemmas.Int.{to_z_pos}
use Rattle.columns.specs.First.{rest_added, low_added, high_added, first_is}
use Rattle.columns.proofs.first.first_row.Goals as goal

pub add_rows-requires : goal.add_rows-requires
add_rows-requires c =
    let h = c.requires in
    let r = rest_added h.passable _ h.radius_value h.rest_bound c.whole_periods.ensures (to_z_pos w64 (2 * c.args.plan.inner) (omega arith)) in
    r.ready

pub add_row-requires : goal.add_row-requires
add_row-requires c =
    let h = c.requires in
    let p = c.args.plan in
    let r = rest_added h.passable _ h.radius_value h.rest_bound c.whole_periods.ensures (to_z_pos w64 (2 * p.inner) (omega arith)) in
    let l = low_added h.passable _ h.radius_value h.rest_bound c.row_at-low.ensures (to_z_pos w64 (p.inner + p.edge) (omega arith)) (r.gives c.add_rows.ensures) in
    l.ready

pub add_row-requires-2 : goal.add_row-requires-2
add_row-requires-2 c =
    let h = c.requires in
    let p = c.args.plan in
    let r = rest_added h.passable _ h.radius_value h.rest_bound c.whole_periods.ensures (to_z_pos w64 (2 * p.inner) (omega arith)) in
    let l = low_added h.passable _ h.radius_value h.rest_bound c.row_at-low.ensures (to_z_pos w64 (p.inner + p.edge) (omega arith)) (r.gives c.add_rows.ensures) in
    let u = high_added h.passable _ h.radius_value h.rest_bound c.next.ensures c.row_at-high.ensures (to_z_pos w64 p.edge (omega arith)) (l.gives c.add_row.ensures) in
    u.ready

pub returns : goal.returns
returns c =
    let h = c.requires in
    let p = c.args.plan in
    let r = rest_added h.passable _ h.radius_value h.rest_bound c.whole_periods.ensures (to_z_pos w64 (2 * p.inner) (omega arith)) in
    let l = low_added h.passable _ h.radius_value h.rest_bound c.row_at-low.ensures (to_z_pos w64 (p.inner + p.edge) (omega arith)) (r.gives c.add_rows.ensures) in
    let u = high_added h.passable _ h.radius_value h.rest_bound c.next.ensures c.row_at-high.ensures (to_z_pos w64 p.edge (omega arith)) (l.gives c.add_row.ensures) in
    first_is h.passable (u.gives c.add_row-2.ensures)
