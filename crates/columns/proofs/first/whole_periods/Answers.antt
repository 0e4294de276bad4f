-- A period is added where there is one.
use Prim.Native.Nat.{◌*◌}
use borrow.Author.Rules.{rules}
use mir.Syntax.{w64}
use Rattle.std.proofs.lemmas.Int.{to_z_pos}
use Rattle.columns.specs.First.{cleared, weight_fits, periods_none, periods_added}
use Rattle.columns.proofs.first.whole_periods.Goals as goal

pub returns-then-periods-eq0 : goal.returns-then-periods-eq0
returns-then-periods-eq0 c =
    periods_none c.requires.passable (cleared c.args.row.now c.requires.row_len (search rules)) c.if-periods-eq0.true

pub add_rows-requires : goal.add_rows-requires
add_rows-requires c =
    let h = c.requires in
    let w = to_z_pos w64 (2 * c.args.plan.inner * c.args.periods) (weight_fits h.passable _ h.height_bound) in
    let a = periods_added h.passable (cleared c.args.row.now h.row_len (search rules)) _ h.height_bound w in
    a.ready

pub returns : goal.returns
returns c =
    let h = c.requires in
    let w = to_z_pos w64 (2 * c.args.plan.inner * c.args.periods) (weight_fits h.passable _ h.height_bound) in
    let a = periods_added h.passable (cleared c.args.row.now h.row_len (search rules)) _ h.height_bound w in
    a.gives c.add_rows.ensures
