-- What was put so far are the lines of the results passed, and the next has room as all of them have.
use Rattle.std.proofs.Common.{◌+◌, arith, refl, get_or, pos, to_z-of_z}
use Rattle.std.specs.Int.{w64}
use Rattle.meaning.specs.Program.{result_lines}
use Rattle.encoding.specs.Append.{append_none, append_then, room_first, room_rest}
use Rattle.theory.specs.Programs.{lines_next, lines_rest}
use Rattle.lines.proofs.inner.result_lines.Goals as goal

pub loop-i-init : goal.loop-i-init
unfolding result_lines
loop-i-init c = append_none refl

pub result_line-requires : goal.result_line-requires
result_line-requires c =
    let loop = c.loop-i in
    let results = c.args.results.now in
    let back = to_z-of_z {w = w64} {z = get_or results loop.i (pos 0)} (record { sfits = omega arith }) in
    rw back (room_rest _ (lines_next results loop.i (omega arith)) (room_first _ _ (lines_rest results (loop.i + 1)) c.requires) loop.invariant)

pub loop-i-preserved : goal.loop-i-preserved
loop-i-preserved c =
    let loop = c.loop-i in
    let results = c.args.results.now in
    let back = to_z-of_z {w = w64} {z = get_or results loop.i (pos 0)} (record { sfits = omega arith }) in
    append_then (lines_next results loop.i (omega arith)) loop.invariant (rw back at c.result_line.ensures)
