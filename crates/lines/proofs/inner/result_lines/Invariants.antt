-- What was put so far are the lines of the results passed, and the next has room as all of them have.
use Rattle.std.proofs.Common.{take}
use Rattle.meaning.specs.Program.{result_lines}
use Rattle.encoding.specs.Append.{Wrote}
use Rattle.lines.proofs.inner.result_lines.Given as goal

abbrev pub invariant-loop-i : goal.invariant-loop-i
invariant-loop-i l = Wrote l.initial.out (result_lines 0 (take l.i l.results)) l.out
