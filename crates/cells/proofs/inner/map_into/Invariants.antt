-- Before turn i the first i cells are written.
use Rattle.std.proofs.Common.{take}
use Rattle.std.specs.List.{AllZip}
use Rattle.cells.proofs.inner.map_into.Given as goal

abbrev pub invariant-loop-i : goal.invariant-loop-i
invariant-loop-i g l = AllZip (goal.F-post g l.f) (take l.i l.from) (take l.i l.to)
