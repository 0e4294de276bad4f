-- Before turn y, rows 0 to y are those of the pass; low and enters are where the rows before and after the window stand.
use Prim.Native.Nat.{◌+◌, ◌*◌}
use mathlib.Core.Path.{◌≡◌}
use lib.ListN.{length, take}
use Rattle.pass.specs.Ready.{Beside}
use Rattle.columns.specs.Ready.{passed}
use Rattle.columns.proofs.inner.pass.Given as goal

abbrev pub invariant-loop-y : goal.invariant-loop-y
invariant-loop-y l =
    (length l.dst ≡ l.sides.width * l.sides.height) × Beside l.plan l.sides.height l.y l.low l.enters
    × (take (l.y * l.sides.width + l.sides.width) l.dst ≡ take (l.y * l.sides.width + l.sides.width) (passed l.plan l.sides.width l.sides.height l.src))
