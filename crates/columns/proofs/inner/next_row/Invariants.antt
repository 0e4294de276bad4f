-- Before cell x, the first x cells of row y + 1 are those of the pass.
use Prim.Native.Nat.{◌+◌}
use mathlib.Core.Path.{◌≡◌}
use lib.ListN.{length, take}
use Rattle.columns.specs.Ready.{passed}
use Rattle.columns.proofs.inner.next_row.Given as goal

abbrev pub invariant-loop-x : goal.invariant-loop-x
invariant-loop-x l = (length l.dst ≡ length l.initial.dst) × (take (l.to + l.x) l.dst ≡ take (l.to + l.x) (passed l.plan l.fn.sides.width l.fn.sides.height l.src))
