-- The sum so far and what is still to come make the whole.
use Prim.Native.Nat.{◌-◌}
use mathlib.Core.Path.{◌≡◌}
use lib.ListN.{length}
use lib.IntN.{◌+ℤ◌}
use Rattle.taps.specs.Weigh.{strided_in, Stridable}
use Rattle.taps.proofs.inner.strided.Given as goal

abbrev pub invariant-loop-i : goal.invariant-loop-i
invariant-loop-i l = Stridable l.taps l.i l.step l.s × (l.s +ℤ strided_in l.taps l.i l.step ≡ l.so_far +ℤ strided_in l.taps l.start l.step)

abbrev pub decreases-loop-i : goal.decreases-loop-i
decreases-loop-i l = length l.taps - l.i
