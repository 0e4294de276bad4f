-- Before tap n, w is the window around n and lo the tap before it; the first n taps are those of one stage more.
use Prim.Native.Nat.{◌+◌}
use mathlib.Core.Path.{◌≡◌}
use lib.ListN.{length, take}
use lib.IntN.{pos, ◌-ℤ◌}
use Rattle.theory.specs.Slide.{window}
use Rattle.taps.specs.Taps.{mirrored, staged}
use Rattle.taps.proofs.inner.stage_more.Given as goal

abbrev pub invariant-loop-n : goal.invariant-loop-n
invariant-loop-n l =
    (length l.dst ≡ length l.src)
    × (l.w ≡ window (mirrored l.src) l.radius (pos l.n))
    × (l.lo ≡ mirrored l.src (pos l.n -ℤ pos (l.radius + 1)))
    × (take l.n l.dst ≡ take l.n (staged (record { radius = l.radius; inner = l.fn.plan.inner; edge = l.fn.plan.edge }) l.src))
