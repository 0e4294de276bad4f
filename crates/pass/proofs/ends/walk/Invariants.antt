-- Before cell n, sum is that of the window around n, lo the cell before it, and low and high are where the cells beside it stand; the first n cells are written.
use Prim.Native.Nat.{◌+◌}
use mathlib.Core.Path.{◌≡◌}
use lib.ListN.{length}
use lib.IntN.{pos, ◌-ℤ◌}
use Rattle.meaning.specs.Extension.{fold, ext}
use Rattle.pass.specs.Ready.{Reached, Beside}
use Rattle.pass.proofs.ends.walk.Given as goal

abbrev pub invariant-loop-n : goal.invariant-loop-n
invariant-loop-n l =
    (length l.dst ≡ length l.src) × Reached l.plan l.src l.dst l.n l.sum × Beside l.plan (length l.src) l.n l.low l.high
    × (l.lo ≡ ext fold l.src (pos l.n -ℤ pos (l.plan.radius + 1)))
