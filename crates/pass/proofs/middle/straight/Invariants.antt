-- Before cell n, w is the window around n; the first n cells are written. The three cells read lie within the series.
use mathlib.Core.Path.{◌≡◌}
use lib.ListN.{length}
use Rattle.pass.specs.Ready.{Reached}
use Rattle.pass.proofs.middle.straight.Given as goal

abbrev pub invariant-loop-n : goal.invariant-loop-n
invariant-loop-n l = (length l.dst ≡ length l.src) × Reached l.plan l.src l.dst l.n l.w
