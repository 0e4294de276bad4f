-- Before row y, the rows above it are done.
use Prim.Native.Nat.{◌*◌}
use mathlib.Core.Path.{◌≡◌}
use lib.ListN.{take}
use Rattle.meaning.specs.Extension.{fold}
use Rattle.meaning.specs.Smoothing.{results}
use Rattle.meaning.specs.Picture.{across}
use Rattle.plan.specs.Structs.{stages_of}
use Rattle.rows.proofs.inner.smooth_rows.Given as goal

abbrev pub invariant-loop-y : goal.invariant-loop-y
invariant-loop-y l =
    let w = l.sides.width in
    take (l.y * w) l.dst ≡ take (l.y * w) (across (results fold (stages_of l.plan)) w l.sides.height l.samples)
