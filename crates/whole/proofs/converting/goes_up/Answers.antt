-- The remainder by 2 is 0 exactly of an even number.
use mathlib.Core.Path.{ap, ◌∙◌}
use mathlib.Core.Bool.{not}
use lib.Dec.{eqb}
use lib.IntN.{pos}
use lib.Signed.{rem_z}
use mir.Syntax.{w64}
use mir.Val.{of_z}
use mir.Facts.{to_z-of_z}
use Rattle.whole.specs.Parity.{rem_even}
use Rattle.whole.proofs.converting.goes_up.Goals as goal

pub returns-in-Even : goal.returns-in-Even
returns-in-Even c = rw c.in-Even.is (ap not (ap (λ z. eqb (of_z w64 (rem_z z (pos 2))) 0) (to_z-of_z c.ranges.below) ∙ rem_even c.args.below))
