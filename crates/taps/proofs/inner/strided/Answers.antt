-- The sum so far and what is still to come make the whole.
use mathlib.Core.Path.{refl}
use native.Mathlib.Omega.{arith}
use Rattle.std.proofs.lemmas.Int.{to_z-of_z}
use Rattle.taps.specs.Weigh.{strided_fits, strided_next, strided_rest}
use Rattle.taps.proofs.inner.strided.Goals as goal

pub loop-i-preserved : goal.loop-i-preserved
loop-i-preserved c =
    let h = c.loop-i.invariant in
    let n = strided_next h.0 refl in
    let r = strided_rest h.0 refl in
    let f = strided_fits h.0 refl in
    (grind (arith, to_z-of_z), grind (arith, to_z-of_z))
