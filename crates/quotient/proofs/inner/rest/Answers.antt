-- By the law of quotient and rest.
use mathlib.Core.Path.{◌≡◌}
use native.Mathlib.Omega.{arith}
use lib.IntN.{pos, ◌-ℤ◌, ◌*ℤ◌}
use mir.Syntax.{w64}
use mir.Val.{to_z, of_z}
use Rattle.std.proofs.lemmas.Int.{ints, to_z-of_z, to_z_pos}
use Rattle.meaning.specs.Extension.{emod}
use Rattle.theory.specs.Remainder.{emod_below}
use Rattle.quotient.specs.Ready.{rest_is, product_fits}
use Rattle.quotient.proofs.inner.rest.Goals as goal
use Rattle.quotient.proofs.inner.rest.Goals.{Start}

rest-value : (c : Start) → to_z w64 (of_z w64 (to_z w64 (of_z w64 c.args.number) -ℤ to_z w64 (of_z w64 (to_z w64 (of_z w64 c.args.below) *ℤ to_z w64 c.args.divisor)))) ≡ pos (emod c.args.number c.args.divisor)
rest-value c =
    let h = c.requires.dividend in
    let p = product_fits c.args.number c.args.divisor h in
    let r = rest_is c.args.number c.args.divisor h in
    let d = to_z_pos w64 c.args.divisor (omega (arith, h.divisor.1)) in
    let s = emod_below c.args.number h.divisor.0 in
    grind (arith, ints, to_z-of_z)

pub overflow_cast-result-2 : goal.overflow_cast-result-2
overflow_cast-result-2 c =
    let h = c.requires.dividend in
    rw (rest-value (goal.at.overflow_cast-result-2 c).Start) (tt, record { fits = omega (arith, emod_below c.args.number h.divisor.0, h.divisor.1) })

pub returns : goal.returns
returns c = rw (rest-value (goal.at.returns c).Start)
