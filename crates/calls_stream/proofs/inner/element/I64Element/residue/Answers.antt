-- The euclidean remainder is the definitions' one.
use native.Mathlib.Omega.{arith}
use lib.IntN.{nat_abs}
use mir.Syntax.{w64}
use mir.Val.{SFits}
use mir.Facts.{to_z-of_z}
use Rattle.std.proofs.Common.{◌≡◌, ◌∙◌, ℤ, pos, negsuc, refl, ap}
use Rattle.std.specs.Int.{int_rem_euclid}
use Rattle.meaning.specs.Extension.{emod}
use Rattle.calls_stream.specs.Checksum.{modulus}
use Rattle.calls_stream.proofs.inner.element.I64Element.residue.Goals as goal

remainder : (z : ℤ) → nat_abs (int_rem_euclid z (pos modulus)) ≡ emod z modulus
unfolding emod
remainder (pos n) = refl
remainder (negsuc n) = omega arith

pub returns : goal.returns
returns c =
    let fits : SFits w64 c.rem_euclid.result = record { sfits = c.rem_euclid.type_inv } in
    let is = rw (to_z-of_z {w = w64} {z = c.args.self} c.ranges.self) at c.rem_euclid.ensures.value in
    rw (to_z-of_z {w = w64} {z = c.rem_euclid.result} fits) (ap nat_abs is ∙ remainder c.args.self)
