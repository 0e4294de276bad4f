-- Each strided sum is added to those before it.
use native.Mathlib.Omega.{arith}
use lib.IntN.{+ℤ_idl}
use Rattle.std.proofs.lemmas.Int.{to_z-of_z}
use Rattle.taps.specs.Weigh.{second, third}
use Rattle.taps.proofs.inner.weight.Goals as goal

pub strided-b-requires : goal.strided-b-requires
strided-b-requires c = let p = second c.requires in grind (arith, to_z-of_z, +ℤ_idl)

pub strided-c-requires : goal.strided-c-requires
strided-c-requires c = let p = third c.requires in grind (arith, to_z-of_z, +ℤ_idl)
