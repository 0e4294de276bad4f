-- The laws of a strided sum, and of the four of a weight.
use Rattle.std.proofs.Math.IntN.{+ℤ_idl}
use Rattle.std.proofs.lemmas.Int.{to_z-of_z}
use Rattle.taps.specs.Weigh.{strided_fits, strided_end, first, second, third, fourth}

pub ruleset striding = (to_z-of_z, strided_fits, strided_end)

pub ruleset weighing = (to_z-of_z, +ℤ_idl, first, second, third, fourth)
