-- The laws of a sum from 0 on, and of a signed number that is written and read.
use Rattle.std.proofs.lemmas.Int.{to_z-of_z, to_z_pos}
use Rattle.std.proofs.Common.{le-mul_of_pos_right}
use Rattle.theory.specs.Period.{up_to_none, up_to_next}
use Rattle.pass.specs.First.{sum_fits, periods_fit}

pub ruleset summing = (to_z-of_z, up_to_none, up_to_next, sum_fits)

pub ruleset periods = (to_z-of_z, to_z_pos, le-mul_of_pos_right, periods_fit)
