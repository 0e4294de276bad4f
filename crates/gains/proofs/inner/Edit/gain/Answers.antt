-- The change by the weight, which fits.
use Rattle.std.proofs.Common.{arith}
use Rattle.std.proofs.lemmas.Int.{to_z-of_z}
use Rattle.gains.specs.Gains.{gain_in, gain_fits}
use Rattle.gains.proofs.inner.Edit.gain.Goals as goal

pub overflow_mul-result : goal.overflow_mul-result
overflow_mul-result c = let f = gain_fits c.args.self.gainable c.requires in grind (arith, to_z-of_z)

pub returns : goal.returns
unfolding gain_in
returns c = let f = gain_fits c.args.self.gainable c.requires in grind (arith, to_z-of_z)
