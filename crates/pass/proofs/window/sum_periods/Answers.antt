-- A period is summed where there is one.
use native.Mathlib.Omega.{arith}
use lib.ListN.{length}
use Rattle.std.proofs.Common.{le-mul_of_pos_right, ◌<◌, ◌*◌}
use Rattle.std.proofs.lemmas.Int.{to_z-of_z, to_z_pos}
use Rattle.pass.specs.First.{periods_fit}
use Rattle.pass.proofs.window.sum_periods.Goals as goal

pub returns : goal.returns
returns c =
    let some : 0 < 2 * length c.args.src.now = omega arith in
    let few = le-mul_of_pos_right c.args.periods some in
    let p = periods_fit _ c.args.periods c.requires in
    grind (arith, to_z-of_z, to_z_pos)
