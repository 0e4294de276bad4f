-- The weights of a tested plan are their numbers as signed ones too.
use native.Mathlib.Omega.{arith}
use mir.Syntax.{w64}
use Rattle.std.proofs.lemmas.Int.{to_z-of_z, to_z_pos}
use Rattle.pass.proofs.inner.weigh.Goals as goal

pub overflow_add-result-2 : goal.overflow_add-result-2
overflow_add-result-2 c =
    let b = to_z_pos w64 c.args.plan.inner (omega arith) in
    let a = to_z_pos w64 c.args.plan.edge (omega arith) in
    let f = c.requires.fits in
    grind (arith, to_z-of_z)

pub returns : goal.returns
returns c =
    let b = to_z_pos w64 c.args.plan.inner (omega arith) in
    let a = to_z_pos w64 c.args.plan.edge (omega arith) in
    let f = c.requires.fits in
    grind (arith, to_z-of_z)
