-- Every number on the way fits, as asked.
use Prim.Native.Nat.{◌-◌}
use native.Mathlib.Omega.{arith}
use mir.Syntax.{w64}
use Rattle.std.proofs.lemmas.Int.{to_z-of_z, to_z_pos}
use Rattle.algebra.specs.Difference.{sub_pos}
use Rattle.columns.proofs.inner.step.Goals as goal

pub overflow_add-result-2 : goal.overflow_add-result-2
overflow_add-result-2 c =
    let p = c.args.plan in
    let h = c.requires.fits in
    let a = to_z_pos w64 p.edge (omega arith) in
    let r = to_z_pos w64 (p.inner - p.edge) (omega arith) in
    let d = sub_pos p.inner p.edge (omega arith) in
    grind (arith, to_z-of_z)

pub returns : goal.returns
returns c =
    let p = c.args.plan in
    let h = c.requires.fits in
    let a = to_z_pos w64 p.edge (omega arith) in
    let r = to_z_pos w64 (p.inner - p.edge) (omega arith) in
    let d = sub_pos p.inner p.edge (omega arith) in
    grind (arith, to_z-of_z)
