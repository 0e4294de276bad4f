-- Before cell n, w is the window around n; the first n cells are written. The three cells read lie within the series.
use native.Mathlib.Omega.{arith}
use lib.ListN.{length-set}
use Rattle.std.proofs.lemmas.Int.{to_z-of_z}
use Rattle.pass.specs.Course.{inside_cell, inside_slide, inside_next}
use Rattle.pass.proofs.middle.straight.Goals as goal

pub weigh-v-requires-clause-fits : goal.weigh-v-requires-clause-fits
weigh-v-requires-clause-fits c =
    let p = inside_cell c.requires.passable c.loop-n.invariant.1 (omega arith) (omega arith) in
    grind (arith, to_z-of_z)

pub slide-w-requires : goal.slide-w-requires
slide-w-requires c =
    let p = inside_slide c.requires.passable c.loop-n.invariant.1 (omega arith) (omega arith) in
    grind (arith, to_z-of_z)

pub loop-n-preserved : goal.loop-n-preserved
loop-n-preserved c =
    let l = c.loop-n in
    let p = inside_next c.requires.passable l.invariant.1 (omega arith) (omega arith) l.invariant.0 in
    (simp length-set l.invariant.0, grind (arith, to_z-of_z))
