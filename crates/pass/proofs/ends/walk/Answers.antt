-- Before cell n, sum is that of the window around n, lo the cell before it, and low and high are where the cells beside it stand; the first n cells are written.
use native.Mathlib.Omega.{arith}
use lib.ListN.{length-set}
use borrow.Author.Rules.{rules}
use Rattle.std.proofs.lemmas.Int.{to_z-of_z}
use Rattle.pass.specs.Walking.{beside_next, low_read, walk_cell, walk_slide, walk_next, walk_low}
use Rattle.pass.proofs.ends.walk.Goals as goal

pub loop-n-init : goal.loop-n-init
loop-n-init c =
    let p = low_read _ c.requires.beside c.read-lo.ensures in
    (search rules, grind (arith, to_z-of_z), c.requires.beside, grind (arith, to_z-of_z))

pub weigh-requires-clause-fits : goal.weigh-requires-clause-fits
weigh-requires-clause-fits c =
    let i = c.loop-n.invariant in
    let p = walk_cell c.requires.passable i.1 i.2 i.3 c.next-low.ensures in
    grind (arith, to_z-of_z)

pub slide-sum-requires : goal.slide-sum-requires
slide-sum-requires c =
    let i = c.loop-n.invariant in
    let p = walk_slide c.requires.passable i.1 i.2 i.3 c.next-low.ensures in
    grind (arith, to_z-of_z)

pub loop-n-preserved : goal.loop-n-preserved
loop-n-preserved c =
    let i = c.loop-n.invariant in
    let p = walk_next c.requires.passable i.1 i.2 i.3 c.next-low.ensures i.0 (omega arith) in
    let l = walk_low c.requires.passable i.1 i.2 i.3 c.next-low.ensures in
    (simp length-set i.0, grind (arith, to_z-of_z), beside_next i.2 c.next-low.ensures c.next-high.ensures, grind (arith, to_z-of_z))
