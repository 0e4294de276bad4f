-- Before cell x, the first x cells of row y + 1 are those of the pass.
use native.Mathlib.Omega.{arith}
use lib.ListN.{length-set}
use Rattle.std.proofs.lemmas.Int.{to_z-of_z}
use Rattle.columns.specs.Down.{edges_fit, within_fit, step_fits, row_next}
use Rattle.columns.proofs.inner.next_row.Goals as goal

pub overflow_sub-edges : goal.overflow_sub-edges
overflow_sub-edges c = let p = edges_fit c.requires.passable c.requires.around {x = c.loop-x.x} (omega arith) in grind (arith, to_z-of_z)

pub overflow_sub-within : goal.overflow_sub-within
overflow_sub-within c = let p = within_fit c.requires.passable c.requires.around {x = c.loop-x.x} (omega arith) in grind (arith, to_z-of_z)

pub step-requires-clause-fits : goal.step-requires-clause-fits
step-requires-clause-fits c =
    let h = c.requires in
    let p = edges_fit h.passable h.around {x = c.loop-x.x} (omega arith) in
    let q = within_fit h.passable h.around {x = c.loop-x.x} (omega arith) in
    let s = step_fits h.passable h.around (omega arith) _ c.loop-x.invariant.1 in
    grind (arith, to_z-of_z)

pub loop-x-preserved : goal.loop-x-preserved
loop-x-preserved c =
    let h = c.requires in
    let i = c.loop-x.invariant in
    let p = edges_fit h.passable h.around {x = c.loop-x.x} (omega arith) in
    let q = within_fit h.passable h.around {x = c.loop-x.x} (omega arith) in
    let s = row_next h.passable h.around (omega arith) _ i.1 i.0 in
    (simp length-set i.0, grind (arith, to_z-of_z))
