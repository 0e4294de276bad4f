-- Before turn x the first x cells are added to, the others as they were.
use mathlib.Core.Path.{sym}
use native.Mathlib.Omega.{arith}
use Rattle.std.proofs.lemmas.Int.{to_z-of_z}
use Rattle.theory.specs.Lists.{length_list_of, at_list_of}
use Rattle.theory.specs.Fill.{filled_next, filled_done}
use Rattle.columns.specs.Ready.{added}
use Rattle.columns.proofs.first.add_row.Goals as goal

pub overflow_add-cell-in-loop-x : goal.overflow_add-cell-in-loop-x
unfolding added
overflow_add-cell-in-loop-x c =
    let x = c.loop-x.x in
    let w = c.requires.weighed x (omega arith) in
    let f = c.requires.fits x (omega arith) in
    let r = c.loop-x.invariant.rest x (omega arith) in
    grind (arith, to_z-of_z)

pub loop-x-preserved : goal.loop-x-preserved
unfolding added
loop-x-preserved c =
    let x = c.loop-x.x in
    let w = c.requires.weighed x (omega arith) in
    let f = c.requires.fits x (omega arith) in
    let r = c.loop-x.invariant.rest x (omega arith) in
    let n = filled_next c.loop-x.invariant (omega arith) (sym (at_list_of _ _ x (omega arith))) in
    grind (arith, to_z-of_z)

pub returns : goal.returns
returns c =
    let n = filled_done c.loop-x.invariant (length_list_of _ _) (λ i l m. absurd (omega arith)) in
    grind (arith, to_z-of_z)
