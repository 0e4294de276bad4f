-- The parts on either side, each with its room.
use native.Mathlib.Omega.{arith}
use mathlib.Core.Path.{refl}
use Rattle.std.proofs.lemmas.Int.{to_z-of_z}
use Rattle.pass.specs.First.{sides_is, sides_fit}
use Rattle.pass.proofs.window.first_window.Goals as goal

pub overflow_add-side : goal.overflow_add-side
overflow_add-side c =
    let p = sides_fit _ _ c.requires.rest_bound c.sum_periods.ensures c.sum_to.ensures refl c.requires.summable in
    grind (arith, to_z-of_z)

pub overflow_add-result : goal.overflow_add-result
overflow_add-result c =
    let p = sides_fit _ _ c.requires.rest_bound c.sum_periods.ensures c.sum_to.ensures refl c.requires.summable in
    grind (arith, to_z-of_z)

pub overflow_add-result-2 : goal.overflow_add-result-2
overflow_add-result-2 c =
    let p = sides_fit _ _ c.requires.rest_bound c.sum_periods.ensures c.sum_to.ensures c.read.ensures c.requires.summable in
    grind (arith, to_z-of_z)

pub returns : goal.returns
returns c =
    let p = sides_fit _ _ c.requires.rest_bound c.sum_periods.ensures c.sum_to.ensures c.read.ensures c.requires.summable in
    let e = sides_is _ _ c.requires.rest_bound c.sum_periods.ensures c.sum_to.ensures c.read.ensures in
    grind (arith, to_z-of_z)
