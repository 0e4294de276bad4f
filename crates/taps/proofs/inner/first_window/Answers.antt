-- At radius j, s is the window; on either side stands the tap at j + 1.
use native.Mathlib.Omega.{arith}
use lib.IntN.{pos}
use Rattle.std.proofs.lemmas.Int.{to_z-of_z}
use Rattle.theory.specs.Slide.{window_none}
use Rattle.pass.specs.Turn.{pair_fits, widened_is, widened_fits}
use Rattle.taps.specs.Taps.{mirrored, widening}
use Rattle.taps.proofs.inner.first_window.Goals as goal

pub loop-j-init : goal.loop-j-init
unfolding mirrored
loop-j-init c = let e = window_none (mirrored c.args.taps.now) (pos 0) in grind (arith, to_z-of_z)

pub overflow_add-s : goal.overflow_add-s
overflow_add-s c =
    let p = pair_fits c.requires (omega arith) (widening _ c.loop-j.invariant) in
    grind (arith, to_z-of_z)

pub overflow_add-s-in-loop-j : goal.overflow_add-s-in-loop-j
overflow_add-s-in-loop-j c =
    let p = pair_fits c.requires (omega arith) (widening _ c.loop-j.invariant) in
    let q = widened_fits c.requires (omega arith) (widening _ c.loop-j.invariant) in
    grind (arith, to_z-of_z)

pub loop-j-preserved : goal.loop-j-preserved
loop-j-preserved c =
    let p = pair_fits c.requires (omega arith) (widening _ c.loop-j.invariant) in
    let q = widened_fits c.requires (omega arith) (widening _ c.loop-j.invariant) in
    let e = widened_is c.requires (omega arith) (widening _ c.loop-j.invariant) in
    grind (arith, to_z-of_z)
