-- Up to n the results have their gains, from n on they are as they were.
use Rattle.std.proofs.Common.{arith}
use Rattle.std.proofs.lemmas.Int.{to_z-of_z}
use Rattle.theory.specs.Fill.{filled_start, filled_next, filled_done}
use Rattle.gains.specs.Gains.{length_gained_in, gained_before, gained_behind, moved_fits, moved_written}
use Rattle.gains.proofs.inner.Edit.add_gains.Goals as goal

pub loop-n-init : goal.loop-n-init
loop-n-init c =
    let e = c.args.self in
    let s = c.args.span in
    filled_start (λ i l. gained_before e.taps.now e.p e.change c.args.results.now s.start s.end i (omega (arith, c.requires.writable.order, c.requires.writable.inside)) l)

pub overflow_add-results : goal.overflow_add-results
overflow_add-results c =
    let f = moved_fits c.requires.writable c.loop-n.auto.n c.loop-n-test.true c.loop-n.invariant {g = c.gain.result} (rw c.requires.same c.gain.ensures) in
    grind (arith, to_z-of_z)

pub loop-n-preserved : goal.loop-n-preserved
loop-n-preserved c =
    let f = moved_fits c.requires.writable c.loop-n.auto.n c.loop-n-test.true c.loop-n.invariant {g = c.gain.result} (rw c.requires.same c.gain.ensures) in
    let e = moved_written c.requires.writable c.loop-n.auto.n c.loop-n-test.true c.loop-n.invariant {g = c.gain.result} (rw c.requires.same c.gain.ensures) in
    filled_next c.loop-n.invariant (omega (arith, c.requires.writable.inside)) (grind (arith, to_z-of_z))

pub returns : goal.returns
returns c =
    let e = c.args.self in
    let s = c.args.span in
    let r = c.args.results.now in
    filled_done c.loop-n.invariant (length_gained_in e.taps.now e.p e.change r s.start s.end) (λ i l k. gained_behind e.taps.now e.p e.change r s.start s.end i k (omega arith))
