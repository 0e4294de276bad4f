-- The first result that is too large.
use Rattle.std.proofs.Common.{rules, arith, ◌≡◌, length, nat_abs, lt-ltb, le-ltb}
use Rattle.meaning.specs.Extension.{at}
use Rattle.theory.specs.Places.{all_start, all_next, all_found, all_done}
use Rattle.outputs.proofs.inner.results_allowed.Invariants.{large}
use Rattle.outputs.proofs.inner.results_allowed.Goals as goal

pub loop-position-init : goal.loop-position-init
loop-position-init c = all_start 12 (length c.args.results.now) (large c.args.limit c.args.results.now)

pub returns-then-limit-unsigned_abs : goal.returns-then-limit-unsigned_abs
returns-then-limit-unsigned_abs c =
    let a = c.args in
    let i = c.loop-position.position in
    let s : c.unsigned_abs.result ≡ nat_abs (at a.results.now i) = search rules in
    all_found 12 (length a.results.now) (large a.limit a.results.now) i (omega arith) (lt-ltb a.limit (nat_abs (at a.results.now i)) (rw (← s) c.if-limit-unsigned_abs.true)) c.loop-position.invariant

pub loop-position-preserved : goal.loop-position-preserved
loop-position-preserved c =
    let a = c.args in
    let i = c.loop-position.position in
    let s : c.unsigned_abs.result ≡ nat_abs (at a.results.now i) = search rules in
    all_next {t = large a.limit a.results.now} c.loop-position.invariant (le-ltb a.limit (nat_abs (at a.results.now i)) (rw (← s) c.if-limit-unsigned_abs.false))

pub returns : goal.returns
returns c = let a = c.args in all_done 12 (length a.results.now) (large a.limit a.results.now) c.loop-position.position (omega arith) c.loop-position.invariant
