-- What was tested is written, and nothing before all of it was tested.
use Rattle.gains.specs.Gains.{by_refused, by_writable, by_done}
use Rattle.gains.proofs.inner.Edit.apply.Goals as goal

pub returns-in_err-results_allowed : goal.returns-in_err-results_allowed
returns-in_err-results_allowed c =
    let e = c.args.self in
    let s = c.within_reach-span.ensures in
    by_refused e.taps.now c.args.limit e.p e.change c.args.results.now s.start s.end _ _ c.from_residual.ensures.1 c.in_err-results_allowed.ensures

pub add_gains-requires-clause-writable : goal.add_gains-requires-clause-writable
add_gains-requires-clause-writable c =
    let e = c.args.self in
    let s = c.within_reach-span.ensures in
    by_writable e.taps.now c.args.limit e.p e.change c.args.results.now s.start s.end c.in_ok-results_allowed.ensures c.requires.0 (rw c.requires.2 e.gainable)

pub returns : goal.returns
returns c =
    let e = c.args.self in
    let s = c.within_reach-span.ensures in
    by_done e.taps.now c.args.limit e.p e.change c.args.results.now s.start s.end c.in_ok-results_allowed.ensures c.count.ensures c.add_gains.ensures
