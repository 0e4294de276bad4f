-- Up to n the results have their gains, from n on they are as they were.
use Rattle.theory.specs.Fill.{Filled}
use Rattle.gains.specs.Gains.{gained_in}
use Rattle.gains.proofs.inner.Edit.add_gains.Given as goal

abbrev pub invariant-loop-n : goal.invariant-loop-n
invariant-loop-n l =
    let s = l.fn.span in
    Filled (gained_in l.self.taps.now l.self.p l.self.change l.initial.results s.start s.end) l.initial.results l.results l.n
