-- No result before n is within reach and refused.
use Rattle.theory.specs.Places.{Clear, picked}
use Rattle.gains.specs.Gains.{refused_in}
use Rattle.gains.proofs.inner.Edit.results_allowed.Given as goal

abbrev pub invariant-loop-n : goal.invariant-loop-n
invariant-loop-n l = let s = l.fn.span in Clear (picked s.start s.end (refused_in l.limit l.self.taps.now l.self.p l.self.change l.results)) l.n
