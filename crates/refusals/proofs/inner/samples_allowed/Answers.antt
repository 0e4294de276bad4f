-- Where all are acceptable the row does not apply; else one is bad, and the tally is its answer.
use Rattle.refusals.specs.Acceptable.{acceptable_done}
use Rattle.refusals.proofs.inner.samples_allowed.Goals as goal

pub returns-then-all_acceptable : goal.returns-then-all_acceptable
returns-then-all_acceptable c = let a = c.args in acceptable_done a.bound a.samples.now a.span.start a.span.end (c.all_acceptable.ensures.0 c.if-all_acceptable.true)
