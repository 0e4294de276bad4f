-- A sample is bad where its size is above the bound.
use Rattle.std.specs.Prelude.{length}
use borrow.Author.Rules.{rules}
use Rattle.meaning.specs.Extension.{at}
use Rattle.meaning.specs.Refusals.{above}
use Rattle.refusals.proofs.bad.tally.Goals as goal

pub returns : goal.returns
returns c =
    let a = c.args in
    c.counted.ensures (length a.samples.now) (λ i. above a.bound (at a.samples.now i)) c.requires.0 (λ i r l m h. search rules)
