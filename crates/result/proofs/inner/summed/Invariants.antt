-- Before sample p, s is the sum of the shares of all samples before it.
use mathlib.Core.Path.{◌≡◌}
use Rattle.algebra.specs.Sum.{sum}
use Rattle.result.specs.Shares.{share_in}
use Rattle.result.proofs.inner.summed.Given as goal

abbrev pub invariant-loop-p : goal.invariant-loop-p
invariant-loop-p l = l.s ≡ sum l.p (share_in l.taps l.samples l.n)
