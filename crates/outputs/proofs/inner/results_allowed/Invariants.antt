-- No result before this place is too large.
use Rattle.std.specs.Prelude.{ℕ, Bool, List, ℤ}
use Rattle.meaning.specs.Extension.{at}
use Rattle.meaning.specs.Refusals.{above}
use Rattle.theory.specs.Places.{Clear}
use Rattle.outputs.proofs.inner.results_allowed.Given as goal

abbrev pub large : ℕ → List ℤ → ℕ → Bool
large limit results j = above limit (at results j)

abbrev pub invariant-loop-position : goal.invariant-loop-position
invariant-loop-position l = Clear (large l.limit l.results) l.position
