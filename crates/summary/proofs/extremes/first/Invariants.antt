-- The best so far is the first of the results before i that none beats.
use Rattle.std.specs.Prelude.{ℤ, Bool, ◌≡◌, ◌≤◌, length}
use Rattle.meaning.specs.Extension.{at}
use Rattle.theory.specs.Extremes.{Beating, Best}
use Rattle.summary.proofs.extremes.first.Given as goal

abbrev pub invariant-loop-i : goal.invariant-loop-i
invariant-loop-i g l = record {
  room : l.i ≤ length l.results;
  value : l.best ≡ at l.results l.at;
  so_far : (t : ℤ → ℤ → Bool) → Beating t → ((x y : ℤ) (r : Bool) → goal.F-post g l.beats x y r → r ≡ t x y) → Best t l.results l.i l.at;
}
