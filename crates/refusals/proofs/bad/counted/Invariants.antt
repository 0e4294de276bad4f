-- The first place and the count are those of the places from i on.
use Rattle.std.specs.Prelude.{ℕ, ◌+◌, ◌≤◌, ◌<◌, ◌≡◌, min, Bool}
use Rattle.theory.specs.Tally.{tally}
use Rattle.refusals.specs.Counted.{told}
use Rattle.refusals.proofs.bad.counted.Given as goal

abbrev pub invariant-loop-i : goal.invariant-loop-i
invariant-loop-i g l = record {
  from : min l.fn.span.start l.fn.span.end ≤ l.i;
  room : l.count + l.i ≤ l.fn.span.end;
  so_far : (N : ℕ) (t : ℕ → Bool) → l.fn.span.end ≤ N
      → ((i : ℕ) (r : Bool) → l.fn.span.start ≤ i → i < l.fn.span.end → goal.F-post g l.bad i r → r ≡ t i)
      → told l.count l.first ≡ tally N l.fn.span.end t l.i;
}
