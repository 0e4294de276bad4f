-- All are acceptable so far exactly where each before i has a size up to the bound.
use Prim.Native.Nat.{◌-◌, ◌≤◌}
use mathlib.Core.Path.{◌≡◌}
use mathlib.Core.Bool.{true}
use Rattle.refusals.specs.Acceptable.{Acceptable}
use Rattle.refusals.proofs.bad.all_acceptable.Given as goal

abbrev pub invariant-loop-i : goal.invariant-loop-i
invariant-loop-i l = record {
  behind : l.i - l.fn.span.start ≤ l.fn.span.end - l.fn.span.start;
  yes : l.acceptable ≡ true → Acceptable l.bound l.samples l.fn.span.start l.i;
  no : Acceptable l.bound l.samples l.fn.span.start l.i → l.acceptable ≡ true;
}
