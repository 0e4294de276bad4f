-- Before cell n the carry is the one before it, and the first n cells are written.
use mathlib.Core.Path.{◌≡◌}
use lib.ListN.{length, take}
use Rattle.meaning.specs.Smoothing.{list_of}
use Rattle.meaning.specs.Carry.{carry, carry_cell}
use Rattle.carry.proofs.carrying.carry_into.Given as goal

abbrev pub invariant-loop-n : goal.invariant-loop-n
invariant-loop-n l = (l.carry ≡ carry l.divisor l.results l.n) × (take l.n l.cells ≡ take l.n (list_of (length l.results) (carry_cell l.divisor l.results)))
