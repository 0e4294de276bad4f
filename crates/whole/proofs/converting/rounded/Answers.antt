-- Twice the rest, and 1 where a half goes up, is compared with the divisor: `below` and `above` say which of the two it is.
use Prim.Native.Nat.{◌*◌, ◌<◌}
use mathlib.Core.Path.{◌≡◌, sym, ap, ◌∙◌}
use native.Mathlib.Omega.{arith}
use borrow.Author.Rules.{sfits_of}
use lib.IntN.{pos, ◌+ℤ◌}
use mir.Syntax.{w32, w64}
use mir.Val.{to_z, of_z, bool_byte}
use mir.Facts.{to_z-of_z}
use Rattle.algebra.specs.Size.{fits_wider}
use Rattle.meaning.specs.Extension.{emod}
use Rattle.meaning.specs.Values.{floor, rounded}
use Rattle.meaning.specs.Limits.{max_result}
use Rattle.theory.specs.Remainder.{emod_below}
use Rattle.theory.specs.Rounded.{goes_up}
use Rattle.whole.specs.Mode.{mode_of}
use Rattle.whole.specs.Rounding.{byte_most, before_half, past_half, rounded_fits}
use Rattle.whole.proofs.converting.rounded.Goals as goal
use Rattle.whole.proofs.converting.rounded.Goals.{After-floor-below, After-from, After-rest-rest, Else-rest-from, Then-rest-from}

quotient_is : (c : After-floor-below) → to_z w64 (of_z w64 c.floor-below.result) ≡ floor c.args.res c.args.divisor
quotient_is c = to_z-of_z {w = w64} (sfits_of c.floor-below.type_inv) ∙ c.floor-below.ensures ∙ rw (to_z-of_z c.ranges.res)

rest_is : (c : After-rest-rest) → c.rest-rest.result ≡ emod c.args.res c.args.divisor
rest_is c = c.rest-rest.ensures ∙ rw (to_z-of_z c.ranges.res)

twice_most : (c : After-rest-rest) → 2 * c.rest-rest.result < 2 * max_result
twice_most c = rw (rest_is c) (omega (arith, emod_below c.args.res c.requires.divisor.0, c.requires.divisor.1))

pub overflow_mul-rest : goal.overflow_mul-rest
overflow_mul-rest c = record { fits = omega (arith, twice_most (goal.at.overflow_mul-rest c).After-rest-rest) }

goes-up-is : (c : After-from) → c.from.result ≡ bool_byte (goes_up (mode_of c.args.rounding) (floor c.args.res c.args.divisor))
goes-up-is c = c.from.ensures ∙ ap bool_byte (c.goes_up.ensures ∙ rw (quotient_is c.before.before.before))

pub overflow_add-rest : goal.overflow_add-rest
overflow_add-rest c = record { fits = omega (arith, twice_most (goal.at.overflow_add-rest c).After-rest-rest, byte_most c.goes_up.result) }

-- up to a half
below : (c : Then-rest-from) → rounded (mode_of c.args.rounding) c.args.res c.args.divisor ≡ to_z w64 (of_z w64 c.floor-below.result)
below c = let a = c.args in before_half c.requires (mode_of a.rounding) (rw (rest_is c.before.before.before, goes-up-is c.before) at c.if-rest-from.true) ∙ sym (quotient_is c.before.before.before.before)

pub overflow_cast-result : goal.overflow_cast-result
overflow_cast-result c = rw (← below (goal.at.overflow_cast-result c).Then-rest-from) (rounded_fits c.requires (mode_of c.args.rounding))

pub returns-then-rest-from : goal.returns-then-rest-from
returns-then-rest-from c = to_z-of_z {w = w32} (overflow_cast-result c) ∙ sym (below (goal.at.returns-then-rest-from c).Then-rest-from)

-- past it
above : (c : Else-rest-from) → rounded (mode_of c.args.rounding) c.args.res c.args.divisor ≡ to_z w64 (of_z w64 c.floor-below.result) +ℤ pos 1
above c = let a = c.args in past_half c.requires (mode_of a.rounding) (rw (rest_is c.before.before.before, goes-up-is c.before) at c.if-rest-from.false) ∙ rw (quotient_is c.before.before.before.before)

pub overflow_add-result : goal.overflow_add-result
overflow_add-result c = rw (← above (goal.at.overflow_add-result c).Else-rest-from) (fits_wider (rounded_fits c.requires (mode_of c.args.rounding)))

pub overflow_cast-result-2 : goal.overflow_cast-result-2
overflow_cast-result-2 c = rw (to_z-of_z {w = w64} (overflow_add-result c), ← above (goal.at.overflow_cast-result-2 c).Else-rest-from) (rounded_fits c.requires (mode_of c.args.rounding))

pub returns : goal.returns
returns c = to_z-of_z {w = w32} (overflow_cast-result-2 c) ∙ to_z-of_z {w = w64} (overflow_add-result c) ∙ sym (above (goal.at.returns c).Else-rest-from)
