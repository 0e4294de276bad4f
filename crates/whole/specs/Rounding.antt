-- A result over the divisor, rounded by the quotient below and the rest.
-- Laws: byte_most (a bool is at most 1); dividend (a result is what `rest` asks), before_half, past_half (which of two it is), rounded_fits.
use Rattle.std.specs.Prelude.{ℕ, ◌+◌, ◌*◌, ◌≤◌, ◌<◌, ◌≡◌, refl, Bool, true, false, cond, ℤ, pos, ◌+ℤ◌}
use Rattle.std.proofs.Common.{arith}
use Rattle.std.specs.Int.{w32}
use mir.Val.{SFits, bool_byte}
use Rattle.algebra.specs.Size.{fits_abs}
use Rattle.meaning.specs.Limits.{max_bound}
use Rattle.meaning.specs.Extension.{emod}
use Rattle.meaning.specs.Values.{floor, rounded}
use Rattle.theory.specs.Remainder.{emod_divided}
use Rattle.theory.specs.Rounded.{goes_up, rounded_below, rounded_above, rounded_size}
use Rattle.quotient.specs.Ready.{Dividend}
use Rattle.outputs.specs.Ready.{PutOut}

byte_is : (b : Bool) → bool_byte b ≡ cond b 1 0
byte_is true = refl
byte_is false = refl

pub byte_most : (b : Bool) → bool_byte b ≤ 1
byte_most true = omega arith
byte_most false = omega arith

module _ {z : ℤ} {d : ℕ} (h : PutOut z d) where
  pub dividend : Dividend z d
  dividend = record { size = omega (arith, h.small); divisor = h.divisor }

  pub before_half : (mode : ℕ) → 2 * emod z d + bool_byte (goes_up mode (floor z d)) ≤ d → rounded mode z d ≡ floor z d
  before_half mode l = rounded_below (emod_divided z h.divisor.0) mode (omega (arith, byte_is (goes_up mode (floor z d))))

  pub past_half : (mode : ℕ) → d < 2 * emod z d + bool_byte (goes_up mode (floor z d)) → rounded mode z d ≡ floor z d +ℤ pos 1
  past_half mode l = rounded_above (emod_divided z h.divisor.0) mode (omega (arith, byte_is (goes_up mode (floor z d))))

  pub rounded_fits : (mode : ℕ) → SFits w32 (rounded mode z d)
  rounded_fits mode = fits_abs (record { bound = rounded_size d h.divisor.0 z mode max_bound h.size }) (omega arith)
