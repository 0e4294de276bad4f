-- a and -a - 1, which is divided in place of a negative number.
-- Laws: turn_pos, turn_negsuc; quotient_fits (what is divided fits, and so does its quotient).
use Rattle.std.specs.Prelude.{ℕ, ◌/◌, ◌≡◌, pos, negsuc, ◌-ℤ◌}
use Rattle.std.proofs.Common.{div-le_self, arith, SFits}
use Rattle.std.specs.Int.{w64}
use Rattle.algebra.specs.Order.{zarith, of-}

pub turn_pos : (a : ℕ) → negsuc 0 -ℤ pos a ≡ negsuc a
turn_pos a = omega (zarith, of- (negsuc 0) (pos a))

pub turn_negsuc : (a : ℕ) → negsuc 0 -ℤ negsuc a ≡ pos a
turn_negsuc a = omega (zarith, of- (negsuc 0) (negsuc a))

pub quotient_fits : (a d : ℕ) → SFits w64 (pos a) → SFits w64 (pos (a / d))
quotient_fits a d h = record { sfits = omega (arith, h.sfits, div-le_self a d) }
