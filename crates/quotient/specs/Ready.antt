-- What the rest asks.
--   Dividend z d   d is a divisor that a plan may have, and z is no larger than two of the largest results: a result and a carry
-- Laws: rest_is (the rest, by the quotient below), product_fits (the quotient's product with the divisor).
use Rattle.std.specs.Prelude.{ℕ, ◌*◌, ◌≤◌, ◌≡◌, ℤ, pos, nat_abs, ◌-ℤ◌, ◌*ℤ◌}
use Rattle.std.proofs.Common.{arith, SFits}
use Rattle.std.proofs.Math.IntN.{*ℤ_comm}
use Rattle.std.specs.Int.{w64}
use Rattle.algebra.specs.Order.{zarith, of+, of-}
use Rattle.algebra.specs.Size.{of_abs, fits_abs}
use Rattle.meaning.specs.Limits.{least, max_result}
use Rattle.meaning.specs.Extension.{emod}
use Rattle.meaning.specs.Values.{floor}
use Rattle.theory.specs.Remainder.{emod_divided}

pub record Dividend (z : ℤ) (d : ℕ) : Type 0 where
  pub size : nat_abs z ≤ 2 * max_result
  pub divisor : (least ≤ d) × (d ≤ max_result)

pub rest_is : (z : ℤ) (d : ℕ) → Dividend z d → z -ℤ floor z d *ℤ pos d ≡ pos (emod z d)
rest_is z d h =
    let v = emod_divided z h.divisor.0 in
    omega (zarith, v.is, of- z (floor z d *ℤ pos d), of+ (pos d *ℤ floor z d) (pos (emod z d)), *ℤ_comm (floor z d) (pos d))

pub product_fits : (z : ℤ) (d : ℕ) → Dividend z d → SFits w64 (floor z d *ℤ pos d)
product_fits z d h =
    let v = emod_divided z h.divisor.0 in
    let q = floor z d in
    fits_abs {n = 3 * max_result} (record { bound = omega (zarith, v.is, v.below, h.divisor.1, h.size, of_abs z, of_abs (q *ℤ pos d), of+ (pos d *ℤ q) (pos (emod z d)), *ℤ_comm q (pos d)) }) (omega arith)
