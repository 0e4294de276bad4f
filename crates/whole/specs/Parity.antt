-- The remainder of the language's own division by 2, which goes toward zero: it is 0 exactly of even numbers.
-- Laws: rem_even; division_fits (the quotient, by any divisor: the machine asks for it of a remainder too).
use Rattle.std.specs.Prelude.{ℕ, zero, suc, ◌+◌, ◌-◌, ◌/◌, ◌%◌, ◌≤◌, ◌<◌, ◌≡◌, refl, eqb, ℤ, pos, negsuc, neg_ℤ}
use Rattle.std.proofs.Common.{div-le_self, div-add-mod', mod-lt, arith, SFits, of_z}
use Rattle.std.specs.Int.Signed.{quot_z, rem_z}
use Rattle.std.specs.Int.{w64}
use Rattle.meaning.specs.Extension.{emod}
use Rattle.meaning.specs.Values.{even}
use Rattle.quotient.specs.Turning.{quotient_fits}

pub rem_even : (z : ℤ) → eqb (of_z w64 (rem_z z (pos 2))) 0 ≡ even z
unfolding even emod
rem_even (pos a) = refl
rem_even (negsuc a) = go (suc a % 2) (a % 2) (omega (arith, div-add-mod' a 2, div-add-mod' (suc a) 2, below a, below (suc a)))
  where
    below : (n : ℕ) → n % 2 < 2
    below n = mod-lt n (omega arith)

    go : (m n : ℕ) → m + n ≡ 1 → eqb (of_z w64 (neg_ℤ (pos m))) 0 ≡ eqb (2 - suc n) 0
    go zero n e = let i : n ≡ 1 = omega arith in rw i
    go (suc m) n e = let i : m ≡ 0 = omega arith in let j : n ≡ 0 = omega arith in rw (i, j)

pub division_fits : (z : ℤ) (d : ℕ) → SFits w64 z → SFits w64 (quot_z z (pos d))
division_fits (pos a) d h = quotient_fits a d h
division_fits (negsuc a) d h = go (suc a / d) (div-le_self (suc a) d)
  where
    go : (n : ℕ) → n ≤ suc a → SFits w64 (neg_ℤ (pos n))
    go zero l = record { sfits = omega (arith, h.sfits) }
    go (suc n) l = record { sfits = omega (arith, h.sfits) }
