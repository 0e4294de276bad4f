-- Sizes: how far a whole number is from 0.
--   Abs z n     |z| ≤ n; a record, so that z and n are read from a hypothesis
--   of_abs z    what nat_abs z is, for omega's list beside of+ and the like
-- Laws: nat_abs_back, nat_abs_neg, nat_abs_sub, nat_abs_nonneg;
-- abs_self, abs_weaken, abs-+, abs--, abs-*, abs_part, abs_rest; fits_abs, fits_wider (what fits 32 bits fits 64).
use Rattle.std.specs.Prelude.{◌≡◌, refl, ℕ, suc, ◌+◌, ◌*◌, ◌-◌, ◌^◌, ◌≤◌, ◌<◌, min, ℤ, pos, negsuc, neg_ℤ, nat_abs, ◌+ℤ◌, ◌-ℤ◌, ◌*ℤ◌, ◌≤ℤ◌}
use Rattle.std.proofs.Common.{mul-le-mul, le_refl, le_trans, lt_of_le_of_lt, arith}
use Rattle.std.specs.Int.Signed.{mag}
use Rattle.std.specs.Int.{Width, w32, w64}
use mir.Val.{SFits, hbits}
use Rattle.std.proofs.Math.Facts.{sfits_widen}
use Rattle.algebra.specs.Difference.{plus, minus}
use Rattle.algebra.specs.Order.{zarith, of+, of-, of_neg}

pub record Abs (z : ℤ) (n : ℕ) : Type 0 where
  pub bound : nat_abs z ≤ n

pub of_abs : (z : ℤ) → (min (plus z) (minus z) ≡ 0) × (nat_abs z ≡ plus z + minus z)
of_abs (pos n) = omega arith
of_abs (negsuc n) = omega arith

-- ---- nat_abs
nat_abs-+ : (a b : ℤ) → nat_abs (a +ℤ b) ≤ nat_abs a + nat_abs b
nat_abs-+ a b = omega (arith, of_abs a, of_abs b, of_abs (a +ℤ b), of+ a b)

-- what is taken away moves a number by no more than its size
pub nat_abs_back : (a b : ℤ) → nat_abs a ≤ nat_abs (a -ℤ b) + nat_abs b
nat_abs_back a b = omega (arith, of_abs a, of_abs b, of_abs (a -ℤ b), of- a b)

pub nat_abs_neg : (a : ℤ) → nat_abs (neg_ℤ a) ≡ nat_abs a
nat_abs_neg a = omega (arith, of_abs a, of_abs (neg_ℤ a), of_neg a)

nat_abs-* : (a b : ℤ) → nat_abs (a *ℤ b) ≡ nat_abs a * nat_abs b
nat_abs-* (pos a) (pos b) = refl
nat_abs-* (pos a) (negsuc b) = nat_abs_neg (pos (a * suc b))
nat_abs-* (negsuc a) (pos b) = nat_abs_neg (pos (suc a * b))
nat_abs-* (negsuc a) (negsuc b) = refl

pub nat_abs_sub : (a b : ℕ) → nat_abs (pos a -ℤ pos b) ≡ (a - b) + (b - a)
nat_abs_sub a b = omega (arith, of_abs (pos a -ℤ pos b), of- (pos a) (pos b))

pub nat_abs_nonneg : {a b : ℤ} → pos 0 ≤ℤ a → pos 0 ≤ℤ b → nat_abs (a +ℤ b) ≡ nat_abs a + nat_abs b
nat_abs_nonneg {a} {b} h k = omega (zarith, of_abs a, of_abs b, of_abs (a +ℤ b), of+ a b)

-- ---- bounds
pub abs_self : (z : ℤ) → Abs z (nat_abs z)
abs_self z = record { bound = le_refl (nat_abs z) }

pub abs_weaken : {z : ℤ} {m n : ℕ} → Abs z m → m ≤ n → Abs z n
abs_weaken h k = record { bound = le_trans h.bound k }

pub abs-+ : {a b : ℤ} {m n : ℕ} → Abs a m → Abs b n → Abs (a +ℤ b) (m + n)
abs-+ {a} {b} h k = omega (arith, nat_abs-+ a b)

abs_neg : {a : ℤ} {m : ℕ} → Abs a m → Abs (neg_ℤ a) m
abs_neg {a} h = record { bound = rw (nat_abs_neg a) h.bound }

pub abs-- : {a b : ℤ} {m n : ℕ} → Abs a m → Abs b n → Abs (a -ℤ b) (m + n)
abs-- h k = abs-+ h (abs_neg k)

pub abs-* : {a b : ℤ} {m n : ℕ} → Abs a m → Abs b n → Abs (a *ℤ b) (m * n)
abs-* {a} {b} h k = record { bound = rw (nat_abs-* a b) (mul-le-mul h.bound k.bound) }

-- a part of a sum of numbers that are not negative
pub abs_part : {a b : ℤ} {n : ℕ} → pos 0 ≤ℤ a → pos 0 ≤ℤ b → Abs (a +ℤ b) n → Abs a n
abs_part {a} {b} h k s = omega (arith, nat_abs_nonneg h k)

-- the last of a sum, by what stands before it and the whole
pub abs_rest : {a b : ℤ} {m n : ℕ} → Abs a m → Abs (a +ℤ b) n → Abs b (m + n)
abs_rest {a} {b} h k = omega (arith, of_abs a, of_abs b, of_abs (a +ℤ b), of+ a b)

-- ---- the range of a signed width
mag_abs : {z : ℤ} {n H : ℕ} → Abs z n → n < H → mag z < H
mag_abs {z} h k = lt_of_le_of_lt (le_trans (mag_le z) h.bound) k
  where
    mag_le : (z : ℤ) → mag z ≤ nat_abs z
    mag_le (pos n) = omega arith
    mag_le (negsuc n) = omega arith

pub fits_abs : {w : Width} {z : ℤ} {n : ℕ} → Abs z n → n < 2 ^ hbits w → SFits w z
fits_abs h k = record { sfits = mag_abs h k }

pub fits_wider : {z : ℤ} → SFits w32 z → SFits w64 z
fits_wider = sfits_widen tt
