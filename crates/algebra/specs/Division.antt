-- Division that rounds down: lib.Signed's shr_z z m is ⌊z / m⌋.
--   Divided z m q r   z is m q + r, and r is below m; so 0 < m, and r is never negative
-- A remainder defined elsewhere is tied by divided_pos and divided_negsuc, and then known by divided_unique.
-- Laws: divided_pos, divided_negsuc, divided_shift; divided_next, divided_turn (one more, and where that is a whole quotient more), divided_neg_whole, divided_neg (of the negative: without a rest, and with one); divided_unique;
-- floor_unique, floor_lower, floor_upper, floor_mono.
use Rattle.std.specs.Prelude.{◌≡◌, refl, ℕ, suc, ◌+◌, ◌*◌, ◌-◌, ◌/◌, ◌%◌, ◌<◌, ℤ, pos, negsuc, neg_ℤ, ◌+ℤ◌, ◌-ℤ◌, ◌*ℤ◌, ◌≤ℤ◌, ◌<ℤ◌}
use Rattle.std.proofs.Common.{ap, div-add-mod', mod-lt, arith}
use Rattle.std.proofs.Math.Nat.{lt_of_mul-lt-mul_left}
use Rattle.std.specs.Int.Signed.{shr_z, ≤ℤ_refl}
use Rattle.algebra.specs.Difference.{plus, minus, rep, diff, linear}
use Rattle.algebra.specs.Ring.{*ℤ-+ℤ}
use Rattle.algebra.specs.Order.{zarith, le_in, of+, of*, ≤ℤ-antisym}
use Rattle.algebra.specs.Solver.{ring, ◌≗◌}
use Rattle.algebra.specs.Expression.{◌⊕◌, ◌⊗◌}

pub record Divided (z : ℤ) (m : ℕ) (q : ℤ) (r : ℕ) : Type 0 where
  pub below : r < m
  pub is : z ≡ pos m *ℤ q +ℤ pos r

-- ---- quotient and rest
pub divided_pos : (a m : ℕ) → 0 < m → Divided (pos a) m (pos (a / m)) (a % m)
divided_pos a m h = record { below = mod-lt a h; is = ap pos (omega (arith, div-add-mod' a m)) }

pub divided_negsuc : (a m : ℕ) → 0 < m → Divided (negsuc a) m (negsuc (a / m)) (m - suc (a % m))
divided_negsuc a m h = record { below = omega arith; is = simp diff (omega (linear, div-add-mod' a m, mod-lt a h)) }

pub divided_shift : {z : ℤ} {m : ℕ} {q : ℤ} {r : ℕ} → Divided z m q r → (k : ℤ) → Divided (z +ℤ pos m *ℤ k) m (q +ℤ k) r
divided_shift {z} {m} {q} {r} d k = record { below = d.below; is = rw d.is (regroup (pos m) q (pos r) k) }
  where
    regroup : (m q r k : ℤ) → m *ℤ q +ℤ r +ℤ m *ℤ k ≡ m *ℤ (q +ℤ k) +ℤ r
    regroup = ring 4 (λ m q r k. m ⊗ q ⊕ r ⊕ m ⊗ k ≗ m ⊗ (q ⊕ k) ⊕ r) refl

module _ {z : ℤ} {m : ℕ} {q : ℤ} where
  pub divided_next : {r : ℕ} → Divided z m q r → suc r < m → Divided (z +ℤ pos 1) m q (suc r)
  divided_next d l = record { below = l; is = rw (d.is, rep q) (simp diff (omega linear)) }

  pub divided_turn : {r : ℕ} → Divided z m q r → suc r ≡ m → Divided (z +ℤ pos 1) m (q +ℤ pos 1) 0
  divided_turn d e = record { below = omega arith; is = rw (d.is, rep q) (simp diff (omega linear)) }

  pub divided_neg_whole : Divided z m q 0 → Divided (neg_ℤ z) m (neg_ℤ q) 0
  divided_neg_whole d = record { below = d.below; is = rw (d.is, rep q) (simp diff (omega linear)) }

  pub divided_neg : {r : ℕ} → Divided z m q r → 0 < r → Divided (neg_ℤ z) m (negsuc 0 -ℤ q) (m - r)
  divided_neg d l = record { below = omega arith; is = rw (d.is, rep q) (simp diff (omega (linear, d.below))) }

-- the larger number has no smaller quotient
quotient_mono : {a b : ℤ} {m : ℕ} {p q : ℤ} {r s : ℕ} → Divided a m p r → Divided b m q s → a ≤ℤ b → p ≤ℤ q
quotient_mono {m} {p} {q} {r} {s} d e h =
    let l : m * (plus p + minus q) < m * (plus q + minus p + 1) = omega (zarith, of+ (pos m *ℤ p) (pos r), of+ (pos m *ℤ q) (pos s), of* (pos m) p, of* (pos m) q) in
    le_in (omega (arith, lt_of_mul-lt-mul_left m l))

pub divided_unique : {z : ℤ} {m : ℕ} {p q : ℤ} {r s : ℕ} → Divided z m p r → Divided z m q s → (p ≡ q) × (r ≡ s)
divided_unique {z} {m} {p} {q} {r} {s} d e =
    (same, omega (zarith, of+ (pos m *ℤ p) (pos r), of+ (pos m *ℤ q) (pos s), ap (λ x. pos m *ℤ x) same))
  where
    same : p ≡ q
    same = ≤ℤ-antisym (quotient_mono d e (≤ℤ_refl z)) (quotient_mono e d (≤ℤ_refl z))

-- ---- the floor
floor_divided : (z : ℤ) (m : ℕ) → 0 < m → (r : ℕ) × Divided z m (shr_z z m) r
floor_divided (pos a) m h = (a % m, divided_pos a m h)
floor_divided (negsuc a) m h = (m - suc (a % m), divided_negsuc a m h)

pub floor_unique : {z : ℤ} {m : ℕ} {q : ℤ} {r : ℕ} → Divided z m q r → shr_z z m ≡ q
floor_unique {z} {m} d = (divided_unique (floor_divided z m (omega arith)).1 d).0

module _ (m : ℕ) (h : 0 < m) where
  pub floor_lower : (z : ℤ) → (pos m *ℤ shr_z z m) ≤ℤ z
  floor_lower z = let d = floor_divided z m h in omega (zarith, of+ (pos m *ℤ shr_z z m) (pos d.0))

  pub floor_upper : (z : ℤ) → z <ℤ (pos m *ℤ (shr_z z m +ℤ pos 1))
  floor_upper z = let d = floor_divided z m h in rw (*ℤ-+ℤ (pos m) (shr_z z m) (pos 1)) (omega (zarith, of+ (pos m *ℤ shr_z z m) (pos d.0), of+ (pos m *ℤ shr_z z m) (pos (m * 1))))

  pub floor_mono : {a b : ℤ} → a ≤ℤ b → shr_z a m ≤ℤ shr_z b m
  floor_mono {a} {b} k = quotient_mono (floor_divided a m h).1 (floor_divided b m h).1 k
