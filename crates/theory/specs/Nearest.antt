-- A quotient to the nearest whole number.
-- Laws: nearest_below, nearest_above (by quotient and rest: the one below, or from a half on the one above); nearest_size;
-- nearest_nearest (no whole number is nearer), nearest_half (of two as near, the upper);
-- down_nearest, down_half (the same of a half going down: of two as near, the lower), down_most.
use Rattle.std.specs.Prelude.{ℕ, zero, suc, ◌+◌, ◌*◌, ◌-◌, ◌≤◌, ◌<◌, ◌≡◌, refl, ℤ, negsuc, neg_ℤ, nat_abs, ◌+ℤ◌, ◌-ℤ◌, ◌*ℤ◌, ◌≤ℤ◌, ◌<ℤ◌}
use Rattle.std.proofs.Common.{sym, le_refl, mul-le-mul_right, le-div_iff_mul-le, div-lt_iff_lt-mul, arith}
use Rattle.std.proofs.Math.Decide.{dec_lt}
use Rattle.std.proofs.Math.IntN.{pos, +ℤ_idr}
use Rattle.std.specs.Int.Signed.{≤ℤ_refl}
use Rattle.algebra.specs.Difference.{plus, minus, rep, diff, linear}
use Rattle.algebra.specs.Ring.{*ℤ-+ℤ, *ℤ-negℤ}
use Rattle.algebra.specs.Order.{zarith, of+, of-, of*, of_neg, nonneg_pos, +ℤ-mono, *ℤ-mono}
use Rattle.algebra.specs.Size.{of_abs}
use Rattle.algebra.specs.Division.{Divided, floor_unique, floor_lower, floor_upper, floor_mono}
use Rattle.algebra.specs.Solver.{ring, ◌≗◌}
use Rattle.algebra.specs.Expression.{◌⊕◌, ◌⊝◌, ◌⊗◌}
use Rattle.meaning.specs.Smoothing.{apart}
use Rattle.meaning.specs.Values.{nearest}
use Rattle.meaning.specs.Planner.{nearest_down}

-- ---- by quotient and rest
module _ {z : ℤ} {d : ℕ} {q : ℤ} {r : ℕ} (h : Divided z d q r) where
  pub nearest_below : 2 * r < d → nearest z d ≡ q
  unfolding nearest
  nearest_below l = floor_unique doubled
    where
      doubled : Divided (pos 2 *ℤ z +ℤ pos d) (2 * d) q (2 * r + d)
      doubled = record { below = omega arith; is = rw (h.is, rep q) (simp diff (omega linear)) }

  pub nearest_above : d ≤ 2 * r → nearest z d ≡ q +ℤ pos 1
  unfolding nearest
  nearest_above l = floor_unique doubled
    where
      doubled : Divided (pos 2 *ℤ z +ℤ pos d) (2 * d) (q +ℤ pos 1) (2 * r - d)
      doubled = record { below = omega (arith, h.below); is = rw (h.is, rep q) (simp diff (omega linear)) }

-- ---- u is off by at most a half of d: at least minus a half, and below a half
record Half (u : ℤ) (d : ℕ) : Type 0 where
  low : 2 * minus u ≤ 2 * plus u + d
  high : 2 * plus u < 2 * minus u + d

-- what is off by some d more is off by no less
half_least : {u : ℤ} {d : ℕ} → Half u d → (s : ℤ) → nat_abs u ≤ nat_abs (u +ℤ pos d *ℤ s)
half_least {u} {d} h (pos zero) = omega (arith, of_abs u, of_abs (u +ℤ pos (d * 0)), of+ u (pos (d * 0)))
half_least {u} {d} h (pos (suc j)) = omega (arith, of_abs u, of_abs (u +ℤ pos (d * suc j)), of+ u (pos (d * suc j)))
half_least {u} {d} h (negsuc j) = omega (arith, of_abs u, of_abs (u +ℤ neg_ℤ (pos (d * suc j))), of+ u (neg_ℤ (pos (d * suc j))), of_neg (pos (d * suc j)))

half_upper : {u : ℤ} {d : ℕ} → Half u d → (s : ℤ) → nat_abs (u +ℤ pos d *ℤ s) ≡ nat_abs u → pos 0 ≤ℤ s
half_upper h (pos j) e = nonneg_pos
half_upper {u} {d} h (negsuc j) e = let no : ⊥ = omega (arith, of_abs u, of_abs (u +ℤ neg_ℤ (pos (d * suc j))), of+ u (neg_ℤ (pos (d * suc j))), of_neg (pos (d * suc j))) in absurd no

module _ (d : ℕ) (h : 0 < d) where
  -- ---- its bounds
  nearest_lower : (z : ℤ) → (pos (2 * d) *ℤ nearest z d) ≤ℤ (pos 2 *ℤ z +ℤ pos d)
  unfolding nearest
  nearest_lower z = floor_lower (2 * d) (omega arith) (pos 2 *ℤ z +ℤ pos d)

  nearest_upper : (z : ℤ) → (pos 2 *ℤ z +ℤ pos d) <ℤ (pos (2 * d) *ℤ (nearest z d +ℤ pos 1))
  unfolding nearest
  nearest_upper z = floor_upper (2 * d) (omega arith) (pos 2 *ℤ z +ℤ pos d)

  nearest_whole : (k : ℤ) → nearest (pos d *ℤ k) d ≡ k
  nearest_whole k = nearest_below {r = 0} (record { below = h; is = sym (+ℤ_idr (pos d *ℤ k)) }) (omega arith)

  nearest_mono : {a b : ℤ} → a ≤ℤ b → nearest a d ≤ℤ nearest b d
  unfolding nearest
  nearest_mono l = floor_mono (2 * d) (omega arith) (+ℤ-mono (*ℤ-mono nonneg_pos l) (≤ℤ_refl (pos d)))

  pub nearest_size : (z : ℤ) (M : ℕ) → nat_abs z ≤ M * d → nat_abs (nearest z d) ≤ M
  nearest_size z M l =
      let high : z ≤ℤ (pos d *ℤ pos M) = omega (zarith, of_abs z) in
      let low : (pos d *ℤ neg_ℤ (pos M)) ≤ℤ z = rw (*ℤ-negℤ (pos d) (pos M)) (omega (zarith, of_abs z, of_neg (pos (d * M)))) in
      omega (zarith, of_abs (nearest z d), of_neg (pos M), rw (nearest_whole (pos M)) at (nearest_mono high), rw (nearest_whole (neg_ℤ (pos M))) at (nearest_mono low))

  -- ---- how near it is
  module _ (z : ℤ) where
    off_half : Half (z -ℤ pos d *ℤ nearest z d) d
    off_half =
        let q = nearest z d in
        record {
          low = omega (zarith, nearest_lower z, of* (pos (2 * d)) q, of+ (pos 2 *ℤ z) (pos d), of* (pos 2) z, of- z (pos d *ℤ q), of* (pos d) q);
          high = omega (zarith, nearest_upper z, *ℤ-+ℤ (pos (2 * d)) q (pos 1), of+ (pos (2 * d) *ℤ q) (pos (2 * d * 1)), of* (pos (2 * d)) q, of+ (pos 2 *ℤ z) (pos d), of* (pos 2) z, of- z (pos d *ℤ q), of* (pos d) q);
        }

    off_other : (k : ℤ) → z -ℤ pos d *ℤ k ≡ z -ℤ pos d *ℤ nearest z d +ℤ pos d *ℤ (nearest z d -ℤ k)
    off_other k = ring 4 (λ z d q k. z ⊝ d ⊗ k ≗ z ⊝ d ⊗ q ⊕ d ⊗ (q ⊝ k)) refl z (pos d) (nearest z d) k

    pub nearest_nearest : (k : ℤ) → nat_abs (z -ℤ pos d *ℤ nearest z d) ≤ nat_abs (z -ℤ pos d *ℤ k)
    nearest_nearest k = rw (off_other k) (half_least off_half (nearest z d -ℤ k))

    pub nearest_half : (k : ℤ) → nat_abs (z -ℤ pos d *ℤ k) ≡ nat_abs (z -ℤ pos d *ℤ nearest z d) → k ≤ℤ nearest z d
    nearest_half k e = let l = half_upper off_half (nearest z d -ℤ k) (rw (off_other k) at e) in omega (zarith, of- (nearest z d) k)

-- ---- a half going down
module _ (n d : ℕ) (h : 0 < d) where
  abbrev down : ℕ
  down = nearest_down n d

  down_lower : down * (2 * d) ≤ 2 * n + d - 1
  unfolding nearest_down
  down_lower = (le-div_iff_mul-le {k = 2 * d} (omega arith)).0 (le_refl _)

  down_upper : 2 * n + d - 1 < (down + 1) * (2 * d)
  unfolding nearest_down
  down_upper = (div-lt_iff_lt-mul {k = 2 * d} (omega arith)).0 (omega arith)

  pub down_nearest : (k : ℕ) → apart (down * d) n ≤ apart (k * d) n
  down_nearest k = go (dec_lt k down) (dec_lt down k)
    where
      go : Dec (k < down) → Dec (down < k) → apart (down * d) n ≤ apart (k * d) n
      go (yes l) e = omega (arith, down_lower, mul-le-mul_right d l)
      go (no l) (yes e) = omega (arith, down_upper, mul-le-mul_right d e)
      go (no l) (no e) = let i : k ≡ down = omega arith in rw i (le_refl _)

  pub down_half : (k : ℕ) → apart (k * d) n ≡ apart (down * d) n → down ≤ k
  down_half k i = go (dec_lt k down)
    where
      go : Dec (k < down) → down ≤ k
      go (yes l) = absurd (omega (arith, down_lower, mul-le-mul_right d l))
      go (no l) = omega arith

  pub down_most : {b : ℕ} → n ≤ b * d → down ≤ b
  down_most {b} l = go (dec_lt b down)
    where
      go : Dec (b < down) → down ≤ b
      go (yes k) = absurd (omega (arith, down_lower, mul-le-mul_right d k))
      go (no k) = omega arith
