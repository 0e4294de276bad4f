-- The numbers of stages one after the other, and of K equal ones.
--   PositiveInner ss   every inner weight of ss is above 0
-- Laws: tap_sum_is; width_replicate, reach_replicate, divisor_replicate (of K equal stages);
-- divisor_plan, reach_edged, reach_plain (document 01's numbers of a plan);
-- tap_sum_positive, divisor_positive; reach_part; room_part, room_replicate.
use Rattle.std.specs.Prelude.{◌≡◌, refl, List, [], ◌∷◌, ◌++◌, ℕ, zero, suc, ◌+◌, ◌*◌, ◌-◌, ◌^◌, ◌≤◌, ◌<◌, replicate}
use Rattle.std.proofs.Common.{sym, ◌∙◌, ap, zero-mul, suc-mul, mul_assoc, mul_comm, one-mul, mul-pos, le-mul_of_pos_right, mul-le-mul_left, mul-le-mul_right, pow-suc, arith, ne_eqb}
use Rattle.std.proofs.Math.Nat.{pow-zero}
use Rattle.std.proofs.lemmas.List.{replicate-append-replicate}
use Rattle.meaning.specs.Kernel.{Stage, plan, width, tap_reach, reach, tap_sum, divisor}

pub tap_sum_is : (s : Stage) → tap_sum s ≡ (2 * s.radius + 1) * s.inner + 2 * s.edge
unfolding tap_sum
tap_sum_is s = refl

-- ---- one after the other
divisor_cons : (s : Stage) (ss : List Stage) → divisor (s ∷ ss) ≡ tap_sum s * divisor ss
unfolding divisor
divisor_cons s ss = refl

divisor_append : (ss ts : List Stage) → divisor (ss ++ ts) ≡ divisor ss * divisor ts
unfolding divisor
divisor_append [] ts = sym (one-mul (divisor ts))
divisor_append (s ∷ ss) ts = rw (divisor_append ss ts) (sym (mul_assoc (tap_sum s) (divisor ss) (divisor ts)))

-- ---- of K equal stages
pub width_replicate : (K : ℕ) (s : Stage) → width (replicate K s) ≡ K * suc s.radius
unfolding width
width_replicate zero s = sym (zero-mul (suc s.radius))
width_replicate (suc K) s = rw (width_replicate K s) (sym (suc-mul K (suc s.radius)))

pub reach_replicate : (K : ℕ) (s : Stage) → reach (replicate K s) ≡ K * tap_reach s
unfolding reach
reach_replicate zero s = sym (zero-mul (tap_reach s))
reach_replicate (suc K) s = rw (reach_replicate K s) (sym (suc-mul K (tap_reach s)))

pub divisor_replicate : (K : ℕ) (s : Stage) → divisor (replicate K s) ≡ tap_sum s ^ K
unfolding divisor
divisor_replicate zero s = sym (pow-zero (tap_sum s))
divisor_replicate (suc K) s = rw (divisor_replicate K s) (mul_comm (tap_sum s) (tap_sum s ^ K) ∙ sym (pow-suc (tap_sum s) K))

pub divisor_plan : (r b a K : ℕ) → divisor (plan r b a K) ≡ ((2 * r + 1) * b + 2 * a) ^ K
unfolding tap_sum
divisor_plan r b a K = divisor_replicate K (record { radius = r; inner = b; edge = a })

pub reach_edged : (r b a K : ℕ) → 0 < a → reach (plan r b a K) ≡ K * (r + 1)
reach_edged r b a K h = reach_replicate K _ ∙ rw (ne_eqb a 0 (omega arith)) (omega arith)

pub reach_plain : (r b K : ℕ) → reach (plan r b 0 K) ≡ K * r
reach_plain r b K = reach_replicate K _

-- ---- inner weights above 0
infixr 5 ◌and◌
pub data PositiveInner : List Stage → Type 0 where
  none : PositiveInner []
  ◌and◌ : {s : Stage} {ss : List Stage} → 0 < s.inner → PositiveInner ss → PositiveInner (s ∷ ss)

inner_replicate : (K : ℕ) (s : Stage) → 0 < s.inner → PositiveInner (replicate K s)
inner_replicate zero s h = none
inner_replicate (suc K) s h = h and inner_replicate K s h

pub tap_sum_positive : (s : Stage) → 0 < s.inner → 0 < tap_sum s
unfolding tap_sum
tap_sum_positive s h = omega (arith, mul-pos {m = 2 * s.radius + 1} {n = s.inner} (omega arith) h)

pub divisor_positive : {ss : List Stage} → PositiveInner ss → 0 < divisor ss
unfolding divisor
divisor_positive none = omega arith
divisor_positive {ss = s ∷ ss} (h and p) = mul-pos (tap_sum_positive s h) (divisor_positive p)

-- the divisor of the passes so far is no larger than that of all
divisor_part : {ss : List Stage} (ts : List Stage) → PositiveInner ss → divisor ts ≤ divisor (ss ++ ts)
divisor_part {ss} ts p = rw (divisor_append ss ts, mul_comm (divisor ss) (divisor ts)) (le-mul_of_pos_right (divisor ts) (divisor_positive p))

-- k of K equal stages, and those to come
replicate_part : (s : Stage) {k K : ℕ} → k ≤ K → replicate (K - k) s ++ replicate k s ≡ replicate K s
replicate_part s {k} {K} h = let e : K - k + k ≡ K = omega arith in replicate-append-replicate (K - k) k s ∙ ap (λ n. replicate n s) e

pub reach_part : (s : Stage) {k K : ℕ} → k ≤ K → reach (replicate k s) ≤ reach (replicate K s)
reach_part s {k} {K} h = rw (reach_replicate k s, reach_replicate K s) (mul-le-mul_right (tap_reach s) h)

-- the pass of s after those of ts, with those of ss to come: results of size up to M divisor have room for it
pub room_part : (M : ℕ) {ss : List Stage} → PositiveInner ss → (s : Stage) (ts : List Stage) → M * divisor ts * tap_sum s ≤ M * divisor (ss ++ (s ∷ ts))
room_part M p s ts = rw (mul_assoc M (divisor ts) (tap_sum s), mul_comm (divisor ts) (tap_sum s), ← divisor_cons s ts) (mul-le-mul_left M (divisor_part (s ∷ ts) p))

-- the pass after k of K equal ones
pub room_replicate : (M : ℕ) (s : Stage) → 0 < s.inner → {k K : ℕ} → k < K → M * divisor (replicate k s) * tap_sum s ≤ M * divisor (replicate K s)
room_replicate M s b {k} {K} l = rw (← replicate_part s l) (room_part M (inner_replicate (K - suc k) s b) s (replicate k s))
