-- How far an accepted plan reaches at most: the limit of the divisor leaves a large radius few passes.
-- Laws: reach_most.
use Rattle.std.specs.Prelude.{◌≡◌, ℕ, suc, ◌+◌, ◌*◌, ◌^◌, ◌≤◌, ◌<◌, replicate}
use Rattle.std.proofs.Common.{ap, le_trans, le-mul_of_pos_right, mul-le-mul, mul-le-mul_right, arith}
use Rattle.std.proofs.Math.Nat.{pow-le-pow_left, pow-le-pow_right}
use Rattle.std.proofs.Math.Decide.{dec_le, dec_lt, ℕ_discrete}
use Rattle.std.proofs.lemmas.List.{length-replicate}
use Rattle.meaning.specs.Limits.{max_passes, max_radius, max_result, max_taps}
use Rattle.meaning.specs.Kernel.{Stage, reach, tap_sum, divisor}
use Rattle.meaning.specs.Bounds.{AcceptedPlan}
use Rattle.theory.specs.Kernel.{reach_width}
use Rattle.theory.specs.Stages.{width_replicate, divisor_replicate}
use Rattle.theory.specs.Accepted.{stage_allowed}

-- every inner tap is 1 or more
divisor_least : (K : ℕ) (s : Stage) → 0 < s.inner → {x : ℕ} → x ≤ 2 * s.radius + 1 → x ^ K ≤ divisor (replicate K s)
unfolding tap_sum
divisor_least K s h l = rw (divisor_replicate K s) (pow-le-pow_left (omega (arith, le-mul_of_pos_right (2 * s.radius + 1) h)) K)

-- five passes reach so far from radius 819 on, six to eight from 512 on; then the divisor is too large
few : (K r : ℕ) → K ≤ max_passes → r ≤ max_radius → ((x : ℕ) → x ≤ 2 * r + 1 → x ^ K ≤ max_result) → K * suc r < max_taps
few K r k h least = go (dec_le K 4) (ℕ_discrete K 5) (dec_lt (K * suc r) max_taps)
  where
    go : Dec (K ≤ 4) → Dec (K ≡ 5) → Dec (K * suc r < max_taps) → K * suc r < max_taps
    go a b (yes l) = l
    go (yes a) b (no l) = omega (arith, mul-le-mul {n₁ = K} {m₁ = suc r} {n₂ = 4} {m₂ = 1024} a (omega arith))
    go (no a) (yes b) (no l) =
        let far : 819 ≤ r = omega (arith, ap (λ n. n * suc r) b) in
        let no : ⊥ = omega (arith, least 1639 (omega arith), ap (λ n. 1639 ^ n) b) in
        absurd no
    go (no a) (no b) (no l) =
        let far : 512 ≤ r = omega (arith, mul-le-mul_right (suc r) k) in
        let no : ⊥ = omega (arith, le_trans (pow-le-pow_right {n = 1025} (omega arith) {i = 6} {j = K} (omega arith)) (least 1025 (omega arith))) in
        absurd no

pub reach_most : (K : ℕ) (s : Stage) → AcceptedPlan (replicate K s) → reach (replicate K s) < max_taps
reach_most K s ok =
    let passes = rw (length-replicate K s) at ok.plan.passes in
    let stage = stage_allowed K passes.0 ok.plan.stages in
    let short = few K s.radius passes.1 stage.radius (λ x l. le_trans (divisor_least K s stage.inner.0 l) ok.divides) in
    omega (arith, reach_width (replicate K s), width_replicate K s)
