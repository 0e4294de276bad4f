-- How large the rule's numbers grow.
--   Small s K r    at sigma s, K passes and radius r
--   Fits s K b r   at the radius found, with inner weight b: no difference is cut off, and no product wraps
-- Laws: small, found_fits.
use Rattle.std.specs.Prelude.{ℕ, ◌+◌, ◌*◌, ◌-◌, ◌≤◌, ◌<◌}
use Rattle.std.proofs.Common.{mul-le-mul, arith}
use Rattle.meaning.specs.Limits.{max_passes, max_sigma}
use Rattle.meaning.specs.Planner.{edge_over}
use Rattle.theory.specs.Planner.{radius_fits, radius_most, edge_positive, least_q}
use Rattle.planner.specs.Ready.{Found}

pub record Small (s K r : ℕ) : Type 0 where
  pub square : s * s ≤ 655360000
  pub box : (r + 1) * (r + 2) ≤ 196692
  pub wide : (r + 1) * (r + 2) * (10000 * K) ≤ 15735360000

pub record Fits (s K b r : ℕ) : Type 0 where
  pub most : r ≤ 442
  pub small : Small s K r
  pub taps : b * (2 * r + 1) ≤ 225675
  pub numerator : r * (r + 1) * (10000 * K) ≤ 3 * (s * s)
  pub large : edge_over s (10000 * K) b r ≤ 443695104000000
  pub denominator : s * s < (r + 1) * (r + 1) * (10000 * K)

pub small : {s K r : ℕ} → s ≤ max_sigma → K ≤ max_passes → r ≤ 442 → Small s K r
small {s} {K} {r} l h k =
    let m : r + 1 ≤ 443 = omega arith in
    let n : r + 2 ≤ 444 = omega arith in
    let q : 10000 * K ≤ 80000 = omega arith in
    record { square = mul-le-mul l l; box = mul-le-mul m n; wide = mul-le-mul (mul-le-mul m n) q }

pub found_fits : {s K b r : ℕ} → Found s K b r → Fits s K b r
found_fits {s} {K} {b} {r} f =
    let q = least_q s K b f.allowed in
    let most : r ≤ 442 = rw f.radius (radius_most s (10000 * K) q f.allowed.sigma.1) in
    let l : r * (r + 1) * (10000 * K) ≤ 3 * (s * s) = rw f.radius (radius_fits s (10000 * K) q) in
    let m : s * s < (r + 1) * (r + 1) * (10000 * K) = rw f.radius (edge_positive s (10000 * K) q) in
    let n : 2 * r + 1 ≤ 885 = omega arith in
    let t : b * (2 * r + 1) ≤ 225675 = mul-le-mul f.allowed.inner.1 n in
    let z = small f.allowed.sigma.1 f.allowed.passes.1 most in
    let x : 3 * (s * s) - r * (r + 1) * (10000 * K) ≤ 1966080000 = omega arith in
    record { most = most; small = z; taps = t; numerator = l; large = mul-le-mul t x; denominator = m }
