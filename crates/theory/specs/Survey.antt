-- What the survey's value is: the edge weight at which the variance is just what was asked.
--   surveyed s K b   the plan of the original radius with that weight, both weights times edge_under, so that they are whole
-- Laws: survey_exact (the variance of its kernel, the moment over the divisor, is s²/10,000).
use Rattle.std.specs.Prelude.{◌≡◌, refl, List, [], ◌∷◌, ℕ, suc, ◌+◌, ◌*◌, ◌-◌, ◌≤◌, ◌<◌, ℤ, pos, ◌*ℤ◌}
use Rattle.std.proofs.Common.{ap, ◌∙◌, mul-pos, arith}
use Rattle.algebra.specs.Order.{positive_pos, *ℤ-cancel_r}
use Rattle.algebra.specs.Solver.{ring, ◌≗◌}
use Rattle.algebra.specs.Expression.{◌⊗◌, con}
use Rattle.meaning.specs.Kernel.{Stage, plan, tap_sum, divisor, moment}
use Rattle.meaning.specs.Planner.{radius_for, edge_over, edge_under}
use Rattle.meaning.specs.Bounds.{AllowedSigma}
use Rattle.theory.specs.Stages.{tap_sum_is, tap_sum_positive}
use Rattle.theory.specs.Moment.{moment_replicate, moment_stage}
use Rattle.theory.specs.Planner.{radius_fits, edge_positive, under_positive, least_q}

abbrev pub surveyed : ℕ → ℕ → ℕ → List Stage
surveyed s K b = let r = radius_for s (10000 * K) in plan r (b * edge_under s (10000 * K) r) (edge_over s (10000 * K) b r) K

-- one pass at radius r of inner weight b u and edge weight o, where o over u is that value; x is s²
stage_exact : (r b Q x : ℕ) → r * (r + 1) * Q ≤ 3 * x → x ≤ (r + 1) * (r + 1) * Q
    → let u = 6 * ((r + 1) * (r + 1) * Q - x) in
    let o = b * (2 * r + 1) * (3 * x - r * (r + 1) * Q) in
    Q * (r * (r + 1) * (2 * r + 1) * (b * u) + 6 * (suc r * suc r) * o) ≡ 3 * x * ((2 * r + 1) * (b * u) + 2 * o)
stage_exact r b Q x h k =
    let v = 3 * x - r * (r + 1) * Q in
    let w = (r + 1) * (r + 1) * Q - x in
    let e : r * (r + 1) * Q + v ≡ 3 * x = omega arith in
    let f : x + w ≡ (r + 1) * (r + 1) * Q = omega arith in
    omega (arith, ap (λ (y : ℕ). b * (2 * r + 1) * w * y) e, ap (λ (y : ℕ). b * (2 * r + 1) * v * y) f)

-- moment m and divisor d of K passes, of which each has a third of w and the sum T
passes_exact : (m v : ℤ) (K T w d x : ℕ) → 0 < T → pos T *ℤ m ≡ pos K *ℤ (v *ℤ pos d) → pos 3 *ℤ v ≡ pos w → 10000 * K * w ≡ 3 * x * T → pos 10000 *ℤ m ≡ pos x *ℤ pos d
passes_exact m v K T w d x t e f h = *ℤ-cancel_r (positive_pos {n = 3 * T} (omega arith)) (cross m v (pos K) (pos T) (pos w) (pos d) (pos x) e f (ap pos h))
  where
    cross : (m v K T w d x : ℤ) → T *ℤ m ≡ K *ℤ (v *ℤ d) → pos 3 *ℤ v ≡ w → pos 10000 *ℤ K *ℤ w ≡ pos 3 *ℤ x *ℤ T → pos 10000 *ℤ m *ℤ (pos 3 *ℤ T) ≡ x *ℤ d *ℤ (pos 3 *ℤ T)
    cross m v K T w d x e f h =
        ring 2 (λ m T. con (pos 10000) ⊗ m ⊗ (con (pos 3) ⊗ T) ≗ con (pos 30000) ⊗ (T ⊗ m)) refl m T
        ∙ ap (λ z. pos 30000 *ℤ z) e
        ∙ ring 3 (λ K v d. con (pos 30000) ⊗ (K ⊗ (v ⊗ d)) ≗ con (pos 10000) ⊗ K ⊗ (con (pos 3) ⊗ v) ⊗ d) refl K v d
        ∙ ap (λ z. pos 10000 *ℤ K *ℤ z *ℤ d) f ∙ ap (λ z. z *ℤ d) h
        ∙ ring 3 (λ x d T. con (pos 3) ⊗ x ⊗ T ⊗ d ≗ x ⊗ d ⊗ (con (pos 3) ⊗ T)) refl x d T

pub survey_exact : (s K b : ℕ) → AllowedSigma s K b → pos 10000 *ℤ moment (surveyed s K b) ≡ pos (s * s) *ℤ pos (divisor (surveyed s K b))
survey_exact s K b ok =
    let Q = 10000 * K in
    let q = least_q s K b ok in
    let r = radius_for s Q in
    let t : Stage = record { radius = r; inner = b * edge_under s Q r; edge = edge_over s Q b r } in
    let p = mul-pos ok.inner.0 (under_positive s Q q) in
    passes_exact (moment (surveyed s K b)) (moment (t ∷ [])) K (tap_sum t) _ _ (s * s) (tap_sum_positive t p) (moment_replicate K t) (moment_stage t) (rw (tap_sum_is t) (stage_exact r b Q (s * s) (radius_fits s Q q) (omega (arith, edge_positive s Q q))))
