-- What the test of rows 1 to 4 says of a plan, and the plan's own divisor and reach after it.
--   Tested p   rows 1 to 4 do not apply to p, by its numbers
-- Laws: allowed_tested, tested_allowed; plan_tested (the test, row by row), plan_passed; plans_passed, plans_product (of two plans);
-- divisor_failed, divisor_large, divisor_done; reach_failed, reach_passed, reach_done.
use Rattle.std.specs.Prelude.{ℕ, ◌*◌, ◌≤◌, ◌<◌, ◌≡◌, Bool, [], ◌∷◌, leb, ltb}
use Rattle.std.proofs.Common.{sym, ◌∙◌, ap, one-mul, mul_assoc, arith}
use Rattle.std.proofs.lemmas.List.{length-replicate}
use Rattle.meaning.specs.Limits.{least, max_passes, max_radius, max_inner, max_result}
use Rattle.meaning.specs.Kernel.{tap_reach, divisor}
use Rattle.meaning.specs.Refusals.{Answer, ◌when◌, first_of, outside, plan_rows, plan_divisor, plan_reach}
use Rattle.meaning.specs.Bounds.{AllowedPlan, AcceptedPlan}
use Rattle.theory.specs.Stages.{reach_replicate}
use Rattle.theory.specs.Refusals.{done_off, off_done, number_zero, plan_numbered}
use Rattle.theory.specs.Accepted.{plan_rows_lem, plan_allowed, plans_allowed, allowed_plan, stage_allowed, allowed_stages, divisor_allowed, accepted_divisor, accepted_reach, no_divisor, no_reach, divisor_accepted}
use Rattle.plan.specs.declared.Plan.{Plan}
use Rattle.plan.specs.Structs.{stage_of, stages_of}
use Rattle.plan.specs.Capped.{capped, capped_below, capped_times_lem}

pub record Tested (p : Plan) : Type 0 where
  pub passes : (least ≤ p.passes) × (p.passes ≤ max_passes)
  pub radius : p.radius ≤ max_radius
  pub inner : (least ≤ p.inner) × (p.inner ≤ max_inner)
  pub edge : p.edge < p.inner

module _ (p : Plan) where
  pub allowed_tested : AllowedPlan (stages_of p) → Tested p
  allowed_tested ok =
      let passes = rw (length-replicate p.passes (stage_of p)) at ok.passes in
      let s = stage_allowed p.passes passes.0 ok.stages in
      record { passes = passes; radius = s.radius; inner = s.inner; edge = s.edge }

  pub tested_allowed : Tested p → AllowedPlan (stages_of p)
  tested_allowed t = record { passes = rw (length-replicate p.passes (stage_of p)) t.passes; stages = allowed_stages p.passes (record { radius = t.radius; inner = t.inner; edge = t.edge }) }

  pub plan_tested : {a : Answer} {passes inner : Bool} → passes ≡ outside least max_passes p.passes → inner ≡ outside least max_inner p.inner
      → a ≡ first_of ((1 when passes) ∷ (2 when ltb max_radius p.radius) ∷ (3 when inner) ∷ (4 when leb p.inner p.edge) ∷ [])
      → a ≡ first_of (plan_rows (stages_of p ∷ []))
  plan_tested k b e = e ∙ rw (k, b) (sym (plan_rows_lem p.radius p.inner p.edge p.passes))

  module _ {a : Answer} (e : a ≡ first_of (plan_rows (stages_of p ∷ []))) where
    pub plan_passed : a.number ≡ 0 → Tested p
    plan_passed z = allowed_tested (plan_allowed (stages_of p) (done_off _ (plan_numbered _) (number_zero e z)))

    pub divisor_failed : (a.number ≡ 0 → ⊥) → 0 ≡ plan_divisor (stages_of p)
    divisor_failed h = sym (no_divisor (stages_of p) (λ ok. h (rw e (ap (λ (a : Answer). a.number) (off_done _ (allowed_plan (stages_of p) ok.plan))))))

  module _ (t : Tested p) (x : ℕ) (e : capped x ≡ capped (1 * divisor (stages_of p))) where
    one : capped x ≡ capped (divisor (stages_of p))
    one = e ∙ ap capped (one-mul (divisor (stages_of p)))

    pub divisor_large : max_result < x → 0 ≡ plan_divisor (stages_of p)
    divisor_large l = sym (no_divisor (stages_of p) (λ ok. omega (arith, one, ok.divides)))

    pub divisor_done : x ≤ max_result → x ≡ plan_divisor (stages_of p)
    divisor_done l = let is = capped_below x (divisor (stages_of p)) one l in is ∙ sym (accepted_divisor (stages_of p) (record { plan = tested_allowed t; divides = rw (← is) l }))

  -- the reach asks the divisor
  module _ {d : ℕ} (e : d ≡ plan_divisor (stages_of p)) where
    pub reach_failed : d ≡ 0 → 0 ≡ plan_reach (stages_of p)
    reach_failed z = sym (no_reach (stages_of p) (λ ok. omega (arith, e, accepted_divisor (stages_of p) ok, divisor_allowed (stages_of p) ok.plan.stages)))

    accepted : (d ≡ 0 → ⊥) → AcceptedPlan (stages_of p)
    accepted h = divisor_accepted (stages_of p) (λ z. h (e ∙ z))

    pub reach_passed : (d ≡ 0 → ⊥) → Tested p
    reach_passed h = allowed_tested (accepted h).plan

    pub reach_done : (d ≡ 0 → ⊥) → p.passes * tap_reach (stage_of p) ≡ plan_reach (stages_of p)
    reach_done h = sym (accepted_reach (stages_of p) (accepted h) ∙ reach_replicate p.passes (stage_of p))

-- ---- two plans
module _ (p q : Plan) where
  pub plans_passed : {a : Answer} → a ≡ first_of (plan_rows (stages_of p ∷ stages_of q ∷ [])) → a.number ≡ 0 → Tested p × Tested q
  plans_passed e z =
      let (a, b) = plans_allowed (stages_of p) (stages_of q) (done_off _ (plan_numbered _) (number_zero e z)) in
      (allowed_tested p a, allowed_tested q b)

  pub plans_product : (M x y : ℕ) → Tested q → capped x ≡ capped (M * divisor (stages_of p)) → capped y ≡ capped (x * divisor (stages_of q)) → capped y ≡ capped (M * (divisor (stages_of p) * divisor (stages_of q)))
  plans_product M x y t e f = f ∙ capped_times_lem x _ (divisor_allowed (stages_of q) (tested_allowed q t).stages) e ∙ ap capped (mul_assoc M (divisor (stages_of p)) (divisor (stages_of q)))
