-- A plan by itself: `Plan::new`, `Plan::divisor`, `Plan::reach`, each by its own contract, for all inputs.
--   NewCall, DivisorCall, ReachCall   any call, as its contract lets it end
--   radius, inner, edge, passes, made   what was given for a new plan, and the plan answered
--   divided, divisor   the plan whose divisor was asked, and the answer;  reached, reach   the same of the reach
--   new_is             a new plan holds its four numbers
--   divisor_is         of a plan that calls accept under some bound the divisor is D^K, with D = (2r+1)b + 2a
--   reach_with_edge, reach_without    and the reach K(r+1) where the edge weight is above 0, else K·r
--   divisor_refused, reach_refused    of any other plan they are 0
--   new_one, divisor_one, reach_one   two outcomes that the contract allows are the same
use Rattle.std.specs.Prelude.{ℕ, ◌+◌, ◌*◌, ◌^◌, ◌<◌, ◌≡◌}
use Rattle.std.proofs.Common.{sym, ap, ◌∙◌}
use contract.Lifetimes.{Lfts}
use denote.Triple.Clauses.{AtExit}
use borrow.Fn.Kinds.{Dens, res_t, ended_of}
use Rattle.meaning.specs.Kernel as kernels
use Rattle.meaning.specs.Refusals.{plan_divisor, plan_reach}
use Rattle.meaning.specs.Bounds.{AcceptedPlan}
use Rattle.theory.specs.Stages.{divisor_plan, reach_edged, reach_plain}
use Rattle.theory.specs.Accepted.{accepted_divisor, accepted_reach, no_divisor, no_reach}
use Rattle.plan.specs.declared.Plan.{Plan}
use Rattle.plan.specs.Structs.{stages_of}
use Rattle.plan.proofs.Plan.new.Reads as new
use Rattle.plan.proofs.Plan.new.Kinds as new-kinds
use Rattle.plan.proofs.Plan.divisor.Reads as divisor-of
use Rattle.plan.proofs.Plan.divisor.Kinds as divisor-kinds
use Rattle.plan.proofs.Plan.reach.Reads as reach_of
use Rattle.plan.proofs.Plan.reach.Kinds as reach-kinds

pub record NewCall : Type 1 where
  pub lifetimes : Lfts 0
  pub given : Dens lifetimes new-kinds.ps
  pub answered : (res_t new-kinds.r lifetimes).Denot
  pub left : AtExit (ended_of 0 new-kinds.ps new-kinds.r) lifetimes
  pub learnt : new.Learnt lifetimes given answered left

pub record DivisorCall : Type 1 where
  pub lifetimes : Lfts 0
  pub given : Dens lifetimes divisor-kinds.ps
  pub answered : (res_t divisor-kinds.r lifetimes).Denot
  pub left : AtExit (ended_of 0 divisor-kinds.ps divisor-kinds.r) lifetimes
  pub learnt : divisor-of.Learnt lifetimes given answered left

pub record ReachCall : Type 1 where
  pub lifetimes : Lfts 0
  pub given : Dens lifetimes reach-kinds.ps
  pub answered : (res_t reach-kinds.r lifetimes).Denot
  pub left : AtExit (ended_of 0 reach-kinds.ps reach-kinds.r) lifetimes
  pub learnt : reach_of.Learnt lifetimes given answered left

-- ---- what was given and answered
abbrev pub radius : NewCall → ℕ
radius c = c.given.0

abbrev pub inner : NewCall → ℕ
inner c = c.given.1.0

abbrev pub edge : NewCall → ℕ
edge c = c.given.1.1.0

abbrev pub passes : NewCall → ℕ
passes c = c.given.1.1.1.0

abbrev pub made : NewCall → Plan
made c = c.answered

abbrev pub divided : DivisorCall → Plan
divided c = c.given.0

abbrev pub divisor : DivisorCall → ℕ
divisor c = c.answered

abbrev pub reached : ReachCall → Plan
reached c = c.given.0

abbrev pub reach : ReachCall → ℕ
reach c = c.answered

-- ---- one call
pub new_is : (c : NewCall) → made c ≡ record { radius = radius c; inner = inner c; edge = edge c; passes = passes c }
new_is c = c.learnt

module _ (c : DivisorCall) where
  pub divisor_is : AcceptedPlan (stages_of (divided c)) → divisor c ≡ ((2 * (divided c).radius + 1) * (divided c).inner + 2 * (divided c).edge) ^ (divided c).passes
  divisor_is ok = c.learnt ∙ accepted_divisor _ ok ∙ divisor_plan _ _ _ _

  pub divisor_refused : (AcceptedPlan (stages_of (divided c)) → ⊥) → divisor c ≡ 0
  divisor_refused n = c.learnt ∙ no_divisor _ n

module _ (c : ReachCall) where
  pub reach_with_edge : AcceptedPlan (stages_of (reached c)) → 0 < (reached c).edge → reach c ≡ (reached c).passes * ((reached c).radius + 1)
  reach_with_edge ok l = c.learnt ∙ accepted_reach _ ok ∙ reach_edged _ _ _ _ l

  pub reach_without : AcceptedPlan (stages_of (reached c)) → (reached c).edge ≡ 0 → reach c ≡ (reached c).passes * (reached c).radius
  reach_without ok e = c.learnt ∙ accepted_reach _ ok ∙ ap (λ (a : ℕ). kernels.reach (kernels.plan (reached c).radius (reached c).inner a (reached c).passes)) e ∙ reach_plain _ _ _

  pub reach_refused : (AcceptedPlan (stages_of (reached c)) → ⊥) → reach c ≡ 0
  reach_refused n = c.learnt ∙ no_reach _ n

-- ---- two calls
same : {r s b d a e K L : ℕ} → r ≡ s → b ≡ d → a ≡ e → K ≡ L → ◌≡◌ {A = Plan} (record { radius = r; inner = b; edge = a; passes = K }) (record { radius = s; inner = d; edge = e; passes = L })
same r b a k = rw (r, b, a, k)

pub new_one : (c d : NewCall) → radius c ≡ radius d → inner c ≡ inner d → edge c ≡ edge d → passes c ≡ passes d → made c ≡ made d
new_one c d r b a k = c.learnt ∙ same r b a k ∙ sym d.learnt

pub divisor_one : (c d : DivisorCall) → divided c ≡ divided d → divisor c ≡ divisor d
divisor_one c d p = c.learnt ∙ ap (λ (q : Plan). plan_divisor (stages_of q)) p ∙ sym d.learnt

pub reach_one : (c d : ReachCall) → reached c ≡ reached d → reach c ≡ reach d
reach_one c d p = c.learnt ∙ ap (λ (q : Plan). plan_reach (stages_of q)) p ∙ sym d.learnt
