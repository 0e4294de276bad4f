-- The planner: `planner::plan_for` by its own contract, for all inputs.
--   PlannerCall        any call, as its contract lets it end
--   sigma, passes, inner   what it was given, sigma in hundredths
--   number, radius, edge   what it answered; it has no position
--   rows, Allowed      its rows of the table of numbers, and the bounds of document 01
--   Q c                10,000 times the passes
--   original c         one pass of the original radius and the edge weight there
--   stage c, found c   one pass of the radius and edge weight answered, and all passes
--   LargestRadius s Q r     r is the largest whole number with r(r+1)Q <= 3s²
--   off s Q b r n           how far edge weight n is from the survey's value at radius r, edge_over over edge_under, times edge_under
--   NearestEdge s Q b r a   no whole number is nearer to that value than a, and of two as near a is the lower; it is at most b. In the value no difference is below 0, and edge_under is not 0
--   Exactly            as of Smoothings
--   planner_lowest     the number is 0, or that of a row that applies, and then the lowest of those
--   planner_done, planner_allowed   it is 0 exactly where no row applies, and exactly where the bounds hold
--   planner_never_15   it is never 15
--   planner_zeros      where it is refused, radius and edge weight are 0;  planner_refused  so they are in any answer that is the outcome, an export's too
--   planner_radius, planner_edge   where it is done, the original radius is the largest that the rule allows, and the edge weight there the nearest
--   planner_below, planner_full    these are answered, where that weight is below b; where it is b, one radius more and edge weight 0
--   planner_taps, planner_kernel   the taps answered are the original ones at every offset, and so are the K-fold kernel and its divisor
--   planner_survey     with the survey's value at the original radius for edge weight, before it is rounded, the variance is just that of the sigma given: the moment over the divisor is s²/10,000
--   planner_plan       the plan answered is allowed
--   planner_one        two outcomes that the contract allows are the same
use Rattle.std.specs.Prelude.{ℕ, ◌+◌, ◌*◌, ◌≤◌, ◌<◌, ◌≡◌, ◌≢◌, refl, Result, Ok, Err, List, replicate, ℤ, pos, ◌*ℤ◌}
use Rattle.std.proofs.Math.Path.{sym, ap}
use Rattle.std.proofs.Common.{◌∙◌}
use contract.Lifetimes.{Lfts}
use denote.Triple.Clauses.{AtExit}
use borrow.Fn.Kinds.{Dens, res_t, ended_of}
use Rattle.meaning.specs.Kernel.{Stage, plan, tap, kernel, divisor, moment}
use Rattle.meaning.specs.Smoothing.{apart}
use Rattle.meaning.specs.Refusals as meant
use Rattle.meaning.specs.Refusals.{Row, first_of, Applies}
use Rattle.meaning.specs.Planner as outcomes
use Rattle.meaning.specs.Planner.{edge_over, edge_under, original_for, wider, stage_for, planner_rows, plan_for}
use Rattle.meaning.specs.Bounds.{AllowedPlan, AllowedSigma}
use Rattle.theory.specs.Refusals.{number_zero, number_lowest, number_none, if_done_done, if_done_refused}
use Rattle.theory.specs.SameTaps.{kernel_same, divisor_same}
use Rattle.theory.specs.Survey.{surveyed, survey_exact}
use Rattle.theory.specs.Planner as rule
use Rattle.plan.specs.declared.Refusal.{Refusal}
use Rattle.plan.specs.Structs.{end_of, end_back}
use Rattle.planner.specs.declared.Planned.{Planned}
use Rattle.planner.specs.Structs.{planned_of}
use Rattle.planner.proofs.plan_for.Reads as plan-for
use Rattle.planner.proofs.plan_for.Kinds as kinds
use Rattle.promises.specs.Smoothings.{Exactly}

pub record PlannerCall : Type 1 where
  pub lifetimes : Lfts 0
  pub given : Dens lifetimes kinds.ps
  pub answered : (res_t kinds.r lifetimes).Denot
  pub left : AtExit (ended_of 0 kinds.ps kinds.r) lifetimes
  pub learnt : plan-for.Learnt lifetimes given answered left

-- ---- what was given and answered
abbrev pub sigma : PlannerCall → ℕ
sigma c = c.given.0

abbrev pub passes : PlannerCall → ℕ
passes c = c.given.1.0

abbrev pub inner : PlannerCall → ℕ
inner c = c.given.1.1.0

abbrev pub number : PlannerCall → ℕ
number c = (planned_of c.answered).answer.number

abbrev pub radius : PlannerCall → ℕ
radius c = (planned_of c.answered).radius

abbrev pub edge : PlannerCall → ℕ
edge c = (planned_of c.answered).edge

abbrev pub rows : PlannerCall → List Row
rows c = planner_rows (sigma c) (passes c) (inner c)

abbrev pub Allowed : PlannerCall → Type 0
Allowed c = AllowedSigma (sigma c) (passes c) (inner c)

abbrev pub Q : PlannerCall → ℕ
Q c = 10000 * passes c

abbrev pub original : PlannerCall → Stage
original c = original_for (sigma c) (Q c) (inner c)

abbrev pub stage : PlannerCall → Stage
stage c = record { radius = radius c; inner = inner c; edge = edge c }

abbrev pub found : PlannerCall → List Stage
found c = plan (radius c) (inner c) (edge c) (passes c)

-- ---- the rule
abbrev pub LargestRadius : ℕ → ℕ → ℕ → Type 0
LargestRadius s Q r = (n : ℕ) → Exactly (n ≤ r) (n * (n + 1) * Q ≤ 3 * (s * s))

abbrev pub off : ℕ → ℕ → ℕ → ℕ → ℕ → ℕ
off s Q b r n = apart (n * edge_under s Q r) (edge_over s Q b r)

pub record NearestEdge (s Q b r a : ℕ) : Type 0 where
  pub fits : r * (r + 1) * Q ≤ 3 * (s * s)
  pub positive : s * s < (r + 1) * (r + 1) * Q
  pub nearest : (n : ℕ) → off s Q b r a ≤ off s Q b r n
  pub lower : (n : ℕ) → off s Q b r n ≡ off s Q b r a → a ≤ n
  pub most : a ≤ b

-- ---- one call
pub planner_refused : (s K b : ℕ) {x : outcomes.Planned} → x ≡ plan_for s K b → x.answer.number ≢ 0 → (x.radius ≡ 0) × (x.edge ≡ 0)
unfolding plan_for
planner_refused s K b e h =
    let n : (first_of (planner_rows s K b)).number ≢ 0 = λ z. h (number_zero (ap (λ (p : outcomes.Planned). p.answer) (sym e)) z) in
    (ap (λ (p : outcomes.Planned). p.radius) e ∙ if_done_refused _ _ _ n, ap (λ (p : outcomes.Planned). p.edge) e ∙ if_done_refused _ _ _ n)

same_stage : (t : Stage) {r b a : ℕ} → r ≡ t.radius → b ≡ t.inner → a ≡ t.edge → record { radius = r; inner = b; edge = a } ≡ t
same_stage t f g h = rw (f, g, h)

module _ (c : PlannerCall) where
  whole : planned_of c.answered ≡ plan_for (sigma c) (passes c) (inner c)
  whole = c.learnt

  number_is : number c ≡ (first_of (rows c)).number
  unfolding plan_for
  number_is = ap (λ (p : outcomes.Planned). p.answer.number) whole

  pub planner_lowest : (number c ≢ 0 → Applies (number c) (rows c)) × ((n : ℕ) → Applies n (rows c) → number c ≤ n)
  planner_lowest = number_lowest (rows c) number_is (rule.planner_rising _ _ _)

  pub planner_done : Exactly (number c ≡ 0) ((n : ℕ) → Applies n (rows c) → ⊥)
  planner_done = number_none (rows c) number_is (rule.planner_numbered _ _ _)

  pub planner_allowed : Exactly (number c ≡ 0) (Allowed c)
  planner_allowed = (λ e. rule.sigma_allowed _ _ _ (sym number_is ∙ e), λ ok. number_is ∙ ap (λ (x : meant.Answer). x.number) (rule.allowed_sigma _ _ _ ok))

  pub planner_never_15 : number c ≢ 15
  planner_never_15 e = rule.planner_never_15 _ _ _ (sym number_is ∙ e)

  pub planner_zeros : number c ≢ 0 → (radius c ≡ 0) × (edge c ≡ 0)
  planner_zeros = planner_refused _ _ _ whole

  -- a call that is done
  module _ (e : number c ≡ 0) where
    ok : Allowed c
    ok = planner_allowed.0 e

    q : 10000 ≤ Q c
    q = rule.least_q _ _ _ ok

    stage_is : stage c ≡ stage_for (sigma c) (Q c) (inner c)
    unfolding plan_for
    stage_is =
        let n = sym number_is ∙ e in
        same_stage (stage_for (sigma c) (Q c) (inner c)) (ap (λ (p : outcomes.Planned). p.radius) whole ∙ if_done_done _ _ _ n) (sym (rule.stage_inner (sigma c) (Q c) (inner c))) (ap (λ (p : outcomes.Planned). p.edge) whole ∙ if_done_done _ _ _ n)

    pub planner_radius : LargestRadius (sigma c) (Q c) (original c).radius
    planner_radius = rule.radius_largest (sigma c) (Q c) q

    pub planner_edge : NearestEdge (sigma c) (Q c) (inner c) (original c).radius (original c).edge
    planner_edge = record {
      fits = rule.radius_fits (sigma c) (Q c) q;
      positive = rule.edge_positive (sigma c) (Q c) q;
      nearest = rule.edge_nearest (sigma c) (Q c) q (inner c);
      lower = rule.edge_half (sigma c) (Q c) q (inner c);
      most = rule.edge_most (sigma c) (Q c) q (inner c);
    }

    pub planner_below : (original c).edge ≢ inner c → stage c ≡ original c
    planner_below h = stage_is ∙ rule.stage_below (sigma c) (Q c) (inner c) h

    pub planner_full : (original c).edge ≡ inner c → stage c ≡ wider (original c)
    planner_full h = stage_is ∙ rule.stage_full (sigma c) (Q c) (inner c) h

    pub planner_taps : (m : ℤ) → tap (stage c) m ≡ tap (original c) m
    planner_taps m = ap (λ t. tap t m) stage_is ∙ rule.stage_taps (sigma c) (Q c) (inner c) m

    pub planner_kernel : ((m : ℤ) → kernel (found c) m ≡ kernel (replicate (passes c) (original c)) m) × (divisor (found c) ≡ divisor (replicate (passes c) (original c)))
    planner_kernel = (kernel_same (stage c) (original c) planner_taps (passes c), divisor_same (stage c) (original c) planner_taps (passes c))

    pub planner_survey : pos 10000 *ℤ moment (surveyed (sigma c) (passes c) (inner c)) ≡ pos (sigma c * sigma c) *ℤ pos (divisor (surveyed (sigma c) (passes c) (inner c)))
    planner_survey = survey_exact (sigma c) (passes c) (inner c) ok

    pub planner_plan : AllowedPlan (found c)
    planner_plan = rw stage_is (rule.planned_allowed (sigma c) (passes c) (inner c) ok)

-- ---- two calls
abbrev back : outcomes.Planned → Result Planned Refusal
back p = end_of (record { radius = p.radius; edge = p.edge }) p.answer

planned_back : (r : Result Planned Refusal) → back (planned_of r) ≡ r
planned_back (Ok p) = refl
planned_back (Err e) = end_back (record { radius = 0; edge = 0 }) (Err e)

outcome_same : {s t K L b d : ℕ} → s ≡ t → K ≡ L → b ≡ d → plan_for s K b ≡ plan_for t L d
outcome_same s k b = rw (s, k, b)

pub planner_one : (c d : PlannerCall) → sigma c ≡ sigma d → passes c ≡ passes d → inner c ≡ inner d → c.answered ≡ d.answered
planner_one c d s k b = sym (planned_back c.answered) ∙ ap back (c.learnt ∙ outcome_same s k b ∙ sym d.learnt) ∙ planned_back d.answered
