-- The rows of the table of numbers say the bounds: a call is done exactly where they hold.
-- Laws: plan_rows_lem (rows 1 to 4 of K equal stages, by the plan's numbers); plan_allowed, allowed_plan (rows 1 to 4), stage_allowed, allowed_stages (of K equal stages);
-- plans_lower, plans_allowed (rows 1 to 4 of two plans);
-- length_allowed, allowed_length (rows 1 to 8 of a series), length_tested (from their answer), length_accepted; sides_allowed, allowed_sides, sides_tested, sides_accepted (those of a picture);
-- inner_allowed, divisor_allowed; accepted_divisor, accepted_reach, divisor_accepted, no_divisor, no_reach (a plan's own numbers).
use Rattle.std.specs.Prelude.{◌≡◌, Bool, false, ◌||◌, List, [], ◌∷◌, ℕ, zero, suc, ◌*◌, ◌≤◌, ◌<◌, leb, ltb, length, replicate}
use Rattle.std.proofs.Math.Path.{refl}
use Rattle.std.proofs.Common.{sym, ◌∙◌, mul-le-mul_left, mul-le-mul_right, arith}
use Rattle.std.proofs.Math.Decide.{ℕ_discrete}
use Rattle.std.proofs.lemmas.List.{length-replicate}
use borrow.Author.Tests.{ltb-false, leb-false, le-ltb, lt-leb}
use Rattle.meaning.specs.Limits.{least, max_passes, max_radius, max_inner, max_result, max_length, max_side}
use Rattle.meaning.specs.Kernel.{Stage, plan, reach, divisor}
use Rattle.meaning.specs.Refusals.{Answer, ◌when◌, first_of, some, outside, series_of, picture_of, plan_rows, size_rows, common_rows, own_rows, plan_divisor, plan_reach}
use Rattle.meaning.specs.Bounds.{AllowedStage, AllowedStages, AllowedPlan, AcceptedPlan, AllowedLength, AllowedSides}
use Rattle.theory.specs.Stages.{PositiveInner, none, ◌and◌, divisor_positive}
use Rattle.theory.specs.Refusals.{Off, Numbered, Lower, done_off, off_done, off_append, append_off, off_more, more_off, two_lower, number_zero, common_numbered, if_done_done, if_done_refused}
use Rattle.theory.specs.Tests.{some_one, some_replicate, or_no, no_or, outside_no, no_outside}

-- ---- rows 1 to 4
abbrev bad_passes : List Stage → Bool
bad_passes ss = outside least max_passes (length ss)

abbrev bad_radius : Stage → Bool
bad_radius s = ltb max_radius s.radius

abbrev bad_inner : Stage → Bool
bad_inner s = outside least max_inner s.inner

abbrev bad_edge : Stage → Bool
bad_edge s = leb s.inner s.edge

from_tests : (ss : List Stage) → some bad_radius ss ≡ false → some bad_inner ss ≡ false → some bad_edge ss ≡ false → AllowedStages ss
unfolding some
from_tests [] h k l = tt
from_tests (s ∷ ss) h k l =
    let r = or_no (bad_radius s) (some bad_radius ss) h in
    let b = or_no (bad_inner s) (some bad_inner ss) k in
    let a = or_no (bad_edge s) (some bad_edge ss) l in
    (record { radius = ltb-false _ _ r.0; inner = outside_no _ _ _ b.0; edge = leb-false _ _ a.0 }, from_tests ss r.1 b.1 a.1)

to_tests : (ss : List Stage) → AllowedStages ss → (some bad_radius ss ≡ false) × (some bad_inner ss ≡ false) × (some bad_edge ss ≡ false)
unfolding some
to_tests [] ok = (refl, refl, refl)
to_tests (s ∷ ss) ok =
    let (h, k, l) = to_tests ss ok.1 in
    let a = ok.0 in
    (no_or (le-ltb _ _ a.radius) h, no_or (no_outside a.inner.0 a.inner.1) k, no_or (lt-leb _ _ a.edge) l)

pub plan_allowed : (ss : List Stage) → Off (plan_rows (ss ∷ [])) → AllowedPlan ss
unfolding plan_rows
plan_allowed ss h = record {
  passes = outside_no _ _ _ (sym (some_one bad_passes ss) ∙ h.0);
  stages = from_tests ss (sym (some_one (some bad_radius) ss) ∙ h.1.0) (sym (some_one (some bad_inner) ss) ∙ h.1.1.0) (sym (some_one (some bad_edge) ss) ∙ h.1.1.1.0);
}

pub allowed_plan : (ss : List Stage) → AllowedPlan ss → Off (plan_rows (ss ∷ []))
unfolding plan_rows
allowed_plan ss ok =
    let (h, k, l) = to_tests ss ok.stages in (
      some_one bad_passes ss ∙ no_outside ok.passes.0 ok.passes.1,
      (some_one (some bad_radius) ss ∙ h, (some_one (some bad_inner) ss ∙ k, (some_one (some bad_edge) ss ∙ l, tt))),
    )

-- ---- K equal stages
pub stage_allowed : (K : ℕ) {s : Stage} → 0 < K → AllowedStages (replicate K s) → AllowedStage s
stage_allowed zero l ok = absurd (omega arith)
stage_allowed (suc K) l ok = ok.0

pub allowed_stages : (K : ℕ) {s : Stage} → AllowedStage s → AllowedStages (replicate K s)
allowed_stages zero ok = tt
allowed_stages (suc K) ok = (ok, allowed_stages K ok)

some_stage : (t : Stage → Bool) (K : ℕ) (s : Stage) → some (some t) (replicate (suc K) s ∷ []) ≡ t s
some_stage t K s = some_one (some t) (replicate (suc K) s) ∙ some_replicate t (suc K) s (omega arith)

pub plan_rows_lem : (r b a K : ℕ) → first_of (plan_rows (plan r b a K ∷ [])) ≡ first_of ((1 when outside least max_passes K) ∷ (2 when ltb max_radius r) ∷ (3 when outside least max_inner b) ∷ (4 when leb b a) ∷ [])
unfolding plan_rows first_of some
plan_rows_lem r b a zero = refl
plan_rows_lem r b a (suc K) =
    let s : Stage = record { radius = r; inner = b; edge = a } in
    rw (
      some_one bad_passes (replicate (suc K) s),
      length-replicate (suc K) s,
      some_stage bad_radius K s,
      some_stage bad_inner K s,
      some_stage bad_edge K s,
    )

-- ---- two plans
abbrev plan_tests : List (ℕ × (List Stage → Bool))
plan_tests = (1, bad_passes) ∷ (2, some bad_radius) ∷ (3, some bad_inner) ∷ (4, some bad_edge) ∷ []

pub plans_lower : (hs vs : List Stage) {a b : Answer} → a ≡ first_of (plan_rows (hs ∷ [])) → b ≡ first_of (plan_rows (vs ∷ [])) → Lower a b (first_of (plan_rows (hs ∷ vs ∷ [])))
unfolding plan_rows
plans_lower hs vs e f = rw (e, f) (two_lower 0 plan_tests hs vs (λ ps. tt))

pub plans_allowed : (hs vs : List Stage) → Off (plan_rows (hs ∷ vs ∷ [])) → AllowedPlan hs × AllowedPlan vs
unfolding plan_rows
plans_allowed hs vs h = let (a, b) = off_more plan_tests hs (vs ∷ []) h in (plan_allowed hs a, plan_allowed vs b)

allowed_plans : (hs vs : List Stage) → AllowedPlan hs → AllowedPlan vs → Off (plan_rows (hs ∷ vs ∷ []))
unfolding plan_rows
allowed_plans hs vs h k = more_off plan_tests hs (vs ∷ []) (allowed_plan hs h) (allowed_plan vs k)

-- ---- rows 1 to 8 of a series
module _ (ss : List Stage) (M N : ℕ) {wrong : Bool} where
  pub length_allowed : Off (common_rows (series_of ss N) M wrong) → AllowedLength ss M N × (wrong ≡ false)
  unfolding size_rows
  length_allowed h =
      let (p, s) = append_off (plan_rows (ss ∷ [])) _ h in
      (record { plan = plan_allowed ss p; bound = outside_no _ _ _ s.0; product = ltb-false _ _ s.1.0; count = outside_no _ _ _ s.1.1.0 }, s.1.1.1.0)

  pub allowed_length : AllowedLength ss M N → wrong ≡ false → Off (common_rows (series_of ss N) M wrong)
  unfolding size_rows
  allowed_length ok e = off_append (plan_rows (ss ∷ [])) _ (allowed_plan ss ok.plan) (no_outside ok.bound.0 ok.bound.1, (le-ltb _ _ ok.product, (no_outside ok.count.0 ok.count.1, (e, tt))))

pub length_tested : (ss : List Stage) (M N : ℕ) (wrong : Bool) {a : Answer} → a ≡ first_of (common_rows (series_of ss N) M wrong) → a.number ≡ 0 → AllowedLength ss M N
length_tested ss M N wrong e z = (length_allowed ss M N (done_off _ (common_numbered (series_of ss N) M wrong) (number_zero e z))).0

-- a plan that is accepted under this bound
pub length_accepted : {ss : List Stage} {M N : ℕ} → AllowedLength ss M N → AcceptedPlan ss
length_accepted {ss} ok = record { plan = ok.plan; divides = omega (arith, ok.product, mul-le-mul_right (divisor ss) ok.bound.0) }

-- ---- rows 1 to 8 of a picture
module _ (hs vs : List Stage) (M W H : ℕ) {wrong : Bool} where
  pub sides_allowed : Off (common_rows (picture_of hs vs W H) M wrong) → AllowedSides hs vs M W H × (wrong ≡ false)
  unfolding size_rows
  sides_allowed h =
      let (p, s) = append_off (plan_rows (hs ∷ vs ∷ [])) _ h in
      let (a, d) = plans_allowed hs vs p in
      let (sides, few) = or_no (outside least max_side W || outside least max_side H) (ltb max_length (W * H)) s.1.1.0 in
      let (w, t) = or_no (outside least max_side W) (outside least max_side H) sides in (
        record {
          across = a;
          down = d;
          bound = outside_no _ _ _ s.0;
          product = ltb-false _ _ s.1.0;
          width = outside_no _ _ _ w;
          height = outside_no _ _ _ t;
          cells = ltb-false _ _ few;
        },
        s.1.1.1.0,
      )

  pub allowed_sides : AllowedSides hs vs M W H → wrong ≡ false → Off (common_rows (picture_of hs vs W H) M wrong)
  unfolding size_rows
  allowed_sides ok e =
      let sides = no_or (no_or (no_outside ok.width.0 ok.width.1) (no_outside ok.height.0 ok.height.1)) (le-ltb _ _ ok.cells) in
      off_append (plan_rows (hs ∷ vs ∷ [])) _ (allowed_plans hs vs ok.across ok.down) (no_outside ok.bound.0 ok.bound.1, (le-ltb _ _ ok.product, (sides, (e, tt))))

pub sides_tested : (hs vs : List Stage) (M W H : ℕ) (wrong : Bool) {a : Answer} → a ≡ first_of (common_rows (picture_of hs vs W H) M wrong) → a.number ≡ 0 → AllowedSides hs vs M W H
sides_tested hs vs M W H wrong e z = (sides_allowed hs vs M W H (done_off _ (common_numbered (picture_of hs vs W H) M wrong) (number_zero e z))).0

-- ---- a plan's own numbers
pub inner_allowed : (ss : List Stage) → AllowedStages ss → PositiveInner ss
inner_allowed [] ok = none
inner_allowed (s ∷ ss) ok = ok.0.inner.0 and inner_allowed ss ok.1

pub divisor_allowed : (ss : List Stage) → AllowedStages ss → 0 < divisor ss
divisor_allowed ss ok = divisor_positive (inner_allowed ss ok)

pub sides_accepted : {hs vs : List Stage} {M W H : ℕ} → AllowedSides hs vs M W H → AcceptedPlan hs × AcceptedPlan vs
sides_accepted {hs} {vs} ok =
    let both : divisor hs * divisor vs ≤ max_result = omega (arith, ok.product, mul-le-mul_right (divisor hs * divisor vs) ok.bound.0) in (
      record { plan = ok.across; divides = omega (arith, both, mul-le-mul_left (divisor hs) (divisor_allowed vs ok.down.stages)) },
      record { plan = ok.down; divides = omega (arith, both, mul-le-mul_right (divisor vs) (divisor_allowed hs ok.across.stages)) },
    )

module _ (ss : List Stage) where
  own_numbered : Numbered (own_rows ss)
  unfolding own_rows plan_rows
  own_numbered = tt

  accepted : AcceptedPlan ss → (first_of (own_rows ss)).number ≡ 0
  unfolding own_rows
  accepted ok = number_zero (sym (off_done (own_rows ss) (off_append (plan_rows (ss ∷ [])) _ (allowed_plan ss ok.plan) (le-ltb _ _ ok.divides, tt)))) refl

  accepting : (first_of (own_rows ss)).number ≡ 0 → AcceptedPlan ss
  unfolding own_rows
  accepting e =
      let (p, s) = append_off (plan_rows (ss ∷ [])) _ (done_off (own_rows ss) own_numbered e) in
      record { plan = plan_allowed ss p; divides = ltb-false _ _ s.0 }

  pub accepted_divisor : AcceptedPlan ss → plan_divisor ss ≡ divisor ss
  unfolding plan_divisor
  accepted_divisor ok = if_done_done _ _ _ (accepted ok)

  pub accepted_reach : AcceptedPlan ss → plan_reach ss ≡ reach ss
  unfolding plan_reach
  accepted_reach ok = if_done_done _ _ _ (accepted ok)

  pub no_divisor : (AcceptedPlan ss → ⊥) → plan_divisor ss ≡ 0
  unfolding plan_divisor
  no_divisor h = if_done_refused _ _ _ (λ e. h (accepting e))

  pub no_reach : (AcceptedPlan ss → ⊥) → plan_reach ss ≡ 0
  unfolding plan_reach
  no_reach h = if_done_refused _ _ _ (λ e. h (accepting e))

  pub divisor_accepted : (plan_divisor ss ≡ 0 → ⊥) → AcceptedPlan ss
  unfolding plan_divisor
  divisor_accepted h = go (ℕ_discrete (first_of (own_rows ss)).number 0)
    where
      go : Dec ((first_of (own_rows ss)).number ≡ 0) → AcceptedPlan ss
      go (yes e) = accepting e
      go (no n) = absurd (h (if_done_refused _ _ _ n))
