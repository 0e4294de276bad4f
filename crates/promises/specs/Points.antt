-- A point: `point::point` by its own contract, for all inputs.
--   PointCall          any call, as its contract lets it end
--   plan, bound, position, samples, work   what it was given; stages are the plan's
--   number, place, bad, value   what it answered: document 01's number, position and value, and document 02's number of bad samples, of each case of the enum
--   work_left           what it left
--   rows, Allowed      its rows of the table of numbers, and the bounds of document 01
--   Near c i           sample i is within reach of the position
--   result c           the result at the position: the sum over m of K-fold tap m times the extension at n - m
--   Whole z x          the double x is the whole number z, exactly
--   Exactly            as of Smoothings;  Stored, Fresh   as of Edits;  SeriesCall   as of SmoothSeries
--   point_case         the enum is its value case exactly where the number is 0, else its refused case
--   point_lowest       the number is 0, or that of a row that applies, and then the lowest of those
--   point_done, point_allowed   it is 0 exactly where no row applies, and exactly where the bounds hold
--   point_place_11, point_place_other   at 11 the place is the first sample within reach that is above the bound, else 0
--   point_bad          at 11, and there alone, bad is not 0, and how many samples within reach are above the bound; and 11 is given exactly where some are and no lower row applies
--   point_unchanged    a refused point leaves work as it was, and has the value plus zero
--   point_left_lem         one that is done leaves zeros in work
--   point_value_lem        and its value is the result over the divisor
--   point_exact        by the single division of two exactly converted numbers
--   point_over         the divisor is D^K, with D = (2r+1)b + 2a
--   point_zero         where the result is 0 the value is plus zero
--   point_fresh        where a fresh smoothing of the samples is stored, after edits too, the value is its result at the position over the divisor
--   point_smoothed     so it is that of the result which a call of smoothing leaves there, under the same plan, on the same samples
--   point_local        under one plan, bound, position and length of work, series of equal length that agree within reach get the same answer, refusals and the number of bad samples included, whatever work held
--   point_one          two outcomes that the contract allows are the same
use Rattle.std.specs.Prelude.{ℕ, ◌+◌, ◌*◌, ◌^◌, ◌≤◌, ◌<◌, ◌≡◌, refl, ◌≢◌, length, ℤ, pos, nat_abs, ◌-ℤ◌, ◌*ℤ◌, Float, Result, Ok, Err}
use Rattle.std.proofs.Common.{sym, ◌∙◌, subst, eq-eqb, ne_eqb}
use Rattle.std.proofs.Math.Path.{ap}
use mathlib.Core.List.{List}
use Rattle.std.specs.Int.Signed.{lt_z}
use Rattle.std.specs.Float.{binary64}
use Rattle.std.specs.Float.Ieee.{of_int, div}
use Rattle.std.specs.Float.Ieee.Exact.{HasValue}
use contract.Lifetimes.{Lfts}
use denote.Triple.Clauses.{AtExit}
use borrow.Fn.Kinds.{Dens, res_t, ended_of}
use Rattle.algebra.specs.Size.{abs_weaken}
use Rattle.algebra.specs.Within.{sum_within}
use Rattle.meaning.specs.Limits.{max_result}
use Rattle.meaning.specs.Extension.{at, fold, ext}
use Rattle.meaning.specs.Kernel.{Stage, kernel, width, reach, divisor}
use Rattle.meaning.specs.Smoothing as smoothing
use Rattle.meaning.specs.Smoothing.{apart}
use Rattle.meaning.specs.Refusals as meant
use Rattle.meaning.specs.Refusals.{Row, first_of, Applies, zeros}
use Rattle.meaning.specs.Values.{ratio, plus_zero}
use Rattle.meaning.specs.Calls as outcomes
use Rattle.meaning.specs.Calls.{point_rows}
use Rattle.meaning.specs.Bounds.{AcceptedPlan, AllowedPoint, FirstAt, Counted}
use Rattle.theory.specs.Refusals.{number_lowest, number_none, if_done_done, if_done_refused}
use Rattle.theory.specs.Stages.{divisor_plan}
use Rattle.theory.specs.Passes.{at_results}
use Rattle.theory.specs.HalfSample.{half_sample, half_sample_near}
use Rattle.theory.specs.Shares.{near_size}
use Rattle.theory.specs.Values.{whole_exact, ratio_zero}
use Rattle.theory.specs.Accepted.{length_accepted, divisor_allowed}
use Rattle.theory.specs.AcceptedPoints as tested
use Rattle.plan.specs.declared.Plan.{Plan}
use Rattle.plan.specs.declared.Refusal.{Refusal}
use Rattle.plan.specs.Structs.{stages_of, answer_of, value_or, refusal_of, end_back, one_end, refused_number}
use Rattle.point.proofs.point.Reads as point
use Rattle.point.proofs.point.Kinds as kinds
use Rattle.promises.specs.Smoothings.{Exactly}
use Rattle.promises.specs.SmoothSeries as series
use Rattle.promises.specs.SmoothSeries.{SeriesCall, done_whole}
use Rattle.promises.specs.Edits.{Stored, Fresh}
use Rattle.promises.specs.EditLists.{smoothed}

pub record PointCall : Type 1 where
  pub lifetimes : Lfts 2
  pub given : Dens lifetimes kinds.ps
  pub answered : (res_t kinds.r lifetimes).Denot
  pub left : AtExit (ended_of 2 kinds.ps kinds.r) lifetimes
  pub learnt : point.Learnt lifetimes given answered left

-- ---- what was given, answered and left
abbrev pub plan : PointCall → Plan
plan c = c.given.0

abbrev pub stages : PointCall → List Stage
stages c = stages_of (plan c)

abbrev pub bound : PointCall → ℕ
bound c = c.given.1.0

abbrev pub position : PointCall → ℕ
position c = c.given.1.1.0

abbrev pub samples : PointCall → List ℤ
samples c = c.given.1.1.1.0.now

abbrev pub work : PointCall → List ℤ
work c = c.given.1.1.1.1.0.now

abbrev pub number : PointCall → ℕ
number c = (answer_of c.answered).number

abbrev pub place : PointCall → ℕ
place c = (answer_of c.answered).position

abbrev pub bad : PointCall → ℕ
bad c = (answer_of c.answered).bad

abbrev pub value : PointCall → Float
value c = value_or plus_zero c.answered

abbrev pub work_left : PointCall → List ℤ
work_left c = c.left.1.1.1.1.0.now

abbrev pub rows : PointCall → List Row
rows c = point_rows (stages c) (bound c) (position c) (samples c) (length (work c))

abbrev pub Allowed : PointCall → Type 0
Allowed c = AllowedPoint (stages c) (bound c) (position c) (samples c) (length (work c))

abbrev pub Near : PointCall → ℕ → Type 0
Near c i = apart i (position c) ≤ reach (stages c)

abbrev pub result : PointCall → ℤ
result c = sum_within (width (stages c)) (λ m. kernel (stages c) m *ℤ ext fold (samples c) (pos (position c) -ℤ m))

abbrev pub Whole : ℤ → Float → Type 0
Whole z x = HasValue x (lt_z z (pos 0)) (nat_abs z) 1

-- ---- one call
abbrev outcome : PointCall → outcomes.Pointed
outcome c = outcomes.point fold (stages c) (bound c) (position c) (samples c) (work c)

module _ (c : PointCall) where
  answer_is : answer_of c.answered ≡ first_of (rows c)
  unfolding outcomes.point
  answer_is = c.learnt.answer

  number_is : number c ≡ (first_of (rows c)).number
  number_is = ap (λ (x : meant.Answer). x.number) answer_is

  is_value : number c ≡ 0 → c.answered ≡ Ok (value c)
  is_value e = sym (end_back plus_zero c.answered) ∙ rw (eq-eqb (number c) 0 e)

  is_refused : number c ≢ 0 → c.answered ≡ Err (refusal_of (answer_of c.answered))
  is_refused h = sym (end_back plus_zero c.answered) ∙ rw (ne_eqb (number c) 0 h)

  pub point_case : Exactly (number c ≡ 0) (c.answered ≡ Ok (value c)) × Exactly (number c ≢ 0) (c.answered ≡ Err (refusal_of (record { number = number c; position = place c; bad = bad c })))
  point_case = ((is_value, λ k. ap (λ (q : Result Float Refusal). (answer_of q).number) k), (is_refused, λ k e. refused_number _ (sym (ap (λ (q : Result Float Refusal). (answer_of q).number) k) ∙ e)))

  pub point_lowest : (number c ≢ 0 → Applies (number c) (rows c)) × ((n : ℕ) → Applies n (rows c) → number c ≤ n)
  point_lowest = number_lowest (rows c) number_is (tested.point_rising _ _ _ _ _)

  pub point_done : Exactly (number c ≡ 0) ((n : ℕ) → Applies n (rows c) → ⊥)
  point_done = number_none (rows c) number_is (tested.point_numbered _ _ _ _ _)

  pub point_allowed : Exactly (number c ≡ 0) (Allowed c)
  point_allowed = (λ e. tested.point_allowed _ _ _ _ _ (sym number_is ∙ e), λ ok. number_is ∙ ap (λ (x : meant.Answer). x.number) (tested.allowed_point _ _ _ _ _ ok))

  pub point_place_11 : number c ≡ 11 → FirstAt (length (samples c)) (λ i. Near c i × (bound c < nat_abs (at (samples c) i))) (place c)
  point_place_11 = tested.point_position _ _ _ _ _ answer_is

  pub point_place_other : number c ≢ 11 → place c ≡ 0
  point_place_other = tested.point_no_position _ _ _ _ _ answer_is

  pub point_bad : Counted (λ i. Near c i × (bound c < nat_abs (at (samples c) i))) (length (samples c)) (rows c) (answer_of c.answered)
  point_bad = tested.point_bad _ _ _ _ _ answer_is

  pub point_unchanged : number c ≢ 0 → (work_left c ≡ work c) × (value c ≡ plus_zero)
  unfolding outcomes.point
  point_unchanged h = (c.learnt.work ∙ if_done_refused _ _ _ (λ e. h (number_is ∙ e)), ap (value_or plus_zero) (is_refused h))

  pub point_over : divisor (stages c) ≡ ((2 * (plan c).radius + 1) * (plan c).inner + 2 * (plan c).edge) ^ (plan c).passes
  point_over = divisor_plan _ _ _ _

  -- a point that is done
  module _ (e : number c ≡ 0) where
    done : (first_of (rows c)).number ≡ 0
    done = sym number_is ∙ e

    pub point_left_lem : work_left c ≡ zeros (work c)
    unfolding outcomes.point
    point_left_lem = c.learnt.work ∙ if_done_done _ _ _ done

    pub point_value_lem : value c ≡ ratio (result c) (divisor (stages c))
    unfolding outcomes.point smoothing.result smoothing.convolved
    point_value_lem = c.learnt.value ∙ if_done_done _ _ _ done

    accepted : AcceptedPlan (stages c)
    accepted = length_accepted (point_allowed.0 e).common

    small : nat_abs (result c) ≤ max_result
    unfolding smoothing.result smoothing.convolved
    small = let ok = point_allowed.0 e in (abs_weaken (near_size half_sample_near (stages c) (samples c) ok.position half_sample ok.samples) ok.common.product).bound

    pub point_exact : (value c ≡ div binary64 (of_int binary64 (result c)) (of_int binary64 (pos (divisor (stages c))))) × Whole (result c) (of_int binary64 (result c)) × Whole (pos (divisor (stages c))) (of_int binary64 (pos (divisor (stages c))))
    unfolding ratio
    point_exact = (point_value_lem, whole_exact _ small, whole_exact (pos (divisor (stages c))) accepted.divides)

    pub point_zero : result c ≡ pos 0 → value c ≡ plus_zero
    point_zero z = point_value_lem ∙ ap (λ (r : ℤ). ratio r (divisor (stages c))) z ∙ ratio_zero (divisor_allowed _ accepted.plan.stages) accepted.divides

    pub point_fresh : (x : Stored) → Fresh (plan c) x → x.samples ≡ samples c → value c ≡ ratio (at x.results (position c)) (divisor (stages c))
    unfolding smoothing.result smoothing.convolved
    point_fresh x h f =
        let k = ap (λ (r : List ℤ). at r (position c)) (h ∙ ap (smoothing.results fold (stages c)) f) ∙ at_results fold (stages c) (samples c) (position c) (point_allowed.0 e).position in
        point_value_lem ∙ ap (λ (r : ℤ). ratio r (divisor (stages c))) (sym k)

    pub point_smoothed : (x : SeriesCall) → series.number x ≡ 0 → series.plan x ≡ plan c → series.samples x ≡ samples c → value c ≡ ratio (at (series.results_left x) (position c)) (divisor (stages c))
    point_smoothed x d p f = point_fresh (smoothed x) (subst (λ (q : Plan). Fresh q (smoothed x)) p (done_whole x d)) f

-- ---- two calls
outcome_same : {p q : Plan} {M L i j : ℕ} {f g w x : List ℤ} → p ≡ q → M ≡ L → i ≡ j → f ≡ g → w ≡ x → outcomes.point fold (stages_of p) M i f w ≡ outcomes.point fold (stages_of q) L j g x
outcome_same p m i f w = rw (p, m, i, f, w) refl

pub point_local : (c d : PointCall) → plan c ≡ plan d → bound c ≡ bound d → position c ≡ position d → length (work c) ≡ length (work d)
    → length (samples c) ≡ length (samples d) → ((i : ℕ) → i < length (samples c) → Near c i → at (samples c) i ≡ at (samples d) i) → c.answered ≡ d.answered
point_local c d p m i w n k =
    let (a, x) = tested.point_local (stages c) (bound c) (position c) (samples c) (samples d) n k half_sample_near (work c) (work d) w in
    let e = outcome_same p m i refl refl in
    one_end plus_zero _ _ (c.learnt.answer ∙ a ∙ ap (λ (o : outcomes.Pointed). o.answer) e ∙ sym d.learnt.answer) (c.learnt.value ∙ x ∙ ap (λ (o : outcomes.Pointed). o.value) e ∙ sym d.learnt.value)

pub point_one : (c d : PointCall) → plan c ≡ plan d → bound c ≡ bound d → position c ≡ position d → samples c ≡ samples d → work c ≡ work d → (c.answered ≡ d.answered) × (work_left c ≡ work_left d)
point_one c d p m i f w =
    let e = outcome_same p m i f w in
    (one_end plus_zero _ _ (c.learnt.answer ∙ ap (λ (o : outcomes.Pointed). o.answer) e ∙ sym d.learnt.answer) (c.learnt.value ∙ ap (λ (o : outcomes.Pointed). o.value) e ∙ sym d.learnt.value), c.learnt.work ∙ ap (λ (o : outcomes.Pointed). o.work) e ∙ sym d.learnt.work)
