-- The summary: `summary::summary_series` and `summary::summary_picture` by their own contracts, for all inputs.
--   SeriesCall, PictureCall   any call, as its contract lets it end
--   plan; across, down, width, height   the plan of the one; plans and sides of the other
--   Summing            an outcome that such a contract allows: shape, bound and results as given, and the summary answered
--   of_series c, of_picture c   what a call was given and answered, as a Summing
--   rows               its rows of the table of numbers
--   summary_number     the number is 0, or that of a row that applies, and then the lowest of those
--   summary_done       it is 0 exactly where no row applies
--   summary_place_12, summary_place_other   at 12 the place is that of the first result above M times the divisor, else 0
--   summary_zeros      refused, both doubles are plus zero and both indices 0;  summary_refused  so they are in any answer that is the outcome, an export's too
--   summary_lowest, summary_highest   done, the index is the first of a result that none is below, or above, and the double is that result over the divisor
--   summary_series_lem, summary_picture_lem   the number is 0 exactly where the bounds of a series hold, and of a picture
--   summary_series_allowed, summary_picture_allowed   so a call is done exactly where they hold
--   summary_series_one, summary_picture_one   two outcomes that the contract allows are the same
use Rattle.std.specs.Prelude.{ℕ, ◌*◌, ◌≤◌, ◌<◌, ◌≡◌, ◌≢◌, List, length, ℤ, nat_abs, ◌≤ℤ◌, refl, Result, Ok, Err}
use Rattle.std.proofs.Common.{sym, ◌∙◌, subst}
use Rattle.std.proofs.Math.Path.{ap}
use contract.Lifetimes.{Lfts}
use denote.Triple.Clauses.{AtExit}
use borrow.Fn.Kinds.{Dens, res_t, ended_of}
use Rattle.meaning.specs.Extension.{at}
use Rattle.meaning.specs.Kernel.{Stage}
use Rattle.meaning.specs.Refusals.{Answer, Row, first_of, Applies, Shape, series_of, picture_of}
use Rattle.meaning.specs.Values as meant
use Rattle.meaning.specs.Values.{ratio, plus_zero, output_rows, summary, summary_series, summary_picture, lowest_in, highest_in}
use Rattle.meaning.specs.Bounds.{AllowedSeriesOut, AllowedPictureOut, FirstAt}
use Rattle.theory.specs.Refusals.{number_lowest, number_none, if_done_done, if_done_refused}
use Rattle.theory.specs.Extremes as extremes
use Rattle.theory.specs.AcceptedOutputs as tested
use Rattle.plan.specs.declared.Plan.{Plan}
use Rattle.plan.specs.declared.Refusal.{Refusal}
use Rattle.plan.specs.Structs.{stages_of, end_of, end_back}
use Rattle.summary.specs.declared.Summary.{Summary}
use Rattle.summary.specs.Structs.{summary_of}
use Rattle.summary.proofs.summary_series.Reads as series-call
use Rattle.summary.proofs.summary_series.Kinds as series-kinds
use Rattle.summary.proofs.summary_picture.Reads as picture-call
use Rattle.summary.proofs.summary_picture.Kinds as picture-kinds
use Rattle.promises.specs.Smoothings.{Exactly}

pub record SeriesCall : Type 1 where
  pub lifetimes : Lfts 1
  pub given : Dens lifetimes series-kinds.ps
  pub answered : (res_t series-kinds.r lifetimes).Denot
  pub left : AtExit (ended_of 1 series-kinds.ps series-kinds.r) lifetimes
  pub learnt : series-call.Learnt lifetimes given answered left

pub record PictureCall : Type 1 where
  pub lifetimes : Lfts 1
  pub given : Dens lifetimes picture-kinds.ps
  pub answered : (res_t picture-kinds.r lifetimes).Denot
  pub left : AtExit (ended_of 1 picture-kinds.ps picture-kinds.r) lifetimes
  pub learnt : picture-call.Learnt lifetimes given answered left

pub record Summing : Type 0 where
  pub shape : Shape
  pub bound : ℕ
  pub results : List ℤ
  pub answered : meant.Summary
  pub is : answered ≡ summary shape bound results
  pub some : answered.answer.number ≡ 0 → 0 < length results

-- ---- what was given and answered
abbrev pub plan : SeriesCall → Plan
plan c = c.given.0

abbrev pub across : PictureCall → Plan
across c = c.given.0.across

abbrev pub down : PictureCall → Plan
down c = c.given.0.down

abbrev pub width : PictureCall → ℕ
width c = c.given.0.width

abbrev pub height : PictureCall → ℕ
height c = c.given.0.height

-- ---- its bounds
module _ (s : Shape) (M : ℕ) (r : List ℤ) {x : meant.Summary} (e : x ≡ summary s M r) where
  number_of : x.answer.number ≡ (first_of (output_rows s M r (length r))).number
  unfolding summary
  number_of = ap (λ (y : meant.Summary). y.answer.number) e

  pub summary_refused : x.answer.number ≢ 0 → (x.lowest ≡ plus_zero) × (x.highest ≡ plus_zero) × (x.lowest_at ≡ 0) × (x.highest_at ≡ 0)
  unfolding summary
  summary_refused h =
      let n : (first_of (output_rows s M r (length r))).number ≢ 0 = λ z. h (number_of ∙ z) in (
        ap (λ (y : meant.Summary). y.lowest) e ∙ if_done_refused _ _ _ n,
        ap (λ (y : meant.Summary). y.highest) e ∙ if_done_refused _ _ _ n,
        ap (λ (y : meant.Summary). y.lowest_at) e ∙ if_done_refused _ _ _ n,
        ap (λ (y : meant.Summary). y.highest_at) e ∙ if_done_refused _ _ _ n,
      )

pub summary_series_lem : (ss : List Stage) (M : ℕ) (r : List ℤ) {x : meant.Summary} → x ≡ summary_series ss M r → Exactly (x.answer.number ≡ 0) (AllowedSeriesOut ss M r (length r))
summary_series_lem ss M r e =
    let is = number_of (series_of ss (length r)) M r e in
    (λ z. tested.series_out_allowed ss M r _ (sym is ∙ z), λ ok. is ∙ ap (λ (a : Answer). a.number) (tested.allowed_series_out ss M r _ ok))

pub summary_picture_lem : (hs vs : List Stage) (M W H : ℕ) (r : List ℤ) {x : meant.Summary} → x ≡ summary_picture hs vs M W H r → Exactly (x.answer.number ≡ 0) (AllowedPictureOut hs vs M W H r (length r))
summary_picture_lem hs vs M W H r e =
    let is = number_of (picture_of hs vs W H) M r e in
    (λ z. tested.picture_out_allowed hs vs M W H r _ (sym is ∙ z), λ ok. is ∙ ap (λ (a : Answer). a.number) (tested.allowed_picture_out hs vs M W H r _ ok))

abbrev pub of_series : SeriesCall → Summing
of_series c = record {
  shape = series_of (stages_of (plan c)) (length c.given.1.1.0.now);
  bound = c.given.1.0;
  results = c.given.1.1.0.now;
  answered = summary_of c.answered;
  is = c.learnt;
  some = λ z. ((summary_series_lem (stages_of (plan c)) c.given.1.0 c.given.1.1.0.now c.learnt).0 z).common.count.0;
}

abbrev pub of_picture : PictureCall → Summing
of_picture c = record {
  shape = picture_of (stages_of (across c)) (stages_of (down c)) (width c) (height c);
  bound = c.given.0.bound;
  results = c.given.1.0.now;
  answered = summary_of c.answered;
  is = c.learnt;
  some = λ z. tested.picture_out_some _ _ _ _ _ _ _ ((summary_picture_lem (stages_of (across c)) (stages_of (down c)) _ (width c) (height c) _ c.learnt).0 z);
}

pub summary_series_allowed : (c : SeriesCall) → Exactly ((of_series c).answered.answer.number ≡ 0) (AllowedSeriesOut (stages_of (plan c)) (of_series c).bound (of_series c).results (length (of_series c).results))
summary_series_allowed c = summary_series_lem (stages_of (plan c)) _ _ c.learnt

pub summary_picture_allowed : (c : PictureCall) → Exactly ((of_picture c).answered.answer.number ≡ 0) (AllowedPictureOut (stages_of (across c)) (stages_of (down c)) (of_picture c).bound (width c) (height c) (of_picture c).results (length (of_picture c).results))
summary_picture_allowed c = summary_picture_lem (stages_of (across c)) (stages_of (down c)) _ (width c) (height c) _ c.learnt

-- ---- of both
abbrev pub rows : Summing → List Row
rows s = output_rows s.shape s.bound s.results (length s.results)

module _ (s : Summing) where
  abbrev number : ℕ
  number = s.answered.answer.number

  answer_is : s.answered.answer ≡ first_of (rows s)
  unfolding summary
  answer_is = ap (λ (y : meant.Summary). y.answer) s.is

  number_is : number ≡ (first_of (rows s)).number
  number_is = number_of s.shape s.bound s.results s.is

  pub summary_number : (number ≢ 0 → Applies number (rows s)) × ((n : ℕ) → Applies n (rows s) → number ≤ n)
  summary_number = number_lowest (rows s) number_is (tested.output_rising _ _ _ _)

  pub summary_done : Exactly (number ≡ 0) ((n : ℕ) → Applies n (rows s) → ⊥)
  summary_done = number_none (rows s) number_is (tested.output_numbered _ _ _ _)

  pub summary_place_12 : number ≡ 12 → FirstAt (length s.results) (λ i. s.bound * s.shape.divisor < nat_abs (at s.results i)) s.answered.answer.position
  summary_place_12 = tested.output_position _ _ _ _ answer_is

  pub summary_place_other : number ≢ 12 → s.answered.answer.position ≡ 0
  summary_place_other = tested.output_no_position _ _ _ _ answer_is

  pub summary_zeros : number ≢ 0 → (s.answered.lowest ≡ plus_zero) × (s.answered.highest ≡ plus_zero) × (s.answered.lowest_at ≡ 0) × (s.answered.highest_at ≡ 0)
  summary_zeros = summary_refused s.shape s.bound s.results s.is

  -- one that is done
  module _ (e : number ≡ 0) where
    abbrev r : List ℤ
    r = s.results

    done : (first_of (rows s)).number ≡ 0
    done = sym number_is ∙ e

    lowest_at_lem : s.answered.lowest_at ≡ lowest_in r
    unfolding summary
    lowest_at_lem = ap (λ (y : meant.Summary). y.lowest_at) s.is ∙ if_done_done _ _ _ done

    highest_at_lem : s.answered.highest_at ≡ highest_in r
    unfolding summary
    highest_at_lem = ap (λ (y : meant.Summary). y.highest_at) s.is ∙ if_done_done _ _ _ done

    lowest_is : s.answered.lowest ≡ ratio (at r (lowest_in r)) s.shape.divisor
    unfolding summary
    lowest_is = ap (λ (y : meant.Summary). y.lowest) s.is ∙ if_done_done _ _ _ done

    highest_is : s.answered.highest ≡ ratio (at r (highest_in r)) s.shape.divisor
    unfolding summary
    highest_is = ap (λ (y : meant.Summary). y.highest) s.is ∙ if_done_done _ _ _ done

    pub summary_lowest : FirstAt (length r) (λ i. (j : ℕ) → j < length r → at r i ≤ℤ at r j) s.answered.lowest_at × (s.answered.lowest ≡ ratio (at r s.answered.lowest_at) s.shape.divisor)
    summary_lowest = subst (λ (n : ℕ). FirstAt (length r) (λ i. (j : ℕ) → j < length r → at r i ≤ℤ at r j) n × (s.answered.lowest ≡ ratio (at r n) s.shape.divisor)) (sym lowest_at_lem) (extremes.lowest_place r (s.some e), lowest_is)

    pub summary_highest : FirstAt (length r) (λ i. (j : ℕ) → j < length r → at r j ≤ℤ at r i) s.answered.highest_at × (s.answered.highest ≡ ratio (at r s.answered.highest_at) s.shape.divisor)
    summary_highest = subst (λ (n : ℕ). FirstAt (length r) (λ i. (j : ℕ) → j < length r → at r j ≤ℤ at r i) n × (s.answered.highest ≡ ratio (at r n) s.shape.divisor)) (sym highest_at_lem) (extremes.highest_place r (s.some e), highest_is)

-- ---- two calls
abbrev back : meant.Summary → Result Summary Refusal
back s = end_of (record { lowest = s.lowest; highest = s.highest; lowest_at = s.lowest_at; highest_at = s.highest_at }) s.answer

summary_back : (r : Result Summary Refusal) → back (summary_of r) ≡ r
summary_back (Ok s) = refl
summary_back (Err e) = end_back (record { lowest = plus_zero; highest = plus_zero; lowest_at = 0; highest_at = 0 }) (Err e)

series_same : {p q : Plan} {M L : ℕ} {r s : List ℤ} → p ≡ q → M ≡ L → r ≡ s → summary_series (stages_of p) M r ≡ summary_series (stages_of q) L s
series_same p m r = rw (p, m, r)

pub summary_series_one : (c d : SeriesCall) → plan c ≡ plan d → (of_series c).bound ≡ (of_series d).bound → (of_series c).results ≡ (of_series d).results → c.answered ≡ d.answered
summary_series_one c d p m r = sym (summary_back c.answered) ∙ ap back (c.learnt ∙ series_same p m r ∙ sym d.learnt) ∙ summary_back d.answered

picture_same : {p q t u : Plan} {M L W X H Y : ℕ} {r s : List ℤ} → p ≡ q → t ≡ u → M ≡ L → W ≡ X → H ≡ Y → r ≡ s → summary_picture (stages_of p) (stages_of t) M W H r ≡ summary_picture (stages_of q) (stages_of u) L X Y s
picture_same p t m w h r = rw (p, t, m, w, h, r)

pub summary_picture_one : (c d : PictureCall) → across c ≡ across d → down c ≡ down d → (of_picture c).bound ≡ (of_picture d).bound → width c ≡ width d → height c ≡ height d → (of_picture c).results ≡ (of_picture d).results → c.answered ≡ d.answered
summary_picture_one c d p q m w h r = sym (summary_back c.answered) ∙ ap back (c.learnt ∙ picture_same p q m w h r ∙ sym d.learnt) ∙ summary_back d.answered
