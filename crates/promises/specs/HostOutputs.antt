-- Values in and out as other languages call them: `dungdapple_doubles_in`, `dungdapple_whole_..`, `dungdapple_carry_..`, `dungdapple_doubles_..` and `dungdapple_summary_..`, each of a series and of a picture, `dungdapple_results_to_doubles` and `dungdapple_doubles_to_results`,
-- each by its own contract, for all inputs.
--   DoublesInHost, WholeSeriesHost, WholePictureHost, CarrySeriesHost, CarryPictureHost, DoublesSeriesHost, DoublesPictureHost, SummarySeriesHost, SummaryPictureHost, ExactHost, BackHost   any call, as its contract lets it end
--   doubles_in_given, whole_series_given, whole_picture_given, carry_series_given, carry_picture_given, doubles_series_given, doubles_picture_given, summary_series_given, summary_picture_given, exact_given, back_given
--                      what it was given, in the order of its parameters, but for the numbers lent to answer by
--   doubles_in_left, whole_series_left, whole_picture_left, carry_series_left, carry_picture_left, doubles_series_left, doubles_picture_left, summary_series_left, summary_picture_left, exact_left, back_left
--                      what it answered and left: the number returned, every number left through a reference, and every slice left
--   host_doubles_in_one, host_whole_series_one, host_whole_picture_one, host_carry_series_one, host_carry_picture_one, host_doubles_series_one, host_doubles_picture_one, host_summary_series_one, host_summary_picture_one,
--   host_results_to_doubles_one, host_doubles_to_results_one   two outcomes that the contract allows, of the same given, are the same, whatever the numbers lent to answer by held at entry
--   host_carry_series_zeros, host_carry_picture_zeros       refused, the last carry is plus zero
--   host_summary_series_zeros, host_summary_picture_zeros   refused, lowest and highest are plus zero, and both indices 0
use Rattle.std.specs.Prelude.{ℕ, ◌≡◌, ◌≢◌, List, ℤ, pos, Float}
use Rattle.std.proofs.Common.{sym, ap, ◌∙◌}
use Rattle.std.specs.Float.{binary64}
use Rattle.std.specs.Float.Ieee.{of_int}
use Rattle.meaning.specs.Refusals.{Answer, Shape}
use Rattle.meaning.specs.Values.{Converted, Summary, plus_zero, doubles_in, whole_series_by, whole_picture_by, doubles_series, doubles_picture, summary_series, summary_picture}
use Rattle.meaning.specs.Carry.{Carried, carried, carry_series, carry_picture}
use Rattle.meaning.specs.Exact.{results_to_doubles, doubles_to_results}
use Rattle.meaning.specs.Arguments.{count_of, stages_in}
use Rattle.theory.specs.Refusals.{number_zero, if_done_refused}
use Rattle.plan.specs.Contract.{Gives}
use Rattle.answers.specs.Told.{said}
use Rattle.dungdapple.specs.Told.{Carries}
use Rattle.dungdapple.proofs.dungdapple_doubles_in.Reads as doubles-in
use Rattle.dungdapple.proofs.dungdapple_doubles_in.Kinds as doubles-in-kinds
use Rattle.dungdapple.proofs.dungdapple_whole_series.Reads as whole-series
use Rattle.dungdapple.proofs.dungdapple_whole_series.Kinds as whole-series-kinds
use Rattle.dungdapple.proofs.dungdapple_whole_picture.Reads as whole-picture
use Rattle.dungdapple.proofs.dungdapple_whole_picture.Kinds as whole-picture-kinds
use Rattle.dungdapple.proofs.dungdapple_carry_series.Reads as carry-series
use Rattle.dungdapple.proofs.dungdapple_carry_series.Kinds as carry-series-kinds
use Rattle.dungdapple.proofs.dungdapple_carry_picture.Reads as carry-picture
use Rattle.dungdapple.proofs.dungdapple_carry_picture.Kinds as carry-picture-kinds
use Rattle.dungdapple.proofs.dungdapple_doubles_series.Reads as doubles-series
use Rattle.dungdapple.proofs.dungdapple_doubles_series.Kinds as doubles-series-kinds
use Rattle.dungdapple.proofs.dungdapple_doubles_picture.Reads as doubles-picture
use Rattle.dungdapple.proofs.dungdapple_doubles_picture.Kinds as doubles-picture-kinds
use Rattle.dungdapple.proofs.dungdapple_summary_series.Reads as summary_series_lem
use Rattle.dungdapple.proofs.dungdapple_summary_series.Kinds as summary-series-kinds
use Rattle.dungdapple.proofs.dungdapple_summary_picture.Reads as summary_picture_lem
use Rattle.dungdapple.proofs.dungdapple_summary_picture.Kinds as summary-picture-kinds
use Rattle.dungdapple.proofs.dungdapple_results_to_doubles.Reads as results-to-doubles
use Rattle.dungdapple.proofs.dungdapple_results_to_doubles.Kinds as results-to-doubles-kinds
use Rattle.dungdapple.proofs.dungdapple_doubles_to_results.Reads as doubles-to-results
use Rattle.dungdapple.proofs.dungdapple_doubles_to_results.Kinds as doubles-to-results-kinds
use Rattle.promises.specs.Hosts.{HostCall}
use Rattle.promises.specs.Summaries.{summary_refused}

abbrev pub DoublesInHost : Type 1
DoublesInHost = HostCall doubles-in-kinds.ps doubles-in-kinds.r doubles-in.Learnt

abbrev pub WholeSeriesHost : Type 1
WholeSeriesHost = HostCall whole-series-kinds.ps whole-series-kinds.r whole-series.Learnt

abbrev pub WholePictureHost : Type 1
WholePictureHost = HostCall whole-picture-kinds.ps whole-picture-kinds.r whole-picture.Learnt

abbrev pub CarrySeriesHost : Type 1
CarrySeriesHost = HostCall carry-series-kinds.ps carry-series-kinds.r carry-series.Learnt

abbrev pub CarryPictureHost : Type 1
CarryPictureHost = HostCall carry-picture-kinds.ps carry-picture-kinds.r carry-picture.Learnt

abbrev pub DoublesSeriesHost : Type 1
DoublesSeriesHost = HostCall doubles-series-kinds.ps doubles-series-kinds.r doubles-series.Learnt

abbrev pub DoublesPictureHost : Type 1
DoublesPictureHost = HostCall doubles-picture-kinds.ps doubles-picture-kinds.r doubles-picture.Learnt

abbrev pub SummarySeriesHost : Type 1
SummarySeriesHost = HostCall summary-series-kinds.ps summary-series-kinds.r summary_series_lem.Learnt

abbrev pub SummaryPictureHost : Type 1
SummaryPictureHost = HostCall summary-picture-kinds.ps summary-picture-kinds.r summary_picture_lem.Learnt

abbrev pub ExactHost : Type 1
ExactHost = HostCall results-to-doubles-kinds.ps results-to-doubles-kinds.r results-to-doubles.Learnt

abbrev pub BackHost : Type 1
BackHost = HostCall doubles-to-results-kinds.ps doubles-to-results-kinds.r doubles-to-results.Learnt

-- ---- what a contract says, as one equation
converted_is : {A : Type 0} {o : Converted A} {a : Answer} {x : List A} → Gives o a x → record { answer = a; cells = x } ≡ o
converted_is g = rw (g.answer, g.cells)

abbrev carried_out : Carried → Answer × Float × List ℤ
carried_out o = (o.answer, of_int binary64 (pos o.carry), o.cells)

carried_is : {o : Carried} {a : Answer} {x : Float} {l : List ℤ} → Carries o a x l → (a, x, l) ≡ carried_out o
carried_is g = rw (g.answer, g.carry, g.cells)

carried_zero : (s : Shape) (M : ℕ) (r cells : List ℤ) {a : Answer} {x : Float} {l : List ℤ} → Carries (carried s M r cells) a x l → a.number ≢ 0 → x ≡ plus_zero
unfolding carried of_int
carried_zero s M r cells g n = g.carry ∙ ap (λ (k : ℕ). of_int binary64 (pos k)) (if_done_refused _ _ _ (λ z. n (number_zero (sym g.answer) z)))

-- ---- doubles in: bound, doubles, samples
abbrev SamplesGiven : Type 0
SamplesGiven = Float × List Float × List ℤ

abbrev pub doubles_in_given : DoublesInHost → SamplesGiven
doubles_in_given c = (c.given.0, c.given.1.0.now, c.given.1.1.0.now)

abbrev pub doubles_in_left : DoublesInHost → Converted ℤ
doubles_in_left c =
    let s = c.left.1.1 in
    record { answer = said c.answered s.1.0.now s.1.1.0.now; cells = s.0.now }

pub host_doubles_in_one : (c d : DoublesInHost) → doubles_in_given c ≡ doubles_in_given d → doubles_in_left c ≡ doubles_in_left d
host_doubles_in_one c d e = converted_is c.learnt ∙ ap (λ (x : SamplesGiven). doubles_in (count_of x.0) x.1 x.2) e ∙ sym (converted_is d.learnt)

-- ---- whole numbers: plan, bound, mode, results, cells; of a picture plans across and down, bound, width, height, mode, results, cells
abbrev WholeSeriesGiven : Type 0
WholeSeriesGiven = List Float × Float × Float × List ℤ × List ℤ

abbrev pub whole_series_given : WholeSeriesHost → WholeSeriesGiven
whole_series_given c =
    let a = c.given in
    (a.0.now, a.1.0, a.1.1.0, a.1.1.1.0.now, a.1.1.1.1.0.now)

abbrev pub whole_series_left : WholeSeriesHost → Converted ℤ
whole_series_left c =
    let s = c.left.1.1.1.1 in
    record { answer = said c.answered s.1.0.now 0; cells = s.0.now }

pub host_whole_series_one : (c d : WholeSeriesHost) → whole_series_given c ≡ whole_series_given d → whole_series_left c ≡ whole_series_left d
host_whole_series_one c d e = converted_is c.learnt ∙ ap (λ (x : WholeSeriesGiven). whole_series_by (stages_in x.0) (count_of x.1) (count_of x.2) x.3 x.4) e ∙ sym (converted_is d.learnt)

abbrev WholePictureGiven : Type 0
WholePictureGiven = List Float × List Float × Float × Float × Float × Float × List ℤ × List ℤ

abbrev pub whole_picture_given : WholePictureHost → WholePictureGiven
whole_picture_given c =
    let a = c.given in
    (a.0.now, a.1.0.now, a.1.1.0, a.1.1.1.0, a.1.1.1.1.0, a.1.1.1.1.1.0, a.1.1.1.1.1.1.0.now, a.1.1.1.1.1.1.1.0.now)

abbrev pub whole_picture_left : WholePictureHost → Converted ℤ
whole_picture_left c =
    let s = c.left.1.1.1.1.1.1.1 in
    record { answer = said c.answered s.1.0.now 0; cells = s.0.now }

pub host_whole_picture_one : (c d : WholePictureHost) → whole_picture_given c ≡ whole_picture_given d → whole_picture_left c ≡ whole_picture_left d
host_whole_picture_one c d e =
    converted_is c.learnt ∙ ap (λ (x : WholePictureGiven). whole_picture_by (stages_in x.0) (stages_in x.1) (count_of x.2) (count_of x.3) (count_of x.4) (count_of x.5) x.6 x.7) e
    ∙ sym (converted_is d.learnt)

-- ---- whole numbers that add up, given the same but a mode; what is left is the answer, the last carry and the cells
abbrev CarrySeriesGiven : Type 0
CarrySeriesGiven = List Float × Float × List ℤ × List ℤ

abbrev pub carry_series_given : CarrySeriesHost → CarrySeriesGiven
carry_series_given c = (c.given.0.now, c.given.1.0, c.given.1.1.0.now, c.given.1.1.1.0.now)

abbrev pub carry_series_left : CarrySeriesHost → Answer × Float × List ℤ
carry_series_left c =
    let s = c.left.1.1.1 in
    (said c.answered s.1.0.now 0, s.1.1.0.now, s.0.now)

pub host_carry_series_one : (c d : CarrySeriesHost) → carry_series_given c ≡ carry_series_given d → carry_series_left c ≡ carry_series_left d
host_carry_series_one c d e = carried_is c.learnt ∙ ap (λ (x : CarrySeriesGiven). carried_out (carry_series (stages_in x.0) (count_of x.1) x.2 x.3)) e ∙ sym (carried_is d.learnt)

pub host_carry_series_zeros : (c : CarrySeriesHost) → c.answered ≢ 0 → (carry_series_left c).1 ≡ plus_zero
host_carry_series_zeros c = carried_zero _ _ _ _ c.learnt

abbrev CarryPictureGiven : Type 0
CarryPictureGiven = List Float × List Float × Float × Float × Float × List ℤ × List ℤ

abbrev pub carry_picture_given : CarryPictureHost → CarryPictureGiven
carry_picture_given c =
    let a = c.given in
    (a.0.now, a.1.0.now, a.1.1.0, a.1.1.1.0, a.1.1.1.1.0, a.1.1.1.1.1.0.now, a.1.1.1.1.1.1.0.now)

abbrev pub carry_picture_left : CarryPictureHost → Answer × Float × List ℤ
carry_picture_left c =
    let s = c.left.1.1.1.1.1.1 in
    (said c.answered s.1.0.now 0, s.1.1.0.now, s.0.now)

pub host_carry_picture_one : (c d : CarryPictureHost) → carry_picture_given c ≡ carry_picture_given d → carry_picture_left c ≡ carry_picture_left d
host_carry_picture_one c d e =
    carried_is c.learnt ∙ ap (λ (x : CarryPictureGiven). carried_out (carry_picture (stages_in x.0) (stages_in x.1) (count_of x.2) (count_of x.3) (count_of x.4) x.5 x.6)) e ∙ sym (carried_is d.learnt)

pub host_carry_picture_zeros : (c : CarryPictureHost) → c.answered ≢ 0 → (carry_picture_left c).1 ≡ plus_zero
host_carry_picture_zeros c = carried_zero _ _ _ _ c.learnt

-- ---- doubles out: given the same
abbrev DoublesSeriesGiven : Type 0
DoublesSeriesGiven = List Float × Float × List ℤ × List Float

abbrev pub doubles_series_given : DoublesSeriesHost → DoublesSeriesGiven
doubles_series_given c = (c.given.0.now, c.given.1.0, c.given.1.1.0.now, c.given.1.1.1.0.now)

abbrev pub doubles_series_left : DoublesSeriesHost → Converted Float
doubles_series_left c =
    let s = c.left.1.1.1 in
    record { answer = said c.answered s.1.0.now 0; cells = s.0.now }

pub host_doubles_series_one : (c d : DoublesSeriesHost) → doubles_series_given c ≡ doubles_series_given d → doubles_series_left c ≡ doubles_series_left d
host_doubles_series_one c d e = converted_is c.learnt ∙ ap (λ (x : DoublesSeriesGiven). doubles_series (stages_in x.0) (count_of x.1) x.2 x.3) e ∙ sym (converted_is d.learnt)

abbrev DoublesPictureGiven : Type 0
DoublesPictureGiven = List Float × List Float × Float × Float × Float × List ℤ × List Float

abbrev pub doubles_picture_given : DoublesPictureHost → DoublesPictureGiven
doubles_picture_given c =
    let a = c.given in
    (a.0.now, a.1.0.now, a.1.1.0, a.1.1.1.0, a.1.1.1.1.0, a.1.1.1.1.1.0.now, a.1.1.1.1.1.1.0.now)

abbrev pub doubles_picture_left : DoublesPictureHost → Converted Float
doubles_picture_left c =
    let s = c.left.1.1.1.1.1.1 in
    record { answer = said c.answered s.1.0.now 0; cells = s.0.now }

pub host_doubles_picture_one : (c d : DoublesPictureHost) → doubles_picture_given c ≡ doubles_picture_given d → doubles_picture_left c ≡ doubles_picture_left d
host_doubles_picture_one c d e =
    converted_is c.learnt ∙ ap (λ (x : DoublesPictureGiven). doubles_picture (stages_in x.0) (stages_in x.1) (count_of x.2) (count_of x.3) (count_of x.4) x.5 x.6) e ∙ sym (converted_is d.learnt)

-- ---- the lowest and the highest: given the same but cells
abbrev SummarySeriesGiven : Type 0
SummarySeriesGiven = List Float × Float × List ℤ

abbrev pub summary_series_given : SummarySeriesHost → SummarySeriesGiven
summary_series_given c = (c.given.0.now, c.given.1.0, c.given.1.1.0.now)

abbrev pub summary_series_left : SummarySeriesHost → Summary
summary_series_left c =
    let s = c.left.1.1.1 in
    record { answer = said c.answered s.0.now 0; lowest = s.1.0.now; highest = s.1.1.0.now; lowest_at = s.1.1.1.0.now; highest_at = s.1.1.1.1.0.now }

pub host_summary_series_one : (c d : SummarySeriesHost) → summary_series_given c ≡ summary_series_given d → summary_series_left c ≡ summary_series_left d
host_summary_series_one c d e = c.learnt ∙ ap (λ (x : SummarySeriesGiven). summary_series (stages_in x.0) (count_of x.1) x.2) e ∙ sym d.learnt

pub host_summary_series_zeros : (c : SummarySeriesHost) → c.answered ≢ 0 → let s = summary_series_left c in (s.lowest ≡ plus_zero) × (s.highest ≡ plus_zero) × (s.lowest_at ≡ 0) × (s.highest_at ≡ 0)
host_summary_series_zeros c = summary_refused _ _ _ c.learnt

abbrev SummaryPictureGiven : Type 0
SummaryPictureGiven = List Float × List Float × Float × Float × Float × List ℤ

abbrev pub summary_picture_given : SummaryPictureHost → SummaryPictureGiven
summary_picture_given c =
    let a = c.given in
    (a.0.now, a.1.0.now, a.1.1.0, a.1.1.1.0, a.1.1.1.1.0, a.1.1.1.1.1.0.now)

abbrev pub summary_picture_left : SummaryPictureHost → Summary
summary_picture_left c =
    let s = c.left.1.1.1.1.1.1 in
    record { answer = said c.answered s.0.now 0; lowest = s.1.0.now; highest = s.1.1.0.now; lowest_at = s.1.1.1.0.now; highest_at = s.1.1.1.1.0.now }

pub host_summary_picture_one : (c d : SummaryPictureHost) → summary_picture_given c ≡ summary_picture_given d → summary_picture_left c ≡ summary_picture_left d
host_summary_picture_one c d e = c.learnt ∙ ap (λ (x : SummaryPictureGiven). summary_picture (stages_in x.0) (stages_in x.1) (count_of x.2) (count_of x.3) (count_of x.4) x.5) e ∙ sym d.learnt

pub host_summary_picture_zeros : (c : SummaryPictureHost) → c.answered ≢ 0 → let s = summary_picture_left c in (s.lowest ≡ plus_zero) × (s.highest ≡ plus_zero) × (s.lowest_at ≡ 0) × (s.highest_at ≡ 0)
host_summary_picture_zeros c = summary_refused _ _ _ c.learnt

-- ---- results as doubles: results, cells
abbrev ExactGiven : Type 0
ExactGiven = List ℤ × List Float

abbrev pub exact_given : ExactHost → ExactGiven
exact_given c = (c.given.0.now, c.given.1.0.now)

abbrev pub exact_left : ExactHost → Converted Float
exact_left c = record { answer = said c.answered c.left.1.1.0.now 0; cells = c.left.1.0.now }

pub host_results_to_doubles_one : (c d : ExactHost) → exact_given c ≡ exact_given d → exact_left c ≡ exact_left d
host_results_to_doubles_one c d e = converted_is c.learnt ∙ ap (λ (x : ExactGiven). results_to_doubles x.0 x.1) e ∙ sym (converted_is d.learnt)

-- ---- and back: doubles, results
abbrev BackGiven : Type 0
BackGiven = List Float × List ℤ

abbrev pub back_given : BackHost → BackGiven
back_given c = (c.given.0.now, c.given.1.0.now)

abbrev pub back_left : BackHost → Converted ℤ
back_left c = record { answer = said c.answered c.left.1.1.0.now c.left.1.1.1.0.now; cells = c.left.1.0.now }

pub host_doubles_to_results_one : (c d : BackHost) → back_given c ≡ back_given d → back_left c ≡ back_left d
host_doubles_to_results_one c d e = converted_is c.learnt ∙ ap (λ (x : BackGiven). doubles_to_results x.0 x.1) e ∙ sym (converted_is d.learnt)
