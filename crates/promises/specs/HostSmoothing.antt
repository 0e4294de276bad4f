-- Smoothing, edits and points as other languages call them: `dungdapple_smooth_series`, `dungdapple_smooth_picture`, `dungdapple_edit_series` and `dungdapple_point`, each by its own contract, for all inputs.
--   SmoothSeriesHost, SmoothPictureHost, EditSeriesHost, PointHost   any call, as its contract lets it end
--   smooth_series_given, smooth_picture_given, edit_series_given, point_given   what it was given, in the order of its parameters, but for the numbers lent to answer by
--   smooth_series_taken, smooth_picture_taken, edit_series_taken, point_taken   the same, each plan and each number as what its doubles are taken as
--   smooth_series_left, smooth_picture_left, edit_series_left, point_left       what it answered and left: the number returned, every number left through a reference, and every slice left
--   SeriesCall         as of SmoothSeries;  PictureCall  as of Pictures;  EditCall  as of Edits;  PointCall  as of Points
--   host_smooth_series_one, host_smooth_picture_one, host_edit_series_one, host_point_one   two outcomes that the contract allows, of the same given, are the same, whatever the numbers lent to answer by held at entry
--   host_smooth_series_is, host_smooth_picture_is   it answers and leaves what any call of `series::smooth_series`, and of `picture::smooth_picture`, does that is given what its doubles are taken as
--   host_edit_is, host_point_is   what any call of `edit::edit_series`, and of `point::point`, does that is given the same, and lent as much work as it asks, whatever that work holds
--   host_edit_series_zeros, host_point_zeros   refused, an edit counts 0 results changed, and a point's value is plus zero
--   host_plan_refused  smoothing a series: a plan of another number of doubles than four is refused with 1
--   host_bound_refused and a bound that is no whole number of size up to the largest result, as a fraction or a NaN, with 5, where the plan is allowed
use Rattle.std.specs.Prelude.{ℕ, ◌≡◌, ◌≢◌, true, List, [], ◌∷◌, length, ℤ, pos, Float}
use Rattle.std.proofs.Math.Path.{refl, ap}
use Rattle.std.proofs.Common.{sym, ◌∙◌, arith}
use Rattle.std.proofs.lemmas.List.{length-replicate}
use Rattle.meaning.specs.Limits.{least, max_passes, max_bound, max_result}
use Rattle.meaning.specs.Extension.{fold}
use Rattle.meaning.specs.Kernel.{Stage}
use Rattle.meaning.specs.Refusals.{Answer, outside, plan_rows, size_rows}
use Rattle.meaning.specs.Calls.{Smoothed, Edited, Pointed, smooth_rows, smoothed, smooth_series, smooth_picture, edit_room, edit_series, point, asked}
use Rattle.meaning.specs.Values.{plus_zero}
use Rattle.meaning.specs.Arguments.{whole_of, unsigned, count_of, PlanNumbers, stages, plan_in, stages_in}
use Rattle.meaning.specs.Bounds.{AllowedPlan, WholeDouble}
use Rattle.theory.specs.Refusals.{first_on, off_done, refused_first, done_rest, plan_numbered, number_zero, if_done_refused}
use Rattle.theory.specs.Stored.{edit_refused}
use Rattle.theory.specs.Accepted.{allowed_plan, plan_rows_lem}
use Rattle.theory.specs.Arguments.{whole_other, plan_other, refused_by_passes, refused_by_bound}
use Rattle.plan.specs.Structs.{answer_of}
use Rattle.series.specs.Contract as smoothing
use Rattle.edit.specs.Contract as editing
use Rattle.arguments.specs.Numbers.{numbers_of}
use Rattle.answers.specs.Told.{said}
use Rattle.dungdapple.specs.Told.{Points}
use Rattle.dungdapple.specs.Pointed as law
use Rattle.dungdapple.proofs.dungdapple_smooth_series.Reads as smooth-series
use Rattle.dungdapple.proofs.dungdapple_smooth_series.Kinds as smooth-series-kinds
use Rattle.dungdapple.proofs.dungdapple_smooth_picture.Reads as smooth-picture
use Rattle.dungdapple.proofs.dungdapple_smooth_picture.Kinds as smooth-picture-kinds
use Rattle.dungdapple.proofs.dungdapple_edit_series.Reads as edit-series
use Rattle.dungdapple.proofs.dungdapple_edit_series.Kinds as edit-series-kinds
use Rattle.dungdapple.proofs.dungdapple_point.Reads as point_at
use Rattle.dungdapple.proofs.dungdapple_point.Kinds as point-kinds
use Rattle.promises.specs.Hosts.{HostCall}
use Rattle.promises.specs.SmoothSeries as series
use Rattle.promises.specs.SmoothSeries.{SeriesCall}
use Rattle.promises.specs.Pictures as pictures
use Rattle.promises.specs.Pictures.{PictureCall}
use Rattle.promises.specs.Edits as edits
use Rattle.promises.specs.Edits.{EditCall}
use Rattle.promises.specs.Points as points
use Rattle.promises.specs.Points.{PointCall}

abbrev pub SmoothSeriesHost : Type 1
SmoothSeriesHost = HostCall smooth-series-kinds.ps smooth-series-kinds.r smooth-series.Learnt

abbrev pub SmoothPictureHost : Type 1
SmoothPictureHost = HostCall smooth-picture-kinds.ps smooth-picture-kinds.r smooth-picture.Learnt

abbrev pub EditSeriesHost : Type 1
EditSeriesHost = HostCall edit-series-kinds.ps edit-series-kinds.r edit-series.Learnt

abbrev pub PointHost : Type 1
PointHost = HostCall point-kinds.ps point-kinds.r point_at.Learnt

-- ---- what a contract says, as one equation
smooth_is : {o : Smoothed} {a : Answer} {r w : List ℤ} → smoothing.Gives o a r w → record { answer = a; results = r; work = w } ≡ o
smooth_is g = rw (g.answer, g.results, g.work)

-- ---- smoothing a series: plan, bound, samples, results, work
abbrev SeriesGiven : Type 0
SeriesGiven = List Float × Float × List ℤ × List ℤ × List ℤ

abbrev SeriesTaken : Type 0
SeriesTaken = PlanNumbers × ℕ × List ℤ × List ℤ × List ℤ

abbrev pub smooth_series_given : SmoothSeriesHost → SeriesGiven
smooth_series_given c =
    let a = c.given in
    (a.0.now, a.1.0, a.1.1.0.now, a.1.1.1.0.now, a.1.1.1.1.0.now)

abbrev series_taken : SeriesGiven → SeriesTaken
series_taken x = (plan_in x.0, count_of x.1, x.2, x.3, x.4)

abbrev pub smooth_series_taken : SmoothSeriesHost → SeriesTaken
smooth_series_taken c = series_taken (smooth_series_given c)

abbrev pub smooth_series_left : SmoothSeriesHost → Smoothed
smooth_series_left c =
    let s = c.left.1.1.1 in
    record { answer = said c.answered s.1.1.0.now s.1.1.1.0.now; results = s.0.now; work = s.1.0.now }

abbrev series_outcome : SeriesTaken → Smoothed
series_outcome x = smooth_series fold (stages x.0) x.1 x.2 x.3 x.4

pub host_smooth_series_one : (c d : SmoothSeriesHost) → smooth_series_given c ≡ smooth_series_given d → smooth_series_left c ≡ smooth_series_left d
host_smooth_series_one c d e = smooth_is c.learnt ∙ ap (λ (x : SeriesGiven). series_outcome (series_taken x)) e ∙ sym (smooth_is d.learnt)

pub host_smooth_series_is : (h : SmoothSeriesHost) (c : SeriesCall) → smooth_series_taken h ≡ (numbers_of (series.plan c), series.bound c, series.samples c, series.results c, series.work c)
    → smooth_series_left h ≡ record { answer = answer_of c.answered; results = series.results_left c; work = series.work_left c }
host_smooth_series_is h c e = smooth_is h.learnt ∙ ap series_outcome e ∙ sym (smooth_is c.learnt)

-- ---- smoothing a picture: plans across and down, bound, width, height, samples, results, work
abbrev PictureGiven : Type 0
PictureGiven = List Float × List Float × Float × Float × Float × List ℤ × List ℤ × List ℤ

abbrev PictureTaken : Type 0
PictureTaken = PlanNumbers × PlanNumbers × ℕ × ℕ × ℕ × List ℤ × List ℤ × List ℤ

abbrev pub smooth_picture_given : SmoothPictureHost → PictureGiven
smooth_picture_given c =
    let a = c.given in
    (a.0.now, a.1.0.now, a.1.1.0, a.1.1.1.0, a.1.1.1.1.0, a.1.1.1.1.1.0.now, a.1.1.1.1.1.1.0.now, a.1.1.1.1.1.1.1.0.now)

abbrev picture_taken : PictureGiven → PictureTaken
picture_taken x = (plan_in x.0, plan_in x.1, count_of x.2, count_of x.3, count_of x.4, x.5, x.6, x.7)

abbrev pub smooth_picture_taken : SmoothPictureHost → PictureTaken
smooth_picture_taken c = picture_taken (smooth_picture_given c)

abbrev pub smooth_picture_left : SmoothPictureHost → Smoothed
smooth_picture_left c =
    let s = c.left.1.1.1.1.1.1 in
    record { answer = said c.answered s.1.1.0.now s.1.1.1.0.now; results = s.0.now; work = s.1.0.now }

abbrev picture_outcome : PictureTaken → Smoothed
picture_outcome x = smooth_picture fold fold (stages x.0) (stages x.1) x.2 x.3 x.4 x.5 x.6 x.7

pub host_smooth_picture_one : (c d : SmoothPictureHost) → smooth_picture_given c ≡ smooth_picture_given d → smooth_picture_left c ≡ smooth_picture_left d
host_smooth_picture_one c d e = smooth_is c.learnt ∙ ap (λ (x : PictureGiven). picture_outcome (picture_taken x)) e ∙ sym (smooth_is d.learnt)

pub host_smooth_picture_is : (h : SmoothPictureHost) (c : PictureCall)
    → smooth_picture_taken h ≡ (numbers_of (pictures.across c), numbers_of (pictures.down c), pictures.bound c, pictures.width c, pictures.height c, pictures.samples c, pictures.results c, pictures.work c)
    → smooth_picture_left h ≡ record { answer = answer_of c.answered; results = pictures.results_left c; work = pictures.work_left c }
host_smooth_picture_is h c e = smooth_is h.learnt ∙ ap picture_outcome e ∙ sym (smooth_is c.learnt)

-- ---- an edit: plan, bound, position, value, samples, results
abbrev EditGiven : Type 0
EditGiven = List Float × Float × Float × Float × List ℤ × List ℤ

abbrev EditTaken : Type 0
EditTaken = PlanNumbers × ℕ × ℕ × ℤ × List ℤ × List ℤ

abbrev pub edit_series_given : EditSeriesHost → EditGiven
edit_series_given c =
    let a = c.given in
    (a.0.now, a.1.0, a.1.1.0, a.1.1.1.0, a.1.1.1.1.0.now, a.1.1.1.1.1.0.now)

abbrev edit_taken : EditGiven → EditTaken
edit_taken x = (plan_in x.0, count_of x.1, count_of x.2, whole_of x.3, x.4, x.5)

abbrev pub edit_series_taken : EditSeriesHost → EditTaken
edit_series_taken c = edit_taken (edit_series_given c)

-- the answer, how many results changed, the samples and the results
abbrev pub edit_series_left : EditSeriesHost → Answer × ℕ × List ℤ × List ℤ
edit_series_left c =
    let s = c.left.1.1.1.1 in
    (said c.answered s.1.1.0.now s.1.1.1.1.0.now, s.1.1.1.0.now, s.0.now, s.1.0.now)

abbrev alone : Edited → Answer × ℕ × List ℤ × List ℤ
alone o = (o.answer, o.count, o.samples, o.results)

edit_is : {o : Edited} {a : Answer} {k : ℕ} {f r : List ℤ} → editing.GivesAlone o a k f r → (a, k, f, r) ≡ alone o
edit_is g = rw (g.answer, g.count, g.samples, g.results)

edit_work_is : {o : Edited} {a : Answer} {k : ℕ} {f r w : List ℤ} → editing.Gives o a k f r w → (a, k, f, r) ≡ alone o
edit_work_is g = rw (g.answer, g.count, g.samples, g.results)

abbrev edit_outcome : EditTaken → List ℤ → Answer × ℕ × List ℤ × List ℤ
edit_outcome x w = alone (edit_series fold (stages x.0) x.1 x.2 x.3 x.4 x.5 w)

abbrev asked_by : PlanNumbers → List ℤ → List ℤ
asked_by p f = asked (stages p) (length f)

pub host_edit_series_one : (c d : EditSeriesHost) → edit_series_given c ≡ edit_series_given d → edit_series_left c ≡ edit_series_left d
host_edit_series_one c d e = edit_is c.learnt ∙ ap (λ (x : EditGiven). edit_outcome (edit_taken x) (asked_by (plan_in x.0) x.4)) e ∙ sym (edit_is d.learnt)

pub host_edit_series_zeros : (c : EditSeriesHost) → c.answered ≢ 0 → (edit_series_left c).1 ≡ 0
host_edit_series_zeros c n = c.learnt.count ∙ (edit_refused _ _ _ _ _ _ _ _ (λ z. n (number_zero (sym c.learnt.answer) z))).0

-- only the length of work plays a part
asked_length : (ss : List Stage) (N : ℕ) → length (asked ss N) ≡ edit_room ss N
unfolding asked
asked_length ss N = length-replicate (edit_room ss N) (pos 0)

edit_work : (x : EditTaken) (w : List ℤ) → length w ≡ edit_room (stages x.0) (length x.4) → edit_outcome x (asked_by x.0 x.4) ≡ edit_outcome x w
unfolding edit_series
edit_work x w n = rw (asked_length (stages x.0) (length x.4), n)

pub host_edit_is : (h : EditSeriesHost) (c : EditCall) → edit_series_taken h ≡ (numbers_of (edits.plan c), edits.bound c, edits.position c, edits.value c, edits.samples c, edits.results c)
    → length (edits.work c) ≡ edit_room (edits.stages c) (length (edits.samples c)) → edit_series_left h ≡ (answer_of c.answered, edits.count c, edits.samples_left c, edits.results_left c)
host_edit_is h c e n =
    edit_is h.learnt ∙ ap (λ (x : EditTaken). edit_outcome x (asked_by x.0 x.4)) e
    ∙ edit_work (numbers_of (edits.plan c), edits.bound c, edits.position c, edits.value c, edits.samples c, edits.results c) (edits.work c) n ∙ sym (edit_work_is c.learnt)

-- ---- a point: plan, bound, position, samples
abbrev PointGiven : Type 0
PointGiven = List Float × Float × Float × List ℤ

abbrev PointTaken : Type 0
PointTaken = PlanNumbers × ℕ × ℕ × List ℤ

abbrev pub point_given : PointHost → PointGiven
point_given c = (c.given.0.now, c.given.1.0, c.given.1.1.0, c.given.1.1.1.0.now)

abbrev taken : PointGiven → PointTaken
taken x = (plan_in x.0, count_of x.1, count_of x.2, x.3)

abbrev pub point_taken : PointHost → PointTaken
point_taken c = taken (point_given c)

-- the answer and the value
abbrev pub point_left : PointHost → Answer × Float
point_left c =
    let s = c.left.1.1.1.1 in
    (said c.answered s.1.0.now s.1.1.0.now, s.0.now)

abbrev valued : Pointed → Answer × Float
valued o = (o.answer, o.value)

point_is : {o : Pointed} {a : Answer} {x : Float} → Points o a x → (a, x) ≡ valued o
point_is g = rw (g.answer, g.value)

abbrev point_outcome : PointTaken → List ℤ → Answer × Float
point_outcome x w = valued (point fold (stages x.0) x.1 x.2 x.3 w)

pub host_point_one : (c d : PointHost) → point_given c ≡ point_given d → point_left c ≡ point_left d
host_point_one c d e = point_is c.learnt ∙ ap (λ (x : PointGiven). point_outcome (taken x) (asked_by (plan_in x.0) x.3)) e ∙ sym (point_is d.learnt)

pub host_point_zeros : (c : PointHost) → c.answered ≢ 0 → (point_left c).1 ≡ plus_zero
unfolding point
host_point_zeros c n = c.learnt.value ∙ if_done_refused _ _ _ (λ z. n (number_zero (sym c.learnt.answer) z))

point_work : (x : PointTaken) (w : List ℤ) → length w ≡ edit_room (stages x.0) (length x.3) → point_outcome x (asked_by x.0 x.3) ≡ point_outcome x w
unfolding point
point_work x w n = rw (asked_length (stages x.0) (length x.3), n)

pub host_point_is : (h : PointHost) (c : PointCall) → point_taken h ≡ (numbers_of (points.plan c), points.bound c, points.position c, points.samples c)
    → length (points.work c) ≡ edit_room (points.stages c) (length (points.samples c)) → point_left h ≡ (answer_of c.answered, points.value c)
host_point_is h c e n =
    point_is h.learnt ∙ ap (λ (x : PointTaken). point_outcome x (asked_by x.0 x.3)) e
    ∙ point_work (numbers_of (points.plan c), points.bound c, points.position c, points.samples c) (points.work c) n
    ∙ sym (point_is (law.both (points.stages c) (points.bound c) (points.position c) (points.samples c) (points.work c) (record { answer = c.learnt.answer; value = c.learnt.value })))

-- ---- an argument that is refused
module _ (x : SeriesTaken) where
  passes_refused : outside least max_passes x.0.passes ≡ true → (series_outcome x).answer.number ≡ 1
  unfolding smoothed smooth_rows plan_rows size_rows
  passes_refused h =
      let p = x.0 in
      ap (λ (a : Answer). a.number) (sym (refused_first (plan_rows (stages p ∷ [])) _ (sym (plan_rows_lem p.radius p.inner p.edge p.passes ∙ first_on _ _ h)) (λ z. omega arith)))

  bound_refused : AllowedPlan (stages x.0) → outside least max_bound x.1 ≡ true → (series_outcome x).answer.number ≡ 5
  unfolding smoothed smooth_rows plan_rows size_rows
  bound_refused ok h =
      let rows = plan_rows (stages x.0 ∷ []) in
      ap (λ (a : Answer). a.number) (sym (done_rest rows _ (plan_numbered (stages x.0 ∷ [])) (sym (off_done rows (allowed_plan (stages x.0) ok))) refl (sym (first_on _ _ h))))

module _ (h : SmoothSeriesHost) where
  number_is : h.answered ≡ (series_outcome (smooth_series_taken h)).answer.number
  number_is = ap (λ (a : Answer). a.number) h.learnt.answer

  pub host_plan_refused : length (smooth_series_given h).0 ≢ 4 → h.answered ≡ 1
  host_plan_refused n = number_is ∙ passes_refused (smooth_series_taken h) (ap (λ (p : PlanNumbers). outside least max_passes p.passes) (plan_other _ n) ∙ refused_by_passes)

  pub host_bound_refused : AllowedPlan (stages_in (smooth_series_given h).0) → (WholeDouble max_result (smooth_series_given h).1 → ⊥) → h.answered ≡ 5
  unfolding count_of unsigned
  host_bound_refused ok n = number_is ∙ bound_refused (smooth_series_taken h) ok (ap (λ (z : ℤ). outside least max_bound (unsigned z)) (whole_other _ n) ∙ refused_by_bound)
