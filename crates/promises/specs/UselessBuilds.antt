-- Document 01's useless builds: for each kind, that no outcome of it meets the contract. Each theorem is of any call that was given a stated small input, whatever stood in the cells that it overwrites.
--   planned K            the plan (1, 1, 0, K)
--   spike, start         the samples (0, 0, 9, 0, 0) and (9, 0, 0, 0, 0);  spread  what one pass makes of spike, (0, 9, 9, 9, 0)
--   GivenSeries K f c    the smoothing c was given planned K, bound 9, the samples f, and five cells each of results and work
--   GivenEdit v c        the edit c was given planned 1, bound 9, the samples spike, the results spread, ten cells of work, and to set sample 4 to v
--   edged                the plan (0, 3, 1, 1);  Small s  the shape s is a series of 3, or a picture of 3 columns and 1 row, under edged;  OwnOff own  the rows `own` are none, or row 21 in mode 0 or 1;  page  document 01's job
-- One refusing everything:
--   not_refused, edit_not_refused   smoothing spike is done, and so is setting sample 4 to 3
--   picture_not_refused, point_not_refused, doubles_in_not_refused, output_not_refused, summary_not_refused, planner_not_refused, read_not_refused, write_not_refused   so is each other call, on an input of its own
-- One constant result:
--   not_constant         the results of spike are not all the same number
--   not_same             spike and start do not get the same results
-- An edit that does nothing:
--   edit_does_something  sample 4 set to 3: neither the results nor the samples left are those given
-- One that runs pass one and then only copies:
--   not_one_pass         under two passes the results of spike are not what one pass makes of it
-- One inventing its count:
--   count_not_invented   sample 4 set to 3 counts 2; set to 0, which it holds, it counts 0
use Rattle.std.specs.Prelude.{ℕ, ◌≡◌, refl, ◌⊎◌, ◌≢◌, true, false, List, [], ◌∷◌, eqb, length, ℤ, pos, nat_abs, Float}
use Rattle.std.proofs.Common.{sym, ap, ◌∙◌, subst, inl, inr, true≢false, arith, eq-eqb}
use Rattle.std.specs.Float.{fin}
use Rattle.algebra.specs.Within.{sum_within}
use Rattle.meaning.specs.Extension.{at, emod, reflect, fold, ext}
use Rattle.meaning.specs.Kernel.{tap, pass_at, kernel, width, reach, tap_sum, divisor}
use Rattle.meaning.specs.Smoothing as smoothing
use Rattle.meaning.specs.Smoothing.{list_of, convolved, weight, near}
use Rattle.meaning.specs.Refusals as meant
use Rattle.meaning.specs.Refusals.{Row, first_of, first_where, count_where, row_at, some, plan_rows, size_rows, Shape, series_of, picture_of, if_done}
use Rattle.meaning.specs.Calls.{smooth_rows, gained, edit_rows, changed, Edited, edit_series, point_rows, point}
use Rattle.meaning.specs.Values.{takes, double_rows, doubles_in, output_rows, mode_rows, Summary, summary}
use Rattle.meaning.specs.Bounds.{AllowedSigma}
use Rattle.meaning.specs.Encoding.{bytes, number}
use Rattle.meaning.specs.Record.{Job, field, sample_bytes, record_of, begins, reading, read_record, record_size}
use Rattle.theory.specs.OwnRows.{own_rest}
use Rattle.plan.specs.declared.Plan.{Plan}
use Rattle.plan.specs.Structs.{stage_of, stages_of, answer_of}
use Rattle.edit.specs.Contract.{Gives}
use Rattle.promises.specs.Smoothings.{number_done}
use Rattle.promises.specs.SmoothSeries as series
use Rattle.promises.specs.SmoothSeries.{SeriesCall, done_whole}
use Rattle.promises.specs.Edits as edits
use Rattle.promises.specs.Edits.{EditCall}
use Rattle.promises.specs.Pictures as pictures
use Rattle.promises.specs.Pictures.{PictureCall}
use Rattle.promises.specs.Points as points
use Rattle.promises.specs.Points.{PointCall}
use Rattle.promises.specs.DoublesIn as doubles
use Rattle.promises.specs.DoublesIn.{DoublesCall}
use Rattle.promises.specs.Outputs.{Output}
use Rattle.promises.specs.Summaries.{Summing}
use Rattle.promises.specs.Planner as planner
use Rattle.promises.specs.Planner.{PlannerCall}
use Rattle.promises.specs.Records as records
use Rattle.promises.specs.Records.{ReadCall, WriteCall}

abbrev pub planned : ℕ → Plan
planned K = record { radius = 1; inner = 1; edge = 0; passes = K }

abbrev pub spike : List ℤ
spike = pos 0 ∷ pos 0 ∷ pos 9 ∷ pos 0 ∷ pos 0 ∷ []

abbrev pub start : List ℤ
start = pos 9 ∷ pos 0 ∷ pos 0 ∷ pos 0 ∷ pos 0 ∷ []

abbrev pub spread : List ℤ
spread = pos 0 ∷ pos 9 ∷ pos 9 ∷ pos 9 ∷ pos 0 ∷ []

-- ---- smoothing
pub record GivenSeries (K : ℕ) (f : List ℤ) (c : SeriesCall) : Type 0 where
  pub plan : series.plan c ≡ planned K
  pub bound : series.bound c ≡ 9
  pub samples : series.samples c ≡ f
  pub results : length (series.results c) ≡ 5
  pub work : length (series.work c) ≡ 5

abbrev smooth_number : Plan → ℕ → List ℤ → ℕ → ℕ → ℕ
smooth_number p M f n k = (first_of (smooth_rows (series_of (stages_of p) (length f)) M f n k)).number

smooth_same : {p q : Plan} {M L n m k l : ℕ} {f g : List ℤ} → p ≡ q → M ≡ L → f ≡ g → n ≡ m → k ≡ l → smooth_number p M f n k ≡ smooth_number q L g m l
smooth_same p m f r w = rw (p, m, f, r, w)

results_same : {p q : Plan} {f g : List ℤ} → p ≡ q → f ≡ g → smoothing.results fold (stages_of p) f ≡ smoothing.results fold (stages_of q) g
results_same p f = rw (p, f)

module _ {K : ℕ} {f : List ℤ} (c : SeriesCall) (h : GivenSeries K f c) (ok : smooth_number (planned K) 9 f 5 5 ≡ 0) where
  done : series.number c ≡ 0
  done = number_done _ _ _ _ _ _ c.learnt (smooth_same h.plan h.bound h.samples h.results h.work ∙ ok)

  leaves : series.results_left c ≡ smoothing.results fold (stages_of (planned K)) f
  leaves = done_whole c done ∙ results_same h.plan h.samples

abbrev Leaves : ℕ → List ℤ → List ℤ → Type 0
Leaves K f r = (smooth_number (planned K) 9 f 5 5 ≡ 0) × (smoothing.results fold (stages_of (planned K)) f ≡ r)

leaving : Leaves 1 spike spread × Leaves 1 start (pos 18 ∷ pos 9 ∷ pos 0 ∷ pos 0 ∷ pos 0 ∷ []) × Leaves 2 spike (pos 9 ∷ pos 18 ∷ pos 27 ∷ pos 18 ∷ pos 9 ∷ []) × (smoothing.pass fold (stage_of (planned 2)) spike ≡ spread)
unfolding smooth_rows first_of first_where row_at some plan_rows size_rows tap_sum divisor smoothing.results smoothing.result smoothing.pass list_of convolved sum_within kernel width pass_at tap ext fold reflect emod
leaving = ((refl, refl), (refl, refl), (refl, refl), refl)

differ : {f g : List ℤ} (i : ℕ) → eqb (nat_abs (at f i)) (nat_abs (at g i)) ≡ false → f ≢ g
differ i n e = true≢false (sym (eq-eqb _ _ (ap (λ (f : List ℤ). nat_abs (at f i)) e)) ∙ n)

pub not_refused : (c : SeriesCall) → GivenSeries 1 spike c → series.number c ≡ 0
not_refused c h = done c h leaving.0.0

pub not_constant : (c : SeriesCall) → GivenSeries 1 spike c → (x : ℤ) → series.results_left c ≢ x ∷ x ∷ x ∷ x ∷ x ∷ []
not_constant c h x e =
    let k = sym (leaves c h leaving.0.0 ∙ leaving.0.1) ∙ e in
    let i : nat_abs (pos 0) ≡ nat_abs x = ap (λ (f : List ℤ). nat_abs (at f 0)) k in
    let j : nat_abs (pos 9) ≡ nat_abs x = ap (λ (f : List ℤ). nat_abs (at f 1)) k in
    omega (arith, i, j)

pub not_same : (c d : SeriesCall) → GivenSeries 1 spike c → GivenSeries 1 start d → series.results_left c ≢ series.results_left d
not_same c d g h e = differ 0 refl (sym (leaves c g leaving.0.0 ∙ leaving.0.1) ∙ e ∙ leaves d h leaving.1.0 ∙ leaving.1.1)

pub not_one_pass : (c : SeriesCall) → GivenSeries 2 spike c → series.results_left c ≢ smoothing.pass fold (stage_of (planned 2)) spike
not_one_pass c h e = differ 0 refl (sym (leaves c h leaving.2.0 ∙ leaving.2.1) ∙ e ∙ leaving.3)

-- ---- an edit
pub record GivenEdit (v : ℤ) (c : EditCall) : Type 0 where
  pub plan : edits.plan c ≡ planned 1
  pub bound : edits.bound c ≡ 9
  pub position : edits.position c ≡ 4
  pub value : edits.value c ≡ v
  pub samples : edits.samples c ≡ spike
  pub results : edits.results c ≡ spread
  pub work : length (edits.work c) ≡ 10

abbrev edited : ℤ → List ℤ → Edited
edited v w = edit_series fold (stages_of (planned 1)) 9 4 v spike spread w

edit_same : {p : Plan} {M i : ℕ} {v u : ℤ} {f r : List ℤ} (w : List ℤ) → p ≡ planned 1 → M ≡ 9 → i ≡ 4 → v ≡ u → f ≡ spike → r ≡ spread → edit_series fold (stages_of p) M i v f r w ≡ edited u w
edit_same w p m i v f r = rw (p, m, i, v, f, r)

set_to_3 : (w : List ℤ) → length w ≡ 10 → ((edited (pos 3) w).answer.number ≡ 0) × ((edited (pos 3) w).count ≡ 2) × ((edited (pos 3) w).samples ≡ pos 0 ∷ pos 0 ∷ pos 9 ∷ pos 0 ∷ pos 3 ∷ []) × ((edited (pos 3) w).results ≡ pos 0 ∷ pos 9 ∷ pos 9 ∷ pos 12 ∷ pos 6 ∷ [])
unfolding edit_series edit_rows gained changed count_where if_done near reach weight first_of first_where row_at some plan_rows size_rows tap_sum divisor list_of convolved sum_within kernel width pass_at tap fold reflect emod
set_to_3 w n = rw n (refl, refl, refl, refl)

set_to_0 : (w : List ℤ) → length w ≡ 10 → (edited (pos 0) w).count ≡ 0
unfolding edit_series edit_rows gained changed count_where if_done near reach weight first_of first_where row_at some plan_rows size_rows tap_sum divisor list_of convolved sum_within kernel width pass_at tap fold reflect emod
set_to_0 w n = rw n refl

module _ (c : EditCall) where
  gives : {v : ℤ} → GivenEdit v c → Gives (edited v (edits.work c)) (answer_of c.answered) (edits.count c) (edits.samples_left c) (edits.results_left c) (edits.work_left c)
  gives h = subst (λ (o : Edited). Gives o (answer_of c.answered) (edits.count c) (edits.samples_left c) (edits.results_left c) (edits.work_left c)) (edit_same _ h.plan h.bound h.position h.value h.samples h.results) c.learnt

  pub edit_not_refused : GivenEdit (pos 3) c → edits.number c ≡ 0
  edit_not_refused h = ap (λ (a : meant.Answer). a.number) (gives h).answer ∙ (set_to_3 _ h.work).0

  pub edit_does_something : GivenEdit (pos 3) c → (edits.results_left c ≢ edits.results c) × (edits.samples_left c ≢ edits.samples c)
  edit_does_something h =
      let (a, k, f, r) = set_to_3 _ h.work in
      (λ e. differ 3 refl (sym ((gives h).results ∙ r) ∙ e ∙ h.results), λ e. differ 4 refl (sym ((gives h).samples ∙ f) ∙ e ∙ h.samples))

  pub count_not_invented : (GivenEdit (pos 3) c → edits.count c ≡ 2) × (GivenEdit (pos 0) c → edits.count c ≡ 0)
  count_not_invented = (λ h. (gives h).count ∙ (set_to_3 _ h.work).1, λ h. (gives h).count ∙ set_to_0 _ h.work)

-- ---- the other calls
abbrev pub edged : Plan
edged = record { radius = 0; inner = 3; edge = 1; passes = 1 }

abbrev pub page : List ℕ
page = record_of 1 2 1 1 8 (pos 8 ∷ pos 0 ∷ pos 0 ∷ [])

abbrev pub Small : Shape → Type 0
Small s = (s ≡ series_of (stages_of edged) 3) ⊎ (s ≡ picture_of (stages_of edged) (stages_of edged) 3 1)

picture_number : {p q : Plan} {M W H n k : ℕ} {f : List ℤ} → p ≡ edged → q ≡ edged → M ≡ 9 → W ≡ 2 → H ≡ 2 → f ≡ pos 1 ∷ pos 0 ∷ pos 0 ∷ pos 0 ∷ [] → n ≡ 4 → k ≡ 4 → (first_of (smooth_rows (picture_of (stages_of p) (stages_of q) W H) M f n k)).number ≡ 0
unfolding smooth_rows first_of first_where row_at some plan_rows size_rows tap_sum divisor
picture_number p q m w h f n k = rw (p, q, m, w, h, f, n, k) refl

pub picture_not_refused : (c : PictureCall) → pictures.across c ≡ edged → pictures.down c ≡ edged → pictures.bound c ≡ 9 → pictures.width c ≡ 2 → pictures.height c ≡ 2
    → pictures.samples c ≡ pos 1 ∷ pos 0 ∷ pos 0 ∷ pos 0 ∷ [] → length (pictures.results c) ≡ 4 → length (pictures.work c) ≡ 4 → pictures.number c ≡ 0
picture_not_refused c p q m w h f r k = number_done _ _ _ _ _ _ c.learnt (picture_number p q m w h f r k)

point_number : {p : Plan} {M i k : ℕ} {f : List ℤ} → p ≡ planned 1 → M ≡ 9 → i ≡ 2 → f ≡ spike → k ≡ 10 → (first_of (point_rows (stages_of p) M i f k)).number ≡ 0
unfolding point_rows first_of first_where row_at some plan_rows size_rows tap_sum divisor near reach
point_number p m i f k = rw (p, m, i, f, k) refl

pub point_not_refused : (c : PointCall) → points.plan c ≡ planned 1 → points.bound c ≡ 9 → points.position c ≡ 2 → points.samples c ≡ spike → length (points.work c) ≡ 10 → points.number c ≡ 0
unfolding point
point_not_refused c p m i f w = ap (λ (a : meant.Answer). a.number) c.learnt.answer ∙ point_number p m i f w

double_number : {M n : ℕ} {xs : List Float} → M ≡ 9 → xs ≡ fin true 0 (pos 0) ∷ fin true 9 (pos 0) ∷ [] → n ≡ 2 → (first_of (double_rows M xs n)).number ≡ 0
unfolding double_rows takes first_of first_where row_at
double_number m x n = rw (m, x, n) refl

pub doubles_in_not_refused : (c : DoublesCall) → doubles.bound c ≡ 9 → doubles.doubles c ≡ fin true 0 (pos 0) ∷ fin true 9 (pos 0) ∷ [] → length (doubles.samples c) ≡ 2 → doubles.number c ≡ 0
unfolding doubles_in
doubles_in_not_refused c m x n = ap (λ (a : meant.Answer). a.number) c.learnt.answer ∙ double_number m x n

output_number : {s : Shape} {M n : ℕ} {r : List ℤ} → Small s → M ≡ 9 → r ≡ pos 16 ∷ pos 12 ∷ pos 4 ∷ [] → n ≡ 3 → (first_of (output_rows s M r n)).number ≡ 0
unfolding output_rows first_of first_where row_at some plan_rows size_rows tap_sum divisor
output_number (inl s) m r n = rw (s, m, r, n) refl
output_number (inr s) m r n = rw (s, m, r, n) refl

-- none, or row 21 in mode 0 or 1
abbrev pub OwnOff : List Row → Type 0
OwnOff own = (own ≡ []) ⊎ ((own ≡ mode_rows 0) ⊎ (own ≡ mode_rows 1))

own_number : {own : List Row} → OwnOff own → (first_of own).number ≡ 0
unfolding first_of mode_rows
own_number (inl e) = rw e refl
own_number (inr (inl e)) = rw e refl
own_number (inr (inr e)) = rw e refl

pub output_not_refused : {A : Type 0} {made : ℕ → List ℤ → List A} (o : Output made) → Small o.shape → o.bound ≡ 9 → o.results ≡ pos 16 ∷ pos 12 ∷ pos 4 ∷ [] → length o.cells ≡ 3 → OwnOff o.own → o.answer.number ≡ 0
output_not_refused o s m r n k = ap (λ (a : meant.Answer). a.number) (o.answers ∙ own_rest _ _ _ _ _ (output_number s m r n)) ∙ own_number k

pub summary_not_refused : (o : Summing) → Small o.shape → o.bound ≡ 9 → o.results ≡ pos 16 ∷ pos 12 ∷ pos 4 ∷ [] → o.answered.answer.number ≡ 0
unfolding summary
summary_not_refused o s m r = ap (λ (x : Summary). x.answer.number) o.is ∙ output_number s m r (ap length r)

planner_bounds : {s K b : ℕ} → s ≡ 500 → K ≡ 3 → b ≡ 16 → AllowedSigma s K b
planner_bounds s k b = record { passes = (omega arith, omega arith); inner = (omega arith, omega arith); sigma = (omega arith, omega arith) }

pub planner_not_refused : (c : PlannerCall) → planner.sigma c ≡ 500 → planner.passes c ≡ 3 → planner.inner c ≡ 16 → planner.number c ≡ 0
planner_not_refused c s k b = (planner.planner_allowed c).1 (planner_bounds s k b)

page_number : (read_record page).answer.number ≡ 0
unfolding record_of field bytes sample_bytes read_record begins reading number
page_number = refl

pub read_not_refused : (c : ReadCall) → records.bytes c ≡ page → (records.job c).answer.number ≡ 0
read_not_refused c e = ap (λ (j : Job). j.answer.number) (c.learnt ∙ ap read_record e) ∙ page_number

pub write_not_refused : (c : WriteCall) → records.count c ≡ 3 → length (records.room c) ≡ 39 → (answer_of c.answered).number ≡ 0
write_not_refused c n r = records.done_write c (omega (arith, n)) (omega (arith, n)) (r ∙ sym (ap record_size n))
