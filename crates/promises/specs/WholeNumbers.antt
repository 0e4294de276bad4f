-- Whole numbers out: `whole::whole_series_by` and `whole::whole_picture_by`, and the forms without a mode, `whole::whole_series` and `whole::whole_picture`, by their own contracts, for all inputs.
--   SeriesCall, PictureCall         any call in a mode, as its contract lets it end;  SeriesDefault, PictureDefault  any call without one
--   WholeSeries, WholePicture       what a call of either form was given, answered and left; its contract is `gives`
--   series_in_mode c, picture_in_mode c   that of a call in a mode;  series_by_default c, picture_by_default c  of one without, whose mode is 0
--   of_series w, of_picture w         the same as an Output: what Outputs says holds of both. Its own row is 21
--   whole_nearest      where it is done, no whole number is nearer to the quotient than the cell, in either mode: times the divisor, its distance from the result is the least
--   whole_even         in mode 0, where another is as near, the cell is twice a whole number
--   whole_half         in mode 1, of two that are as near, the cell is the upper one
--   whole_series_old, whole_picture_old   in mode 1 answer and cells are those of document 01: the rows of every output and no other, and each cell `nearest`
--   whole_size         and the cell has size at most the bound
--   whole_series_allowed, whole_picture_allowed   it is done exactly where the bounds hold and the mode is 0 or 1
--   whole_series_21, whole_picture_21   it answers 21 exactly where the bounds hold and the mode is another
--   SameSeries v w, SamePicture v w   the two were given the same
--   whole_series_by_one, whole_picture_by_one   then two outcomes that the contract of a call in a mode allows are the same;  whole_series_one, whole_picture_one  so are two of a call without
--   whole_series_default, whole_picture_default   and one without a mode is that of mode 0
use Rattle.std.specs.Prelude.{ℕ, ◌≤◌, ◌<◌, ◌≡◌, refl, ◌≢◌, List, [], length, ℤ, pos, nat_abs, ◌-ℤ◌, ◌*ℤ◌, ◌≤ℤ◌, Result, ⊤}
use Rattle.std.proofs.Common.{sym, ap, ◌∙◌, subst}
use contract.Lifetimes.{Lfts}
use denote.Triple.Clauses.{AtExit}
use borrow.Fn.Kinds.{Dens, res_t, ended_of}
use Rattle.meaning.specs.Limits.{max_mode}
use Rattle.meaning.specs.Extension.{at}
use Rattle.meaning.specs.Refusals as meant
use Rattle.meaning.specs.Refusals.{first_of, plan_rows, size_rows, Shape, series_of, picture_of}
use Rattle.meaning.specs.Values.{nearest, nearest_even, rounded, Converted, output_rows, converted, mode_rows, whole_series_by, whole_picture_by}
use Rattle.meaning.specs.Bounds.{AllowedSeriesOut, AllowedPictureOut}
use Rattle.theory.specs.Nearest.{nearest_half}
use Rattle.theory.specs.Rounded.{rounded_nearest, rounded_size, nearest_even_half, even_twice}
use Rattle.theory.specs.ModeRow.{mode_own, mode_off, off_mode, mode_refused, refused_mode}
use Rattle.theory.specs.Refusals.{Off}
use Rattle.theory.specs.AcceptedOutputs.{series_out_allowed, allowed_series_out, picture_out_allowed, allowed_picture_out}
use Rattle.plan.specs.declared.Plan.{Plan}
use Rattle.plan.specs.declared.Refusal.{Refusal}
use Rattle.plan.specs.Structs.{stages_of, answer_of}
use Rattle.plan.specs.Contract.{Gives}
use Rattle.whole.proofs.whole_series_by.Reads as series-call
use Rattle.whole.proofs.whole_series_by.Kinds as series-kinds
use Rattle.whole.proofs.whole_picture_by.Reads as picture-call
use Rattle.whole.proofs.whole_picture_by.Kinds as picture-kinds
use Rattle.whole.proofs.whole_series.Reads as series-default
use Rattle.whole.proofs.whole_series.Kinds as series-default-kinds
use Rattle.whole.proofs.whole_picture.Reads as picture-default
use Rattle.whole.proofs.whole_picture.Kinds as picture-default-kinds
use Rattle.promises.specs.Smoothings.{Exactly}
use Rattle.promises.specs.Outputs.{Output, each, output_cell, output_small, output_series, output_picture, converted_series, converted_picture, series_inputs, picture_inputs, output_same}

-- ---- calls
pub record SeriesCall : Type 1 where
  pub lifetimes : Lfts 2
  pub given : Dens lifetimes series-kinds.ps
  pub answered : (res_t series-kinds.r lifetimes).Denot
  pub left : AtExit (ended_of 2 series-kinds.ps series-kinds.r) lifetimes
  pub learnt : series-call.Learnt lifetimes given answered left

pub record SeriesDefault : Type 1 where
  pub lifetimes : Lfts 2
  pub given : Dens lifetimes series-default-kinds.ps
  pub answered : (res_t series-default-kinds.r lifetimes).Denot
  pub left : AtExit (ended_of 2 series-default-kinds.ps series-default-kinds.r) lifetimes
  pub learnt : series-default.Learnt lifetimes given answered left

pub record PictureCall : Type 1 where
  pub lifetimes : Lfts 2
  pub given : Dens lifetimes picture-kinds.ps
  pub answered : (res_t picture-kinds.r lifetimes).Denot
  pub left : AtExit (ended_of 2 picture-kinds.ps picture-kinds.r) lifetimes
  pub learnt : picture-call.Learnt lifetimes given answered left

pub record PictureDefault : Type 1 where
  pub lifetimes : Lfts 2
  pub given : Dens lifetimes picture-default-kinds.ps
  pub answered : (res_t picture-default-kinds.r lifetimes).Denot
  pub left : AtExit (ended_of 2 picture-default-kinds.ps picture-default-kinds.r) lifetimes
  pub learnt : picture-default.Learnt lifetimes given answered left

-- ---- what was given, answered and left
pub record WholeSeries : Type 0 where
  pub plan : Plan
  pub bound : ℕ
  pub mode : ℕ
  pub results : List ℤ
  pub cells : List ℤ
  pub answered : Result ⊤ Refusal
  pub left : List ℤ
  pub gives : Gives (whole_series_by (stages_of plan) bound mode results cells) (answer_of answered) left

pub record WholePicture : Type 0 where
  pub across : Plan
  pub down : Plan
  pub bound : ℕ
  pub width : ℕ
  pub height : ℕ
  pub mode : ℕ
  pub results : List ℤ
  pub cells : List ℤ
  pub answered : Result ⊤ Refusal
  pub left : List ℤ
  pub gives : Gives (whole_picture_by (stages_of across) (stages_of down) bound width height mode results cells) (answer_of answered) left

abbrev pub series_in_mode : SeriesCall → WholeSeries
series_in_mode c = record {
  plan = c.given.0;
  bound = c.given.1.0;
  mode = c.given.1.1.0;
  results = c.given.1.1.1.0.now;
  cells = c.given.1.1.1.1.0.now;
  answered = c.answered;
  left = c.left.1.1.1.1.0.now;
  gives = c.learnt;
}

abbrev pub series_by_default : SeriesDefault → WholeSeries
series_by_default c = record {
  plan = c.given.0;
  bound = c.given.1.0;
  mode = 0;
  results = c.given.1.1.0.now;
  cells = c.given.1.1.1.0.now;
  answered = c.answered;
  left = c.left.1.1.1.0.now;
  gives = c.learnt;
}

abbrev pub picture_in_mode : PictureCall → WholePicture
picture_in_mode c = record {
  across = c.given.0.across;
  down = c.given.0.down;
  bound = c.given.0.bound;
  width = c.given.0.width;
  height = c.given.0.height;
  mode = c.given.1.0;
  results = c.given.1.1.0.now;
  cells = c.given.1.1.1.0.now;
  answered = c.answered;
  left = c.left.1.1.1.0.now;
  gives = c.learnt;
}

abbrev pub picture_by_default : PictureDefault → WholePicture
picture_by_default c = record {
  across = c.given.0.across;
  down = c.given.0.down;
  bound = c.given.0.bound;
  width = c.given.0.width;
  height = c.given.0.height;
  mode = 0;
  results = c.given.1.0.now;
  cells = c.given.1.1.0.now;
  answered = c.answered;
  left = c.left.1.1.0.now;
  gives = c.learnt;
}

abbrev pub of_series : (w : WholeSeries) → Output (each (rounded w.mode))
of_series w = converted_series (mode_rows w.mode) (mode_own w.mode) (rounded w.mode) w.bound w.results w.cells (stages_of w.plan) w.gives

abbrev pub of_picture : (w : WholePicture) → Output (each (rounded w.mode))
of_picture w = converted_picture (mode_rows w.mode) (mode_own w.mode) (rounded w.mode) w.bound w.results w.cells (stages_of w.across) (stages_of w.down) w.width w.height w.gives

-- ---- its cells
module _ (mode : ℕ) (o : Output (each (rounded mode))) (e : o.answer.number ≡ 0) {i : ℕ} (l : i < length o.results) where
  abbrev D : ℤ
  D = pos o.shape.divisor

  abbrev result : ℤ
  result = at o.results i

  abbrev cell : ℤ
  cell = at o.left i

  cell_is : cell ≡ rounded mode result o.shape.divisor
  cell_is = output_cell o e (pos 0) l

  pub whole_nearest : (k : ℤ) → nat_abs (result -ℤ D *ℤ cell) ≤ nat_abs (result -ℤ D *ℤ k)
  whole_nearest k = rw cell_is (rounded_nearest _ (o.divides e) result mode k)

  pub whole_even : mode ≡ 0 → (k : ℤ) → nat_abs (result -ℤ D *ℤ k) ≡ nat_abs (result -ℤ D *ℤ cell) → k ≢ cell → (h : ℤ) × (cell ≡ pos 2 *ℤ h)
  whole_even m k h n =
      let is : cell ≡ nearest_even result o.shape.divisor = cell_is ∙ ap (λ n. rounded n result o.shape.divisor) m in
      rw is (even_twice _ (nearest_even_half _ (o.divides e) result k (rw is at h) (λ i. n (i ∙ sym is))))

  upward : mode ≡ 1 → cell ≡ nearest result o.shape.divisor
  upward m = cell_is ∙ ap (λ n. rounded n result o.shape.divisor) m

  pub whole_half : mode ≡ 1 → (k : ℤ) → nat_abs (result -ℤ D *ℤ k) ≡ nat_abs (result -ℤ D *ℤ cell) → k ≤ℤ cell
  whole_half m k h = let is = upward m in rw is (nearest_half _ (o.divides e) result k (rw is at h))

  pub whole_size : nat_abs cell ≤ o.bound
  whole_size = rw cell_is (rounded_size _ (o.divides e) result mode o.bound ((output_small o e).1 i l))

-- ---- its bounds
allowed_mode : (mode : ℕ) {A B : Type 0} → Exactly A (B × Off (mode_rows mode)) → Exactly A (B × (mode ≤ max_mode))
allowed_mode mode h = (λ a. let (b, o) = h.0 a in (b, mode_off mode o), λ b. h.1 (b.0, off_mode mode b.1))

pub whole_series_allowed : (w : WholeSeries) → Exactly ((answer_of w.answered).number ≡ 0) (AllowedSeriesOut (stages_of w.plan) w.bound w.results (length w.cells) × (w.mode ≤ max_mode))
whole_series_allowed w = allowed_mode w.mode (output_series _ _ _ _ (mode_own w.mode) (stages_of w.plan) (of_series w).answers)

pub whole_picture_allowed : (w : WholePicture) → Exactly ((answer_of w.answered).number ≡ 0) (AllowedPictureOut (stages_of w.across) (stages_of w.down) w.bound w.width w.height w.results (length w.cells) × (w.mode ≤ max_mode))
whole_picture_allowed w = allowed_mode w.mode (output_picture _ _ _ _ (mode_own w.mode) (stages_of w.across) (stages_of w.down) w.width w.height (of_picture w).answers)

pub whole_series_21 : (w : WholeSeries) → Exactly ((answer_of w.answered).number ≡ 21) (AllowedSeriesOut (stages_of w.plan) w.bound w.results (length w.cells) × (max_mode < w.mode))
whole_series_21 w = (
  λ e. let (z, l) = mode_refused _ _ _ _ w.mode (of_series w).answers e in (series_out_allowed _ _ _ _ z, l),
  λ ok. refused_mode _ _ _ _ w.mode (of_series w).answers (ap (λ (x : meant.Answer). x.number) (allowed_series_out _ _ _ _ ok.0)) ok.1,
)

pub whole_picture_21 : (w : WholePicture) → Exactly ((answer_of w.answered).number ≡ 21) (AllowedPictureOut (stages_of w.across) (stages_of w.down) w.bound w.width w.height w.results (length w.cells) × (max_mode < w.mode))
whole_picture_21 w = (
  λ e. let (z, l) = mode_refused _ _ _ _ w.mode (of_picture w).answers e in (picture_out_allowed _ _ _ _ _ _ _ z, l),
  λ ok. refused_mode _ _ _ _ w.mode (of_picture w).answers (ap (λ (x : meant.Answer). x.number) (allowed_picture_out _ _ _ _ _ _ _ ok.0)) ok.1,
)

-- ---- mode 1
-- row 21 is off
old_outcome : (s : Shape) (M : ℕ) (r cells : List ℤ) {m : ℕ} → m ≡ 1 → converted (mode_rows m) (rounded m) s M r cells ≡ converted [] nearest s M r cells
unfolding converted mode_rows first_of output_rows plan_rows size_rows
old_outcome s M r cells e = rw e refl

pub whole_series_old : (w : WholeSeries) → w.mode ≡ 1 → Gives (converted [] nearest (series_of (stages_of w.plan) (length w.results)) w.bound w.results w.cells) (answer_of w.answered) w.left
whole_series_old w m = subst (λ (o : Converted ℤ). Gives o (answer_of w.answered) w.left) (old_outcome (series_of (stages_of w.plan) (length w.results)) w.bound w.results w.cells m) w.gives

pub whole_picture_old : (w : WholePicture) → w.mode ≡ 1 → Gives (converted [] nearest (picture_of (stages_of w.across) (stages_of w.down) w.width w.height) w.bound w.results w.cells) (answer_of w.answered) w.left
whole_picture_old w m = subst (λ (o : Converted ℤ). Gives o (answer_of w.answered) w.left) (old_outcome (picture_of (stages_of w.across) (stages_of w.down) w.width w.height) w.bound w.results w.cells m) w.gives

-- ---- two calls
pub record SameSeries (v w : WholeSeries) : Type 0 where
  pub plan : v.plan ≡ w.plan
  pub bound : v.bound ≡ w.bound
  pub mode : v.mode ≡ w.mode
  pub results : v.results ≡ w.results
  pub cells : v.cells ≡ w.cells

pub record SamePicture (v w : WholePicture) : Type 0 where
  pub across : v.across ≡ w.across
  pub down : v.down ≡ w.down
  pub bound : v.bound ≡ w.bound
  pub width : v.width ≡ w.width
  pub height : v.height ≡ w.height
  pub mode : v.mode ≡ w.mode
  pub results : v.results ≡ w.results
  pub cells : v.cells ≡ w.cells

series_same : {v w : WholeSeries} → SameSeries v w → (v.answered ≡ w.answered) × (v.left ≡ w.left)
series_same {v} {w} h = output_same (series_inputs (ap mode_rows h.mode) (ap rounded h.mode) h.plan h.bound h.results h.cells) v.gives w.gives

picture_same : {v w : WholePicture} → SamePicture v w → (v.answered ≡ w.answered) × (v.left ≡ w.left)
picture_same {v} {w} h = output_same (picture_inputs (ap mode_rows h.mode) (ap rounded h.mode) h.across h.down h.bound h.width h.height h.results h.cells) v.gives w.gives

pub whole_series_by_one : (c d : SeriesCall) → SameSeries (series_in_mode c) (series_in_mode d) → (c.answered ≡ d.answered) × ((series_in_mode c).left ≡ (series_in_mode d).left)
whole_series_by_one c d h = series_same h

pub whole_series_one : (c d : SeriesDefault) → SameSeries (series_by_default c) (series_by_default d) → (c.answered ≡ d.answered) × ((series_by_default c).left ≡ (series_by_default d).left)
whole_series_one c d h = series_same h

pub whole_series_default : (c : SeriesDefault) (d : SeriesCall) → SameSeries (series_by_default c) (series_in_mode d) → (c.answered ≡ d.answered) × ((series_by_default c).left ≡ (series_in_mode d).left)
whole_series_default c d h = series_same h

pub whole_picture_by_one : (c d : PictureCall) → SamePicture (picture_in_mode c) (picture_in_mode d) → (c.answered ≡ d.answered) × ((picture_in_mode c).left ≡ (picture_in_mode d).left)
whole_picture_by_one c d h = picture_same h

pub whole_picture_one : (c d : PictureDefault) → SamePicture (picture_by_default c) (picture_by_default d) → (c.answered ≡ d.answered) × ((picture_by_default c).left ≡ (picture_by_default d).left)
whole_picture_one c d h = picture_same h

pub whole_picture_default : (c : PictureDefault) (d : PictureCall) → SamePicture (picture_by_default c) (picture_in_mode d) → (c.answered ≡ d.answered) × ((picture_by_default c).left ≡ (picture_in_mode d).left)
whole_picture_default c d h = picture_same h
