-- Doubles out: `doubles::doubles_series` and `doubles::doubles_picture` by their own contracts, for all inputs.
--   SeriesCall, PictureCall   any call, as its contract lets it end
--   plan; across, down, width, height   the plan of the one; plans and sides of the other
--   of_series c, of_picture c   all that it was given, answered and left, as an Output: what Outputs says holds of both
--   doubles_divided    where it is done, each cell is the single division of the result by the divisor, both as doubles
--   doubles_exact      and these are the result and the divisor, with nothing lost
--   doubles_zero       of a result 0 the cell is plus zero
--   doubles_series_allowed, doubles_picture_allowed   it is done exactly where the bounds hold
--   doubles_series_one, doubles_picture_one   two outcomes that the contract allows are the same
use Rattle.std.specs.Prelude.{ℕ, ◌<◌, ◌≡◌, refl, false, [], length, get_or, ℤ, pos, nat_abs, Float}
use Rattle.std.proofs.Common.{ap, ◌∙◌, le_trans}
use Rattle.std.specs.Int.Signed.{lt_z}
use Rattle.std.specs.Float.{nan, binary64}
use Rattle.std.specs.Float.Ieee.{of_int, div}
use Rattle.std.specs.Float.Ieee.Exact.{HasValue}
use contract.Lifetimes.{Lfts}
use denote.Triple.Clauses.{AtExit}
use borrow.Fn.Kinds.{Dens, res_t, ended_of}
use Rattle.meaning.specs.Extension.{at}
use Rattle.meaning.specs.Values.{ratio, plus_zero}
use Rattle.meaning.specs.Bounds.{AllowedSeriesOut, AllowedPictureOut}
use Rattle.theory.specs.Values.{whole_exact, count_exact, ratio_zero}
use Rattle.theory.specs.OwnRows.{none_own}
use Rattle.plan.specs.declared.Plan.{Plan}
use Rattle.plan.specs.Structs.{stages_of}
use Rattle.doubles.proofs.doubles_series.Reads as series-call
use Rattle.doubles.proofs.doubles_series.Kinds as series-kinds
use Rattle.doubles.proofs.doubles_picture.Reads as picture-call
use Rattle.doubles.proofs.doubles_picture.Kinds as picture-kinds
use Rattle.promises.specs.Smoothings.{Exactly}
use Rattle.promises.specs.Outputs.{Output, each, output_cell, output_small, output_divisor, output_series, output_picture, alone, converted_series, converted_picture, series_inputs, picture_inputs, output_same}

pub record SeriesCall : Type 1 where
  pub lifetimes : Lfts 2
  pub given : Dens lifetimes series-kinds.ps
  pub answered : (res_t series-kinds.r lifetimes).Denot
  pub left : AtExit (ended_of 2 series-kinds.ps series-kinds.r) lifetimes
  pub learnt : series-call.Learnt lifetimes given answered left

pub record PictureCall : Type 1 where
  pub lifetimes : Lfts 2
  pub given : Dens lifetimes picture-kinds.ps
  pub answered : (res_t picture-kinds.r lifetimes).Denot
  pub left : AtExit (ended_of 2 picture-kinds.ps picture-kinds.r) lifetimes
  pub learnt : picture-call.Learnt lifetimes given answered left

-- ---- what was given, answered and left
abbrev pub plan : SeriesCall → Plan
plan c = c.given.0

abbrev pub across : PictureCall → Plan
across c = c.given.0.across

abbrev pub down : PictureCall → Plan
down c = c.given.0.down

abbrev pub width : PictureCall → ℕ
width c = c.given.0.width

abbrev pub height : PictureCall → ℕ
height c = c.given.0.height

abbrev pub of_series : SeriesCall → Output (each ratio)
of_series c = converted_series [] none_own ratio c.given.1.0 c.given.1.1.0.now c.given.1.1.1.0.now (stages_of (plan c)) c.learnt

abbrev pub of_picture : PictureCall → Output (each ratio)
of_picture c = converted_picture [] none_own ratio c.given.0.bound c.given.1.0.now c.given.1.1.0.now (stages_of (across c)) (stages_of (down c)) (width c) (height c) c.learnt

-- ---- its cells
module _ (o : Output (each ratio)) (e : o.answer.number ≡ 0) {i : ℕ} (l : i < length o.results) where
  abbrev D : ℤ
  D = pos o.shape.divisor

  abbrev result : ℤ
  result = at o.results i

  abbrev cell : Float
  cell = get_or o.left i nan

  cell_is : cell ≡ ratio result o.shape.divisor
  cell_is = output_cell o e nan l

  pub doubles_divided : cell ≡ div binary64 (of_int binary64 result) (of_int binary64 D)
  unfolding ratio
  doubles_divided = cell_is

  pub doubles_exact : HasValue (of_int binary64 result) (lt_z result (pos 0)) (nat_abs result) 1 × HasValue (of_int binary64 D) false o.shape.divisor 1
  doubles_exact = (whole_exact result (le_trans ((output_small o e).1 i l) (output_small o e).0), count_exact o.shape.divisor (output_divisor o e))

  pub doubles_zero : result ≡ pos 0 → cell ≡ plus_zero
  doubles_zero z = cell_is ∙ ap (λ x. ratio x o.shape.divisor) z ∙ ratio_zero (o.divides e) (output_divisor o e)

-- ---- its bounds
pub doubles_series_allowed : (c : SeriesCall) → Exactly ((of_series c).answer.number ≡ 0) (AllowedSeriesOut (stages_of (plan c)) (of_series c).bound (of_series c).results (length (of_series c).cells))
doubles_series_allowed c = alone (output_series _ _ _ [] none_own (stages_of (plan c)) (of_series c).answers)

pub doubles_picture_allowed : (c : PictureCall) → Exactly ((of_picture c).answer.number ≡ 0) (AllowedPictureOut (stages_of (across c)) (stages_of (down c)) (of_picture c).bound (width c) (height c) (of_picture c).results (length (of_picture c).cells))
doubles_picture_allowed c = alone (output_picture _ _ _ [] none_own (stages_of (across c)) (stages_of (down c)) (width c) (height c) (of_picture c).answers)

-- ---- two calls
pub doubles_series_one : (c d : SeriesCall) → plan c ≡ plan d → (of_series c).bound ≡ (of_series d).bound → (of_series c).results ≡ (of_series d).results → (of_series c).cells ≡ (of_series d).cells
    → (c.answered ≡ d.answered) × ((of_series c).left ≡ (of_series d).left)
doubles_series_one c d p m r x = output_same (series_inputs refl refl p m r x) c.learnt d.learnt

pub doubles_picture_one : (c d : PictureCall) → across c ≡ across d → down c ≡ down d → (of_picture c).bound ≡ (of_picture d).bound → width c ≡ width d → height c ≡ height d
    → (of_picture c).results ≡ (of_picture d).results → (of_picture c).cells ≡ (of_picture d).cells → (c.answered ≡ d.answered) × ((of_picture c).left ≡ (of_picture d).left)
doubles_picture_one c d p q m w h r x = output_same (picture_inputs refl refl p q m w h r x) c.learnt d.learnt
