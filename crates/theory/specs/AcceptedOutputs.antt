-- The rows of an output, of any shape: which positions they answer; the results of a series and of a picture are put out exactly where their bounds hold.
--   Lent s M r n   what rows 8 and 12 ask: results r and n cells as many as the shape has, and no result above M times the divisor
-- Laws: output_rising, output_numbered; output_lent (rows 1 to 8, and what is lent), output_bounds (the bound, and its product with the divisor); output_position (at 12), output_below, output_no_position (else);
-- series_out_allowed, allowed_series_out, series_out_divisor; picture_out_allowed, allowed_picture_out, picture_out_divisor (the divisor is not 0), picture_out_some (there are results);
-- series_smoothed_out, picture_smoothed_out (what a smoothing that is done leaves can be put out).
use Rattle.std.specs.Prelude.{◌≡◌, refl, Bool, false, ◌||◌, List, ℕ, ◌*◌, ◌≤◌, ◌<◌, length, ℤ, nat_abs}
use Rattle.std.proofs.Common.{sym, ◌∙◌, arith}
use Rattle.std.proofs.Math.Nat.{one-le-mul}
use borrow.Author.Tests.{ltb-false, le-ltb}
use Rattle.meaning.specs.Limits.{least, max_bound, max_result}
use Rattle.meaning.specs.Extension.{at, IndexMap}
use Rattle.meaning.specs.Kernel.{Stage, divisor}
use Rattle.meaning.specs.Smoothing.{results}
use Rattle.meaning.specs.Picture.{picture}
use Rattle.meaning.specs.Refusals.{Answer, Row, first_of, row_at, differs, above, Shape, series_of, picture_of, plan_rows, size_rows, common_rows}
use Rattle.meaning.specs.Values.{output_rows}
use Rattle.meaning.specs.Bounds.{AllowedSeries, AllowedPicture, AllowedSeriesOut, AllowedPictureOut, FirstAt}
use Rattle.theory.specs.Lists.{sized}
use Rattle.theory.specs.Passes.{length_results}
use Rattle.theory.specs.Sizes.{results_size}
use Rattle.theory.specs.Picture.{length_picture, picture_size}
use Rattle.theory.specs.Refusals.{done, Off, Numbered, Rising, Unplaced, done_off, off_done}
use Rattle.theory.specs.ShapeRows.{shape_bounds, shape_off, off_shape, shape_position, shape_below, shape_no_position}
use Rattle.theory.specs.Tests.{or_no, no_or, differs_no, no_differs}
use Rattle.theory.specs.Accepted.{length_allowed, allowed_length, sides_allowed, allowed_sides, divisor_allowed}

pub record Lent (s : Shape) (M : ℕ) (r : List ℤ) (n : ℕ) : Type 0 where
  pub count : length r ≡ s.cells
  pub cells : n ≡ s.cells
  pub results : (i : ℕ) → i < length r → nat_abs (at r i) ≤ M * s.divisor

module _ (s : Shape) (M : ℕ) (r : List ℤ) (n : ℕ) where
  abbrev wrong : Bool
  wrong = differs (length r) s.cells || differs n s.cells

  abbrev common : List Row
  common = common_rows s M wrong

  abbrev large : ℕ → Bool
  large i = above (M * s.divisor) (at r i)

  abbrev rows : List Row
  rows = output_rows s M r n

  pub output_rising : Rising rows
  unfolding output_rows plan_rows size_rows row_at
  output_rising = tt

  pub output_numbered : Numbered rows
  unfolding output_rows plan_rows size_rows row_at
  output_numbered = tt

  common_unplaced : Unplaced 12 common
  unfolding plan_rows size_rows
  common_unplaced = tt

  pub output_lent : (first_of rows).number ≡ 0 → Off (common_rows s M false) × Lent s M r n
  unfolding output_rows
  output_lent e =
      let (h, w, t) = shape_off s M wrong 12 (length r) large (done_off rows output_numbered e) in
      let (a, b) = or_no (differs (length r) s.cells) (differs n s.cells) w in
      (h, record { count = differs_no _ _ a; cells = differs_no _ _ b; results = λ i l. ltb-false _ _ (t i l) })

  pub output_bounds : (first_of rows).number ≡ 0 → ((least ≤ M) × (M ≤ max_bound)) × (M * s.divisor ≤ max_result)
  output_bounds e = shape_bounds s M false (output_lent e).0

  lent_output : Off (common_rows s M false) → Lent s M r n → first_of rows ≡ done
  unfolding output_rows
  lent_output h ok =
      off_done rows (off_shape s M wrong 12 (length r) large h (no_or (no_differs ok.count) (no_differs ok.cells)) (λ i l. le-ltb _ _ (ok.results i l)))

  module _ {x : Answer} (e : x ≡ first_of rows) where
    pub output_position : x.number ≡ 12 → FirstAt (length r) (λ i. M * s.divisor < nat_abs (at r i)) x.position
    unfolding output_rows
    output_position h = shape_position s M wrong 12 common_unplaced (omega arith) (M * s.divisor) r e h

    pub output_below : (x.number ≡ 12 → ⊥) → x.number < 12
    unfolding output_rows
    output_below h = shape_below s M wrong 12 common_unplaced (omega arith) (M * s.divisor) r e h

    pub output_no_position : (x.number ≡ 12 → ⊥) → x.position ≡ 0
    unfolding output_rows
    output_no_position h = shape_no_position s M wrong 12 common_unplaced (omega arith) (M * s.divisor) r e h

-- ---- a series
module _ (ss : List Stage) (M : ℕ) (r : List ℤ) (n : ℕ) where
  pub series_out_allowed : (first_of (output_rows (series_of ss (length r)) M r n)).number ≡ 0 → AllowedSeriesOut ss M r n
  series_out_allowed e =
      let (h, l) = output_lent (series_of ss (length r)) M r n e in
      record { common = (length_allowed ss M (length r) h).0; cells = l.cells; results = l.results }

  pub allowed_series_out : AllowedSeriesOut ss M r n → first_of (output_rows (series_of ss (length r)) M r n) ≡ done
  allowed_series_out ok = lent_output (series_of ss (length r)) M r n (allowed_length ss M (length r) ok.common refl) (record { count = refl; cells = ok.cells; results = ok.results })

  pub series_out_divisor : AllowedSeriesOut ss M r n → 0 < divisor ss
  series_out_divisor ok = divisor_allowed ss ok.common.plan.stages

-- ---- a picture
module _ (hs vs : List Stage) (M W H : ℕ) (r : List ℤ) (n : ℕ) where
  pub picture_out_allowed : (first_of (output_rows (picture_of hs vs W H) M r n)).number ≡ 0 → AllowedPictureOut hs vs M W H r n
  picture_out_allowed e =
      let (h, l) = output_lent (picture_of hs vs W H) M r n e in
      record { common = (sides_allowed hs vs M W H h).0; count = l.count; cells = l.cells; results = l.results }

  pub allowed_picture_out : AllowedPictureOut hs vs M W H r n → first_of (output_rows (picture_of hs vs W H) M r n) ≡ done
  allowed_picture_out ok = lent_output (picture_of hs vs W H) M r n (allowed_sides hs vs M W H ok.common refl) (record { count = ok.count; cells = ok.cells; results = ok.results })

  pub picture_out_divisor : AllowedPictureOut hs vs M W H r n → 0 < divisor hs * divisor vs
  picture_out_divisor ok = one-le-mul (divisor_allowed hs ok.common.across.stages) (divisor_allowed vs ok.common.down.stages)

  pub picture_out_some : AllowedPictureOut hs vs M W H r n → 0 < length r
  picture_out_some ok = rw ok.count (one-le-mul ok.common.width.0 ok.common.height.0)

-- ---- what a smoothing leaves
pub series_smoothed_out : (φ : IndexMap) (ss : List Stage) {M : ℕ} {f : List ℤ} {nr nw n : ℕ} → AllowedSeries ss M f nr nw → n ≡ length f → AllowedSeriesOut ss M (results φ ss f) n
series_smoothed_out φ ss {M} {f} ok e = record {
  common = rw (length_results φ ss f) ok.common;
  cells = e ∙ sym (length_results φ ss f);
  results = λ i l. ((results_size φ (sized f (λ i l. record { bound = ok.samples i l })) ss).size i).bound;
}

pub picture_smoothed_out : (φ ψ : IndexMap) (hs vs : List Stage) {M W H : ℕ} {f : List ℤ} {nr nw n : ℕ} → AllowedPicture hs vs M W H f nr nw → n ≡ W * H → AllowedPictureOut hs vs M W H (picture φ ψ hs vs W H f) n
picture_smoothed_out φ ψ hs vs {M} {W} {H} {f} ok e = record {
  common = ok.common;
  count = length_picture φ ψ hs vs W H f;
  cells = e;
  results = λ i l. ((picture_size φ ψ hs vs W H (sized f (λ i l. record { bound = ok.samples i l }))).size i).bound;
}
