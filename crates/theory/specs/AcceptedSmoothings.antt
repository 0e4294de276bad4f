-- The rows of smoothing, of any shape: which positions they answer; a series and a picture are smoothed exactly where their bounds hold.
-- Laws: smooth_rising, smooth_numbered; smooth_position (at 11), smooth_no_position (else), smooth_bad (how many samples are bad);
-- series_allowed, allowed_series; picture_allowed, allowed_picture.
use Rattle.std.specs.Prelude.{◌≡◌, refl, Bool, false, ◌||◌, ℕ, ◌≤◌, ◌<◌, length, ℤ, nat_abs}
use mathlib.Core.List.{List, []}
use Rattle.std.proofs.Common.{arith}
use borrow.Author.Tests.{ltb-true, ltb-false, lt-ltb, le-ltb}
use Rattle.meaning.specs.Extension.{at}
use Rattle.meaning.specs.Kernel.{Stage}
use Rattle.meaning.specs.Refusals.{Answer, Row, first_of, row_at, differs, above, Shape, series_of, picture_of, plan_rows, size_rows, common_rows}
use Rattle.meaning.specs.Calls.{smooth_rows}
use Rattle.meaning.specs.Bounds.{AllowedSeries, AllowedPicture, FirstAt, Counted}
use Rattle.theory.specs.Refusals.{done, Off, Numbered, Rising, Unplaced, done_off, off_done}
use Rattle.theory.specs.BadSamples.{none_behind, bad_counted}
use Rattle.theory.specs.ShapeRows.{shape_off, off_shape, shape_position, shape_no_position}
use Rattle.theory.specs.Tests.{or_no, no_or, differs_no, no_differs}
use Rattle.theory.specs.Accepted.{length_allowed, allowed_length, sides_allowed, allowed_sides}

-- what rows 8 and 11 ask: samples, results and work as many as the shape has cells, and no sample above M
record Lent (s : Shape) (M : ℕ) (f : List ℤ) (nr nw : ℕ) : Type 0 where
  count : length f ≡ s.cells
  results : nr ≡ s.cells
  work : nw ≡ s.cells
  samples : (i : ℕ) → i < length f → nat_abs (at f i) ≤ M

module _ (s : Shape) (M : ℕ) (f : List ℤ) (nr nw : ℕ) where
  abbrev wrong : Bool
  wrong = differs (length f) s.cells || differs nr s.cells || differs nw s.cells

  abbrev common : List Row
  common = common_rows s M wrong

  abbrev large : ℕ → Bool
  large i = above M (at f i)

  abbrev rows : List Row
  rows = smooth_rows s M f nr nw

  pub smooth_rising : Rising rows
  unfolding smooth_rows plan_rows size_rows row_at
  smooth_rising = tt

  pub smooth_numbered : Numbered rows
  unfolding smooth_rows plan_rows size_rows row_at
  smooth_numbered = tt

  common_unplaced : Unplaced 11 common
  unfolding plan_rows size_rows
  common_unplaced = tt

  smooth_lent : (first_of rows).number ≡ 0 → Off (common_rows s M false) × Lent s M f nr nw
  unfolding smooth_rows
  smooth_lent e =
      let (h, w, t) = shape_off s M wrong 11 (length f) large (done_off rows smooth_numbered e) in
      let (both, c) = or_no (differs (length f) s.cells || differs nr s.cells) (differs nw s.cells) w in
      let (a, b) = or_no (differs (length f) s.cells) (differs nr s.cells) both in
      (h, record { count = differs_no _ _ a; results = differs_no _ _ b; work = differs_no _ _ c; samples = λ i l. ltb-false _ _ (t i l) })

  lent_smooth : Off (common_rows s M false) → Lent s M f nr nw → first_of rows ≡ done
  unfolding smooth_rows
  lent_smooth h ok =
      off_done rows (off_shape s M wrong 11 (length f) large h (no_or (no_or (no_differs ok.count) (no_differs ok.results)) (no_differs ok.work)) (λ i l. le-ltb _ _ (ok.samples i l)))

  module _ {x : Answer} (e : x ≡ first_of rows) where
    pub smooth_position : x.number ≡ 11 → FirstAt (length f) (λ i. M < nat_abs (at f i)) x.position
    unfolding smooth_rows
    smooth_position h = shape_position s M wrong 11 common_unplaced (omega arith) M f e h

    pub smooth_no_position : (x.number ≡ 11 → ⊥) → x.position ≡ 0
    unfolding smooth_rows
    smooth_no_position h = shape_no_position s M wrong 11 common_unplaced (omega arith) M f e h

    pub smooth_bad : Counted (λ i. M < nat_abs (at f i)) (length f) rows x
    unfolding smooth_rows
    smooth_bad = bad_counted common [] common_unplaced (length f) large (λ i l k. ltb-true _ _ k) (λ i l k. lt-ltb _ _ k) e none_behind smooth_rising smooth_numbered

-- ---- a series
module _ (ss : List Stage) (M : ℕ) (f : List ℤ) (nr nw : ℕ) where
  pub series_allowed : (first_of (smooth_rows (series_of ss (length f)) M f nr nw)).number ≡ 0 → AllowedSeries ss M f nr nw
  series_allowed e =
      let (h, l) = smooth_lent (series_of ss (length f)) M f nr nw e in
      record { common = (length_allowed ss M (length f) h).0; results = l.results; work = l.work; samples = l.samples }

  pub allowed_series : AllowedSeries ss M f nr nw → first_of (smooth_rows (series_of ss (length f)) M f nr nw) ≡ done
  allowed_series ok = lent_smooth (series_of ss (length f)) M f nr nw (allowed_length ss M (length f) ok.common refl) (record { count = refl; results = ok.results; work = ok.work; samples = ok.samples })

-- ---- a picture
module _ (hs vs : List Stage) (M W H : ℕ) (f : List ℤ) (nr nw : ℕ) where
  pub picture_allowed : (first_of (smooth_rows (picture_of hs vs W H) M f nr nw)).number ≡ 0 → AllowedPicture hs vs M W H f nr nw
  picture_allowed e =
      let (h, l) = smooth_lent (picture_of hs vs W H) M f nr nw e in
      record { common = (sides_allowed hs vs M W H h).0; count = l.count; results = l.results; work = l.work; samples = l.samples }

  pub allowed_picture : AllowedPicture hs vs M W H f nr nw → first_of (smooth_rows (picture_of hs vs W H) M f nr nw) ≡ done
  allowed_picture ok = lent_smooth (picture_of hs vs W H) M f nr nw (allowed_sides hs vs M W H ok.common refl) (record { count = ok.count; results = ok.results; work = ok.work; samples = ok.samples })
