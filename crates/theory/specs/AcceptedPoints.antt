-- The rows of a point: it is done exactly where its bounds hold, and which positions it answers. Its answer and value depend only on samples within reach.
-- Laws: point_rising, point_numbered; point_allowed, allowed_point; point_position (at 11), point_no_position (else), point_bad (how many samples within reach are bad); point_local.
use Rattle.std.specs.Prelude.{◌≡◌, true, ◌&&◌, List, [], ◌∷◌, ◌++◌, ℕ, ◌≤◌, ◌<◌, ℤ, pos, nat_abs}
use Rattle.std.proofs.Math.Path.{refl, ap}
use Rattle.std.proofs.Common.{◌∙◌, arith, ltb-true, lt-ltb}
use Rattle.std.proofs.Math.ListN.{length}
use Rattle.meaning.specs.Extension.{at, IndexMap}
use Rattle.meaning.specs.Kernel.{Stage, reach, divisor}
use Rattle.meaning.specs.Smoothing.{result, apart, near}
use Rattle.meaning.specs.Refusals.{Answer, Row, first_of, row_at, differs, above, plan_rows, size_rows}
use Rattle.meaning.specs.Values.{ratio, plus_zero}
use Rattle.meaning.specs.Calls.{sample_row, edit_room, point_rows, point}
use Rattle.meaning.specs.Bounds.{AllowedPoint, FirstAt, Counted}
use Rattle.theory.specs.Folding.{Nearness}
use Rattle.theory.specs.Local.{near_yes, near_true, result_local}
use Rattle.theory.specs.Refusals.{done, Numbered, Rising, Unplaced, done_off, off_done, off_append, append_off, if_done_ext}
use Rattle.theory.specs.BadSamples.{sample_off, off_sample, none_behind, bad_counted}
use Rattle.theory.specs.Places.{row_at_ext, place_here, place_other, first_map}
use Rattle.theory.specs.Tests.{and_yes, yes_and, and_when, differs_no, no_differs}
use Rattle.theory.specs.Placed.{placed_rows, off_placed, placed_off}

module _ (ss : List Stage) (M n : ℕ) (f : List ℤ) (nw : ℕ) where
  abbrev front : List Row
  front = placed_rows ss M (length f) (differs nw (edit_room ss (length f))) n

  abbrev rows : List Row
  rows = point_rows ss M n f nw

  pub point_rising : Rising rows
  unfolding point_rows plan_rows size_rows row_at
  point_rising = tt

  pub point_numbered : Numbered rows
  unfolding point_rows plan_rows size_rows row_at
  point_numbered = tt

  front_unplaced : Unplaced 11 front
  unfolding plan_rows size_rows
  front_unplaced = tt

  parts : rows ≡ front ++ sample_row M f (λ i. near ss i n) ∷ []
  unfolding point_rows plan_rows size_rows
  parts = refl

  pub point_allowed : (first_of rows).number ≡ 0 → AllowedPoint ss M n f nw
  point_allowed e =
      let (h, t) = append_off front _ (rw parts at (done_off rows point_numbered e)) in
      let (ok, w, l) = off_placed ss M (length f) _ n h in
      record {
        common = ok;
        work = differs_no _ _ w;
        position = l;
        samples = λ i l k. off_sample M f (λ i. near ss i n) t.0 i l (near_yes ss i n k);
      }

  pub allowed_point : AllowedPoint ss M n f nw → first_of rows ≡ done
  allowed_point ok =
      let samples = sample_off M f (λ i. near ss i n) (λ i l t. ok.samples i l (near_true ss i n t)) in
      rw parts (off_done _ (off_append front _ (placed_off ss M (length f) _ n ok.common (no_differs ok.work) ok.position) (samples, tt)))

  -- the test by what it tests
  abbrev Bad : ℕ → Type 0
  Bad i = (apart i n ≤ reach ss) × (M < nat_abs (at f i))

  to_bad : (i : ℕ) → i < length f → (near ss i n && above M (at f i)) ≡ true → Bad i
  to_bad i l k = let (a, b) = and_yes (near ss i n) (above M (at f i)) k in (near_true ss i n a, ltb-true _ _ b)

  of_bad : (i : ℕ) → i < length f → Bad i → (near ss i n && above M (at f i)) ≡ true
  of_bad i l k = yes_and (near_yes ss i n k.0) (lt-ltb _ _ k.1)

  module _ {x : Answer} (e : x ≡ first_of rows) where
    pub point_position : x.number ≡ 11 → FirstAt (length f) (λ i. (apart i n ≤ reach ss) × (M < nat_abs (at f i))) x.position
    point_position h = first_map to_bad of_bad (place_here 11 (length f) front front_unplaced _ (omega arith) (e ∙ ap first_of parts) h).first

    pub point_no_position : (x.number ≡ 11 → ⊥) → x.position ≡ 0
    point_no_position h = (place_other 11 (length f) front front_unplaced _ (omega arith) (e ∙ ap first_of parts) h).1

    pub point_bad : Counted (λ i. (apart i n ≤ reach ss) × (M < nat_abs (at f i))) (length f) rows x
    point_bad = rw parts (bad_counted front [] front_unplaced (length f) _ to_bad of_bad (e ∙ ap first_of parts) none_behind (rw parts at point_rising) (rw parts at point_numbered))

-- ---- samples within reach
module _ (ss : List Stage) (M n : ℕ) (f g : List ℤ) (e : length f ≡ length g) (k : (i : ℕ) → i < length f → apart i n ≤ reach ss → at f i ≡ at g i) where
  point_rows_local : (nw : ℕ) → point_rows ss M n f nw ≡ point_rows ss M n g nw
  unfolding point_rows
  point_rows_local nw = rw (← e, row_at_ext 11 (length f) {t = λ i. near ss i n && above M (at f i)} {u = λ i. near ss i n && above M (at g i)} (λ i l. and_when (near ss i n) (λ t. rw (k i l (near_true ss i n t)))))

  pub point_local : {φ : IndexMap} → Nearness φ → (w x : List ℤ) → length w ≡ length x → ((point φ ss M n f w).answer ≡ (point φ ss M n g x).answer) × ((point φ ss M n f w).value ≡ (point φ ss M n g x).value)
  unfolding point
  point_local {φ} C w x h = rw (point_rows_local (length w) ∙ ap (point_rows ss M n g) h) (refl, if_done_ext _ plus_zero (λ z. ap (λ y. ratio y (divisor ss)) (same (rw e (point_allowed ss M n g (length x) z).position))))
    where
      same : n < length f → result φ ss f (pos n) ≡ result φ ss g (pos n)
      same l = result_local C ss f g e l (λ p m q. k p m (omega arith))
