-- The rows of doubles in: which positions they answer; doubles are taken in exactly where their bounds hold.
--   lent_rows M N n   rows 5, 7 and 8, of N doubles and n samples
-- Laws: size_lent (rows 5 to 8 of a product of 0 are these), lent_numbered, lent_bound (where none of them applies, the bound is allowed);
-- double_rising, double_numbered; doubles_allowed, allowed_doubles; double_position (at 11), double_no_position (else), double_bad (how many doubles are bad).
use Rattle.std.specs.Prelude.{◌≡◌, Bool, true, ℕ, ◌≤◌, ◌<◌, length, get_or, Float}
use Rattle.std.proofs.Math.Path.{refl, ap}
use Rattle.std.proofs.Common.{sym, ◌∙◌, true≢false, arith}
use Rattle.std.proofs.Math.Bool.{not}
use mathlib.Core.List.{List, [], ◌∷◌}
use mathlib.Mathlib.Data.Bool.Basic.{eq-false_of_not-eq-true}
use Rattle.std.specs.Float.{nan}
use Rattle.std.proofs.lemmas.Bool.{not-true, not-false}
use Rattle.meaning.specs.Limits.{least, max_bound, max_length}
use Rattle.meaning.specs.Refusals.{Answer, Row, ◌when◌, first_of, row_at, outside, differs, size_rows}
use Rattle.meaning.specs.Values.{takes, double_rows}
use Rattle.meaning.specs.Bounds.{WholeDouble, AllowedDoubles, FirstAt, Counted}
use Rattle.theory.specs.Refusals.{done, Numbered, Rising, done_off, off_done, off_append, append_off}
use Rattle.theory.specs.BadSamples.{none_behind, bad_counted}
use Rattle.theory.specs.Places.{row_at_off, row_at_none, place_here, place_other, first_map}
use Rattle.theory.specs.Tests.{outside_no, no_outside, differs_no, no_differs}
use Rattle.theory.specs.Doubles.{takes_whole, whole_takes}

abbrev pub lent_rows : ℕ → ℕ → ℕ → List Row
lent_rows M N n = (5 when outside least max_bound M) ∷ (7 when outside least max_length N) ∷ (8 when differs n N) ∷ []

module _ (M N n : ℕ) where
  pub size_lent : first_of (size_rows M 0 (outside least max_length N) (differs n N)) ≡ first_of (lent_rows M N n)
  unfolding size_rows first_of
  size_lent = refl

  pub lent_numbered : Numbered (lent_rows M N n)
  lent_numbered = tt

  pub lent_bound : (first_of (lent_rows M N n)).number ≡ 0 → M ≤ max_bound
  lent_bound e = (outside_no least max_bound M (done_off (lent_rows M N n) lent_numbered e).0).1

module _ (M : ℕ) (xs : List Float) (n : ℕ) where
  abbrev rows : List Row
  rows = double_rows M xs n

  abbrev lent : List Row
  lent = lent_rows M (length xs) n

  abbrev untaken : ℕ → Bool
  untaken i = not (takes M (get_or xs i nan))

  pub double_rising : Rising rows
  unfolding double_rows row_at
  double_rising = tt

  pub double_numbered : Numbered rows
  unfolding double_rows row_at
  double_numbered = tt

  pub doubles_allowed : (first_of rows).number ≡ 0 → AllowedDoubles M xs n
  unfolding double_rows
  doubles_allowed e =
      let ((b, (c, (s, t))), u) = append_off lent (row_at 11 (length xs) untaken ∷ []) (done_off rows double_numbered e) in
      record {
        bound = outside_no least max_bound M b;
        count = outside_no least max_length (length xs) c;
        samples = differs_no n (length xs) s;
        doubles = λ i l. takes_whole M _ (not-false _ (row_at_none 11 (length xs) untaken u.0 i l));
      }

  pub allowed_doubles : AllowedDoubles M xs n → first_of rows ≡ done
  unfolding double_rows
  allowed_doubles ok =
      off_done rows (off_append lent (row_at 11 (length xs) untaken ∷ [])
      (no_outside ok.bound.0 ok.bound.1, (no_outside ok.count.0 ok.count.1, (no_differs ok.samples, tt)))
      (row_at_off 11 (length xs) (λ i l. ap not (whole_takes _ (ok.doubles i l))), tt))

  -- the test by what it tests
  not_whole : (i : ℕ) → i < length xs → untaken i ≡ true → WholeDouble M (get_or xs i nan) → ⊥
  not_whole i l k w = true≢false (sym (whole_takes _ w) ∙ not-true _ k)

  whole_not : (i : ℕ) → i < length xs → (WholeDouble M (get_or xs i nan) → ⊥) → untaken i ≡ true
  whole_not i l k = ap not (eq-false_of_not-eq-true (λ t. k (takes_whole M _ t)))

  module _ {x : Answer} (e : x ≡ first_of rows) where
    pub double_position : x.number ≡ 11 → FirstAt (length xs) (λ i. WholeDouble M (get_or xs i nan) → ⊥) x.position
    unfolding double_rows
    double_position h = first_map not_whole whole_not (place_here 11 (length xs) lent tt untaken (omega arith) e h).first

    pub double_no_position : (x.number ≡ 11 → ⊥) → x.position ≡ 0
    unfolding double_rows
    double_no_position h = (place_other 11 (length xs) lent tt untaken (omega arith) e h).1

    pub double_bad : Counted (λ i. WholeDouble M (get_or xs i nan) → ⊥) (length xs) rows x
    unfolding double_rows
    double_bad = bad_counted lent [] tt (length xs) untaken not_whole whole_not e none_behind double_rising double_numbered
