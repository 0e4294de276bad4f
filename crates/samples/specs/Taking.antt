-- The steps of doubles in, each over plain lists.
--   Takable xs n   every double of xs is accepted under the largest bound, and there are n samples for them
-- Laws: test_refused, test_bound, test_rest (the rows in two parts, as code tests them); takable (what a test that passes leaves); take_refused, take_done (the two ends of the call).
use Rattle.std.specs.Prelude.{◌≡◌, ℕ, ◌<◌, ◌≤◌, Bool, true, not, List, [], ◌∷◌, map, length, ℤ, slice_index_or, refl, Float}
use Rattle.std.proofs.Math.Path.{sym}
use Rattle.std.proofs.Common.{◌∙◌, le_trans}
use Rattle.std.specs.Float.{nan}
use Rattle.std.specs.Float.Ieee.{to_signed}
use Rattle.meaning.specs.Limits.{least, max_bound, max_length}
use Rattle.meaning.specs.Refusals.{Answer, first_of, row_at, outside, differs, size_rows}
use Rattle.meaning.specs.Values.{takes, double_rows, doubles_in}
use Rattle.theory.specs.Refusals.{number_zero, if_done_done, if_done_refused}
use Rattle.theory.specs.Doubles.{whole_takes}
use Rattle.theory.specs.AcceptedDoubles.{lent_rows, size_lent, lent_numbered, lent_bound, doubles_allowed}
use Rattle.plan.specs.declared.Refusal.{Refusal}
use Rattle.plan.specs.Structs.{plain, refused, refused_number}
use Rattle.plan.specs.Rows.{rows_here, rows_next}
use Rattle.plan.specs.Contract.{Gives}

pub record Takable (xs : List Float) (n : ℕ) : Type 0 where
  pub same : n ≡ length xs
  pub each : (i : ℕ) → i < length xs → takes max_bound (slice_index_or xs i nan) ≡ true

-- ---- the test
module _ (M : ℕ) (xs : List Float) (n : ℕ) {bad : Bool} (s : bad ≡ outside least max_length (length xs)) where
  lent : {a : Answer} → a ≡ first_of (size_rows M 0 bad (differs n (length xs))) → a ≡ first_of (lent_rows M (length xs) n)
  lent e = e ∙ rw s (size_lent M (length xs) n)

  pub test_refused : (e : Refusal) → refused e ≡ first_of (size_rows M 0 bad (differs n (length xs))) → refused e ≡ first_of (double_rows M xs n)
  unfolding double_rows
  test_refused e h = rows_here (lent_rows M (length xs) n) _ e (lent h)

  module _ (h : plain 0 ≡ first_of (size_rows M 0 bad (differs n (length xs)))) where
    pub test_bound : M ≤ max_bound
    test_bound = lent_bound M (length xs) n (number_zero (lent h) refl)

    pub test_rest : {b : Answer} → b ≡ first_of (row_at 11 (length xs) (λ i. not (takes M (slice_index_or xs i nan))) ∷ []) → b ≡ first_of (double_rows M xs n)
    unfolding double_rows
    test_rest = rows_next (lent_rows M (length xs) n) _ (lent_numbered M (length xs) n) (lent h)

-- ---- the call
module _ (M : ℕ) (xs : List Float) (f : List ℤ) where
  pub take_refused : (e : Refusal) → refused e ≡ first_of (double_rows M xs (length f)) → Gives (doubles_in M xs f) (refused e) f
  unfolding doubles_in
  take_refused e h = rw (← h) (record { answer = refl; cells = sym (if_done_refused (refused e) _ f (refused_number e)) })

  module _ (h : plain 0 ≡ first_of (double_rows M xs (length f))) where
    pub takable : Takable xs (length f)
    takable =
        let ok = doubles_allowed M xs (length f) (number_zero h refl) in
        record {
          same = ok.samples;
          each = λ i l. let w = ok.doubles i l in whole_takes _ (record { negative = w.negative; size = w.size; most = le_trans w.most ok.bound.1; is = w.is });
        }

    pub take_done : {left : List ℤ} → left ≡ map (to_signed 31) xs → Gives (doubles_in M xs f) (plain 0) left
    unfolding doubles_in
    take_done k = rw (← h) (record { answer = refl; cells = k ∙ sym (if_done_done (plain 0) _ f refl) })
