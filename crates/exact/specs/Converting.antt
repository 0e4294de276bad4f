-- The steps of both conversions, each over plain lists.
--   Held r n       no result of r is above the largest, and there are n cells for them
--   Takable xs n   every double of xs is a whole number so small, and there are n results for them
-- Laws: held, takable (what a test that passes leaves); exact_refused, exact_done, back_refused, back_done (the two ends of each call).
use Rattle.std.specs.Prelude.{ℕ, ◌≤◌, ◌<◌, ◌≡◌, refl, true, List, map, length, get_or, ℤ, nat_abs, Float}
use Rattle.std.proofs.Math.Path.{sym}
use Rattle.std.proofs.Common.{◌∙◌}
use Rattle.std.proofs.Math.Bool.{not}
use borrow.Author.Tests.{ltb-false, not-false}
use Rattle.std.specs.Float.{nan, binary64}
use Rattle.std.specs.Float.Ieee.{of_int, to_signed}
use Rattle.meaning.specs.Limits.{max_result}
use Rattle.meaning.specs.Extension.{at}
use Rattle.meaning.specs.Refusals.{first_of, row_at, above}
use Rattle.meaning.specs.Values.{takes}
use Rattle.meaning.specs.Exact.{length_rows, exact_rows, results_to_doubles, back_rows, doubles_to_results}
use Rattle.theory.specs.Refusals.{done_off, number_zero, if_done_done, if_done_refused}
use Rattle.theory.specs.Places.{row_at_none}
use Rattle.theory.specs.Tests.{differs_no}
use Rattle.plan.specs.declared.Refusal.{Refusal}
use Rattle.plan.specs.Structs.{plain, refused, refused_number}
use Rattle.plan.specs.Contract.{Gives}

pub record Held (r : List ℤ) (n : ℕ) : Type 0 where
  pub same : n ≡ length r
  pub each : (i : ℕ) → i < length r → nat_abs (at r i) ≤ max_result

pub record Takable (xs : List Float) (n : ℕ) : Type 0 where
  pub same : n ≡ length xs
  pub each : (i : ℕ) → i < length xs → takes max_result (get_or xs i nan) ≡ true

-- ---- results as doubles
module _ (r : List ℤ) (cells : List Float) where
  pub exact_refused : (e : Refusal) → refused e ≡ first_of (exact_rows r (length cells)) → Gives (results_to_doubles r cells) (refused e) cells
  unfolding results_to_doubles
  exact_refused e h = rw (← h) (record { answer = refl; cells = sym (if_done_refused (refused e) _ cells (refused_number e)) })

  module _ (h : plain 0 ≡ first_of (exact_rows r (length cells))) where
    pub held : Held r (length cells)
    unfolding exact_rows length_rows row_at
    held =
        let off = done_off (exact_rows r (length cells)) tt (number_zero h refl) in
        record { same = differs_no (length cells) (length r) off.1.0; each = λ i l. ltb-false max_result (nat_abs (at r i)) (row_at_none 12 (length r) (λ i. above max_result (at r i)) off.1.1.0 i l) }

    pub exact_done : {left : List Float} → left ≡ map (of_int binary64) r → Gives (results_to_doubles r cells) (plain 0) left
    unfolding results_to_doubles
    exact_done k = rw (← h) (record { answer = refl; cells = k ∙ sym (if_done_done (plain 0) _ cells refl) })

-- ---- doubles as results
module _ (xs : List Float) (r : List ℤ) where
  pub back_refused : (e : Refusal) → refused e ≡ first_of (back_rows xs (length r)) → Gives (doubles_to_results xs r) (refused e) r
  unfolding doubles_to_results
  back_refused e h = rw (← h) (record { answer = refl; cells = sym (if_done_refused (refused e) _ r (refused_number e)) })

  module _ (h : plain 0 ≡ first_of (back_rows xs (length r))) where
    pub takable : Takable xs (length r)
    unfolding back_rows length_rows row_at
    takable =
        let off = done_off (back_rows xs (length r)) tt (number_zero h refl) in
        record { same = differs_no (length r) (length xs) off.1.0; each = λ i l. not-false _ (row_at_none 11 (length xs) (λ i. not (takes max_result (get_or xs i nan))) off.1.1.0 i l) }

    pub back_done : {left : List ℤ} → left ≡ map (to_signed 63) xs → Gives (doubles_to_results xs r) (plain 0) left
    unfolding doubles_to_results
    back_done k = rw (← h) (record { answer = refl; cells = k ∙ sym (if_done_done (plain 0) _ r refl) })
