-- A call that tests no samples has none that is bad.
--   NoneBad rows   no row has a bad sample
-- Laws: converted_untested, carried_untested, summary_untested, exact_untested (of the outcome's answer).
use Rattle.std.specs.Prelude.{ℕ, ◌≡◌, refl, Bool, true, false, cond, List, [], ◌∷◌, ◌++◌, length, ℤ, Float, ⊤}
use Rattle.meaning.specs.Refusals.{Row, first_of, row_at, Shape, plan_rows, size_rows}
use Rattle.meaning.specs.Values.{output_rows, converted, mode_rows, summary}
use Rattle.meaning.specs.Carry.{carried}
use Rattle.meaning.specs.Exact.{length_rows, exact_rows, results_to_doubles}

abbrev pub NoneBad : List Row → Type 0
NoneBad [] = ⊤
NoneBad (row ∷ rows) = (row.answer.bad ≡ 0) × NoneBad rows

none_bad : (rows : List Row) → NoneBad rows → (first_of rows).bad ≡ 0
unfolding first_of
none_bad [] h = refl
none_bad (row ∷ rows) h = go row.applies (none_bad rows h.1)
  where
    go : (b : Bool) → (first_of rows).bad ≡ 0 → (cond b row.answer (first_of rows)).bad ≡ 0
    go true k = h.0
    go false k = k

both : (rows more : List Row) → NoneBad rows → NoneBad more → NoneBad (rows ++ more)
both [] more h k = k
both (row ∷ rows) more h k = (h.0, both rows more h.1 k)

output : (s : Shape) (M : ℕ) (r : List ℤ) (n : ℕ) → NoneBad (output_rows s M r n)
unfolding output_rows plan_rows size_rows row_at
output s M r n = (refl, (refl, (refl, (refl, (refl, (refl, (refl, (refl, (refl, tt)))))))))

module _ {A : Type 0} (g : ℤ → ℕ → A) (s : Shape) (M : ℕ) (r : List ℤ) (cells : List A) where
  pub converted_untested : (own : List Row) → NoneBad own → (converted own g s M r cells).answer.bad ≡ 0
  unfolding converted
  converted_untested own h = none_bad (output_rows s M r (length cells) ++ own) (both (output_rows s M r (length cells)) own (output s M r (length cells)) h)

pub mode_untested : (mode : ℕ) → NoneBad (mode_rows mode)
unfolding mode_rows
mode_untested mode = (refl, tt)

module _ (s : Shape) (M : ℕ) (r : List ℤ) where
  pub carried_untested : (cells : List ℤ) → (carried s M r cells).answer.bad ≡ 0
  unfolding carried
  carried_untested cells = none_bad (output_rows s M r (length cells)) (output s M r (length cells))

  pub summary_untested : (summary s M r).answer.bad ≡ 0
  unfolding summary
  summary_untested = none_bad (output_rows s M r (length r)) (output s M r (length r))

pub exact_untested : (r : List ℤ) (cells : List Float) → (results_to_doubles r cells).answer.bad ≡ 0
unfolding results_to_doubles exact_rows length_rows row_at
exact_untested r cells = none_bad (exact_rows r (length cells)) (refl, (refl, (refl, tt)))
