-- Results as doubles, each the same number, and back: how a procedure holds them, and keeps them in a column.
--   length_rows N n      rows 7 and 8, of N cells given and n lent
--   exact_rows r n       the rows of results as doubles;  results_to_doubles r cells  its outcome
--   back_rows xs n       the rows of doubles as results;  doubles_to_results xs r     its outcome
use Rattle.std.specs.Prelude.{ℕ, not, List, [], ◌∷◌, ◌++◌, map, length, get_or, ℤ, Float}
use Rattle.std.specs.Float.{nan, binary64}
use Rattle.std.specs.Float.Ieee.{of_int, to_signed}
use Rattle.meaning.specs.Limits.{least, max_result, max_length}
use Rattle.meaning.specs.Extension.{at}
use Rattle.meaning.specs.Refusals.{Row, ◌when◌, first_of, row_at, outside, differs, above, if_done}
use Rattle.meaning.specs.Values.{Converted, takes}

unfoldable pub length_rows : ℕ → ℕ → List Row
length_rows N n = (7 when outside least max_length N) ∷ (8 when differs n N) ∷ []

-- every result of a call is at most that large, and a double holds it exactly
unfoldable pub exact_rows : List ℤ → ℕ → List Row
exact_rows r n = length_rows (length r) n ++ row_at 12 (length r) (λ i. above max_result (at r i)) ∷ []

unfoldable pub results_to_doubles : List ℤ → List Float → Converted Float
results_to_doubles r cells =
    let a = first_of (exact_rows r (length cells)) in
    record { answer = a; cells = if_done a (map (of_int binary64) r) cells }

unfoldable pub back_rows : List Float → ℕ → List Row
back_rows xs n = length_rows (length xs) n ++ row_at 11 (length xs) (λ i. not (takes max_result (get_or xs i nan))) ∷ []

unfoldable pub doubles_to_results : List Float → List ℤ → Converted ℤ
doubles_to_results xs r =
    let a = first_of (back_rows xs (length r)) in
    record { answer = a; cells = if_done a (map (to_signed 63) xs) r }
