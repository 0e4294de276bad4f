-- The record's writer, as a host calls it: numbers come as doubles, and a field may not hold what one is taken as.
--   too_wide k n      a field of k bytes does not hold n
--   field_rows p M    rows 1 to 5: which number of a plan or a bound its field cannot hold
--   write_record_in p M f old   the outcome, a Written: rows 1 to 5, then 7 and 8 of the writer
use Rattle.std.specs.Prelude.{ℕ, ◌^◌, Bool, List, [], ◌∷◌, ◌++◌, leb, length, ℤ}
use Rattle.meaning.specs.Refusals.{Row, ◌when◌, first_of, if_done}
use Rattle.meaning.specs.Record.{record_of, Written, write_rows}
use Rattle.meaning.specs.Arguments.{PlanNumbers}

abbrev pub too_wide : ℕ → ℕ → Bool
too_wide k n = leb (256 ^ k) n

unfoldable pub field_rows : PlanNumbers → ℕ → List Row
field_rows p M =
    (1 when too_wide 1 p.passes)
    ∷ (2 when too_wide 2 p.radius)
    ∷ (3 when too_wide 1 p.inner)
    ∷ (4 when too_wide 1 p.edge)
    ∷ (5 when too_wide 4 M)
    ∷ []

unfoldable pub write_record_in : PlanNumbers → ℕ → List ℤ → List ℕ → Written
write_record_in p M f old =
    let new = record_of p.radius p.inner p.edge p.passes M f in
    let a = first_of (field_rows p M ++ write_rows (length f) (length old) (length new)) in
    record { answer = a; slice = if_done a new old }
