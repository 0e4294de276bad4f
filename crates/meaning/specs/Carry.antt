-- Whole numbers out that add up: what a cell leaves of its quotient is carried on to the next. What stands in quotes is Ticket 1 of document 02.
--   carry d r n       the carry before cell n of the results r over d: 0 before the first; behind the last it is the one that is answered
--   carry_cell d r n   cell n
--   Carried           the answer, the last carry, and the cells afterwards
--   carried           of shape, bound, results, cells; its rows are output_rows
--   carry_series       this of a series: of plan, bound, and the slices
--   carry_picture      of two plans, bound, width, height, and the slices; its cells are one run, row after row
use Rattle.std.specs.Prelude.{ℕ, zero, suc, List, length, ℤ, pos, ◌+ℤ◌}
use Rattle.meaning.specs.Extension.{at, emod}
use Rattle.meaning.specs.Kernel.{Stage}
use Rattle.meaning.specs.Smoothing.{list_of}
use Rattle.meaning.specs.Refusals.{Answer, first_of, Shape, series_of, picture_of, if_done}
use Rattle.meaning.specs.Values.{floor, output_rows}

-- "start with carry 0"; "the remainder, from 0 to the divisor less one, is carried on"
unfoldable pub carry : ℕ → List ℤ → ℕ → ℕ
carry d r zero = 0
carry d r (suc n) = emod (at r n +ℤ pos (carry d r n)) d

-- "each cell is the floor of (result plus carry) over the divisor"
unfoldable pub carry_cell : ℕ → List ℤ → ℕ → ℤ
carry_cell d r n = floor (at r n +ℤ pos (carry d r n)) d

pub record Carried : Type 0 where
  pub answer : Answer
  pub carry : ℕ
  pub cells : List ℤ

-- "the last is answered"; "Refusals: 1 to 8 and 12, as for the other outputs"
unfoldable pub carried : Shape → ℕ → List ℤ → List ℤ → Carried
carried s M r cells =
    let a = first_of (output_rows s M r (length cells)) in
    record { answer = a; carry = if_done a (carry s.divisor r (length r)) 0; cells = if_done a (list_of (length r) (carry_cell s.divisor r)) cells }

abbrev pub carry_series : List Stage → ℕ → List ℤ → List ℤ → Carried
carry_series ss M r cells = carried (series_of ss (length r)) M r cells

abbrev pub carry_picture : List Stage → List Stage → ℕ → ℕ → ℕ → List ℤ → List ℤ → Carried
carry_picture hs vs M W H r cells = carried (picture_of hs vs W H) M r cells
