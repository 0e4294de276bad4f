-- Values in and out.
--   floor z d     z over d, rounded down, negative numbers too
--   nearest z d   z over d to the nearest whole number, a half upward
--   even z        z is twice a whole number
--   nearest_even z d   z over d to the nearest whole number, a half to the even neighbour
--   rounded mode  nearest_even in mode 0, nearest in every other, of which only 1 is accepted
--   ratio z d     z over d as a double
--   plus_zero      the double 0, with the plus sign
--   takes M x     the double x is a sample under bound M
--   Converted     the answer, and the cells afterwards
--   doubles_in     of bound, doubles, samples; its rows are double_rows
--   output_rows    rows 1 to 8 and 12 of an output: of shape, bound, results and the cells' length
--   converted own g   each result over the divisor, by g: of shape, bound, results, cells; its rows are output_rows and then its own
--   mode_rows mode whole output's own row, 21
--   unbeaten beats r      the first index of a result that none beats
--   lowest_in, highest_in   the first index of the lowest and of the highest of results; 0 of none
--   summary       of shape, bound, results: a Summary
--   whole_series, doubles_series, summary_series      these of a series: of plan, bound, and the slices
--   whole_picture, doubles_picture, summary_picture   of two plans, bound, width, height, and the slices
--   whole_series_by, whole_picture_by   whole output in a mode, given before the slices
use Rattle.std.specs.Prelude.{ℕ, ◌*◌, ◌/◌, ◌%◌, Bool, false, cond, not, ◌&&◌, ◌||◌, List, [], ◌∷◌, ◌++◌, map, leb, ltb, eqb, length, get_or, ℤ, pos, neg_ℤ, ◌+ℤ◌, ◌*ℤ◌, Float}
use Rattle.std.specs.Int.Signed.{lt_z, shr_z}
use Rattle.std.specs.Float.{nan, inf, fin, binary64}
use Rattle.std.specs.Float.Ieee.{of_int, div, to_signed, up, down}
use Rattle.meaning.specs.Limits.{least, max_bound, max_length, max_mode}
use Rattle.meaning.specs.Extension.{at, emod}
use Rattle.meaning.specs.Kernel.{Stage}
use Rattle.meaning.specs.Refusals.{Answer, Row, ◌when◌, first_of, first_where, row_at, some, outside, differs, above, Shape, series_of, picture_of, common_rows, if_done}

abbrev pub floor : ℤ → ℕ → ℤ
floor z d = shr_z z d

-- "results over the divisor, to nearest, a half going upward"
unfoldable pub nearest : ℤ → ℕ → ℤ
nearest z d = floor (pos 2 *ℤ z +ℤ pos d) (2 * d)

unfoldable pub even : ℤ → Bool
even z = eqb (emod z 2) 0

-- document 02: "round a half to the even neighbour". Downward is the negative of upward of the negative; the two differ at a half alone, and there one of them is even.
unfoldable pub nearest_even : ℤ → ℕ → ℤ
nearest_even z d =
    let upward = nearest z d in
    let downward = neg_ℤ (nearest (neg_ℤ z) d) in
    cond (even upward) upward downward

-- document 02: "Mode 0 is even; mode 1 is the old upward rule"
abbrev pub rounded : ℕ → ℤ → ℕ → ℤ
rounded mode z d = cond (eqb mode 0) (nearest_even z d) (nearest z d)

-- "the single division of two exactly converted numbers"; both are below 2^53, and 0 gives plus zero
unfoldable pub ratio : ℤ → ℕ → Float
ratio z d = div binary64 (of_int binary64 z) (of_int binary64 (pos d))

abbrev pub plus_zero : Float
plus_zero = fin false 0 (pos 0)

-- "accepted when finite, whole and of size at most M": a finite one is n times up e over down e
unfoldable pub takes : ℕ → Float → Bool
takes M nan = false
takes M (inf s) = false
takes M (fin s n e) = eqb (n * up e % down e) 0 && leb (n * up e / down e) M

pub record Converted (A : Type 0) : Type 0 where
  pub answer : Answer
  pub cells : List A

-- "Checks are 5, 7, 8, 11."
unfoldable pub double_rows : ℕ → List Float → ℕ → List Row
double_rows M xs n =
    (5 when outside least max_bound M)
    ∷ (7 when outside least max_length (length xs))
    ∷ (8 when differs n (length xs))
    ∷ row_at 11 (length xs) (λ i. not (takes M (get_or xs i nan)))
    ∷ []

-- "minus zero becomes 0": a signed 32-bit number has no other zero
unfoldable pub doubles_in : ℕ → List Float → List ℤ → Converted ℤ
doubles_in M xs f =
    let a = first_of (double_rows M xs (length f)) in
    record { answer = a; cells = if_done a (map (to_signed 31) xs) f }

-- "test 1 to 8, and 12 over all results"
unfoldable pub output_rows : Shape → ℕ → List ℤ → ℕ → List Row
output_rows s M r n =
    common_rows s M (differs (length r) s.cells || differs n s.cells)
    ++ row_at 12 (length r) (λ i. above (M * s.divisor) (at r i))
    ∷ []

unfoldable pub converted : {A : Type 0} → List Row → (ℤ → ℕ → A) → Shape → ℕ → List ℤ → List A → Converted A
converted own g s M r cells =
    let a = first_of (output_rows s M r (length cells) ++ own) in
    record { answer = a; cells = if_done a (map (λ z. g z s.divisor) r) cells }

-- document 02: "21 for another mode, tested after 12"
unfoldable pub mode_rows : ℕ → List Row
mode_rows mode = (21 when ltb max_mode mode) ∷ []

-- "lowest and highest are chosen among the whole results", "with the first index of each"
unfoldable pub unbeaten : (ℤ → ℤ → Bool) → List ℤ → ℕ
unbeaten beats r = first_where (length r) (λ i. not (some (λ z. beats z (at r i)) r))

abbrev pub lowest_in : List ℤ → ℕ
lowest_in = unbeaten lt_z

abbrev pub highest_in : List ℤ → ℕ
highest_in = unbeaten (λ x y. lt_z y x)

pub record Summary : Type 0 where
  pub answer : Answer
  pub lowest : Float
  pub highest : Float
  pub lowest_at : ℕ
  pub highest_at : ℕ

-- "A refused summary holds plus zero twice and index 0 twice." It is lent no cells, so that only the results' length can be wrong.
unfoldable pub summary : Shape → ℕ → List ℤ → Summary
summary s M r =
    let a = first_of (output_rows s M r (length r)) in
    record {
      answer = a;
      lowest = if_done a (ratio (at r (lowest_in r)) s.divisor) plus_zero;
      highest = if_done a (ratio (at r (highest_in r)) s.divisor) plus_zero;
      lowest_at = if_done a (lowest_in r) 0;
      highest_at = if_done a (highest_in r) 0;
    }

-- "N is the length of the samples slice; for doubles in, of the doubles slice; for the three outputs, of the results slice."
abbrev pub whole_series_by : List Stage → ℕ → ℕ → List ℤ → List ℤ → Converted ℤ
whole_series_by ss M mode r cells = converted (mode_rows mode) (rounded mode) (series_of ss (length r)) M r cells

-- document 02: "by default round a half to the even neighbour"
abbrev pub whole_series : List Stage → ℕ → List ℤ → List ℤ → Converted ℤ
whole_series ss M r cells = whole_series_by ss M 0 r cells

abbrev pub doubles_series : List Stage → ℕ → List ℤ → List Float → Converted Float
doubles_series ss M r cells = converted [] ratio (series_of ss (length r)) M r cells

abbrev pub summary_series : List Stage → ℕ → List ℤ → Summary
summary_series ss M r = summary (series_of ss (length r)) M r

abbrev pub whole_picture_by : List Stage → List Stage → ℕ → ℕ → ℕ → ℕ → List ℤ → List ℤ → Converted ℤ
whole_picture_by hs vs M W H mode r cells = converted (mode_rows mode) (rounded mode) (picture_of hs vs W H) M r cells

abbrev pub whole_picture : List Stage → List Stage → ℕ → ℕ → ℕ → List ℤ → List ℤ → Converted ℤ
whole_picture hs vs M W H r cells = whole_picture_by hs vs M W H 0 r cells

abbrev pub doubles_picture : List Stage → List Stage → ℕ → ℕ → ℕ → List ℤ → List Float → Converted Float
doubles_picture hs vs M W H r cells = converted [] ratio (picture_of hs vs W H) M r cells

abbrev pub summary_picture : List Stage → List Stage → ℕ → ℕ → ℕ → List ℤ → Summary
summary_picture hs vs M W H r = summary (picture_of hs vs W H) M r
