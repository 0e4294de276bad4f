-- Document 01's examples as one table under one theorem, the marked ones first; document 02's; and more. Plans are (r, b, a, K).
--   Example         a call's inputs, and last what must come out
--   Holds e         that is the call's whole outcome, the content of every slice with it; of `divided`, `reached` and `bounded`, the divisor, the reach, and rows 1 to 8; of `argument` and `lent` what doubles are taken as, of `written` the answer
--   examples_hold   every row of the table holds
use Rattle.std.specs.Prelude.{ℕ, ◌≡◌, refl, true, false, List, [], ◌∷◌, ◌++◌, map, set, replicate, ℤ, pos, negsuc, neg_ℤ, Float}
use Prim.Native.String.{String}
use Rattle.std.specs.Int.Count.{count_trailing_zeros}
use Rattle.std.specs.Float.{nan, inf, fin}
use Rattle.std.specs.Float.Ieee.{of_int, div, to_signed, round, size, units, odd, span, climb}
use Rattle.algebra.specs.Within.{sum_within}
use Rattle.meaning.specs.Extension.{emod, reflect, fold, ext}
use Rattle.meaning.specs.Kernel.{Stage, plan, tap, pass_at, kernel, width, reach, tap_sum, divisor}
use Rattle.meaning.specs.Smoothing.{list_of, convolved, result, results, weight, near}
use Rattle.meaning.specs.Picture.{pixel, grid, picture}
use Rattle.meaning.specs.Refusals.{Answer, first_of, first_where, count_where, row_at, some, plan_rows, size_rows, common_rows, series_of, if_done, zeros, own_rows, plan_divisor, plan_reach}
use Rattle.meaning.specs.Values.{nearest, even, nearest_even, ratio, plus_zero, takes, double_rows, doubles_in, output_rows, converted, mode_rows, unbeaten, summary, whole_series, whole_series_by, whole_picture, whole_picture_by, summary_series}
use Rattle.meaning.specs.Carry.{carry, carry_cell, carried, carry_series, carry_picture}
use Rattle.meaning.specs.Exact.{length_rows, exact_rows, results_to_doubles, back_rows, doubles_to_results}
use Rattle.meaning.specs.Calls.{smooth_rows, smoothed, smooth_series, smooth_picture, gained, edit_rows, changed, edit_series, point_rows, point}
use Rattle.meaning.specs.Planner.{largest, radius_for, nearest_down, edge_for, widened, stage_for, planner_rows, plan_for}
use Rattle.meaning.specs.Encoding.{bytes, number, text, digits, decimal}
use Rattle.meaning.specs.Record.{field, sample_bytes, sample_at, record_of, stretch, samples_of, begins, reading, read_record}
use Rattle.meaning.specs.Program.{first_line, result_lines, report, program}
use Rattle.meaning.specs.Arguments.{whole_of, unsigned, count_of, plan_in}
use Rattle.meaning.specs.HostRecord.{field_rows, write_record_in}

data Example : Type 0 where
  -- plan, samples; results
  series : List Stage → List ℤ → List ℤ → Example
  -- plans across and down, width, height, samples; results
  raster : List Stage → List Stage → ℕ → ℕ → List ℤ → List ℤ → Example
  -- plan, samples, position, new value; results, count
  edit : List Stage → List ℤ → ℕ → ℤ → List ℤ → ℕ → Example
  -- sigma in hundredths, passes, inner weight; radius, edge weight
  planner : ℕ → ℕ → ℕ → ℕ → ℕ → Example
  -- mode, plan, samples; whole output
  whole : ℕ → List Stage → List ℤ → List ℤ → Example
  -- plan, samples; whole output without a mode
  whole_default : List Stage → List ℤ → List ℤ → Example
  -- mode, plans across and down, width, height, results; whole output
  whole_raster : ℕ → List Stage → List Stage → ℕ → ℕ → List ℤ → List ℤ → Example
  -- plans across and down, width, height, results; whole output without a mode
  raster_default : List Stage → List Stage → ℕ → ℕ → List ℤ → List ℤ → Example
  -- plan, results; last carry, cells
  carries : List Stage → List ℤ → ℕ → List ℤ → Example
  -- plans across and down, width, height, samples; last carry, cells
  carries_raster : List Stage → List Stage → ℕ → ℕ → List ℤ → ℕ → List ℤ → Example
  -- plan, results; number, position
  uncarried : List Stage → List ℤ → ℕ → ℕ → Example
  -- bound, doubles, samples; number, position, bad samples, samples afterwards
  taken : ℕ → List Float → List ℤ → ℕ → ℕ → ℕ → List ℤ → Example
  -- plan, samples; number, position, bad samples
  unsmoothed : List Stage → List ℤ → ℕ → ℕ → ℕ → Example
  -- plan, samples, position, new value; number, position, bad samples
  unedited : List Stage → List ℤ → ℕ → ℤ → ℕ → ℕ → ℕ → Example
  -- plan, samples, position; number, position, bad samples
  unpointed : List Stage → List ℤ → ℕ → ℕ → ℕ → ℕ → Example
  -- plan, results; lowest and its index, highest and its index
  summed : List Stage → List ℤ → Float → ℕ → Float → ℕ → Example
  -- mode, plan, results; number, position
  unwhole : ℕ → List Stage → List ℤ → ℕ → ℕ → Example
  -- mode, plans across and down, width, height, results; number, position
  refused : ℕ → List Stage → List Stage → ℕ → ℕ → List ℤ → ℕ → ℕ → Example
  -- sigma in hundredths, passes, inner weight; number
  unplanned : ℕ → ℕ → ℕ → ℕ → Example
  -- plan; divisor
  divided : List Stage → ℕ → Example
  -- plan; reach
  reached : List Stage → ℕ → Example
  -- plan, bound; number
  bounded : List Stage → ℕ → ℕ → Example
  -- the job's bytes; what the program prints
  job : List ℕ → String → Example
  -- a host's double; the whole number, and the number from 0 on, that it is taken as
  argument : Float → ℤ → ℕ → Example
  -- a host's doubles; radius, inner weight, edge weight and passes that they are taken as
  lent : List Float → ℕ → ℕ → ℕ → ℕ → Example
  -- results, cells; number, position, cells afterwards
  exact : List ℤ → List Float → ℕ → ℕ → List Float → Example
  -- doubles, results; number, position, bad samples, results afterwards
  back : List Float → List ℤ → ℕ → ℕ → ℕ → List ℤ → Example
  -- radius, inner weight, edge weight, passes, bound, samples, bytes lent; number
  written : ℕ → ℕ → ℕ → ℕ → ℕ → List ℤ → ℕ → ℕ → Example

abbrev answer : ℕ → ℕ → ℕ → Answer
answer n p k = record { number = n; position = p; bad = k }

abbrev done : Answer
done = answer 0 0 0

-- The bound is 9, of refused outputs 1. Results to be written, work and cells are lent with the samples in them, where no samples are given with the results; an edit's results, and those put out of samples, are the smoothing.
abbrev Holds : Example → Type 0
Holds (series ss f r) = smooth_series fold ss 9 f f f ≡ record { answer = done; results = r; work = zeros f }
Holds (raster hs vs W H f r) = smooth_picture fold fold hs vs 9 W H f f f ≡ record { answer = done; results = r; work = zeros f }
Holds (edit ss f p v r n) = edit_series fold ss 9 p v f (results fold ss f) (f ++ f) ≡ record { answer = done; count = n; samples = set f p v; results = r; work = zeros (f ++ f) }
Holds (planner s K b r a) = plan_for s K b ≡ record { answer = done; radius = r; edge = a }
Holds (whole m ss f c) = whole_series_by ss 9 m (results fold ss f) f ≡ record { answer = done; cells = c }
Holds (whole_default ss f c) = whole_series ss 9 (results fold ss f) f ≡ record { answer = done; cells = c }
Holds (whole_raster m hs vs W H r c) = whole_picture_by hs vs 9 W H m r r ≡ record { answer = done; cells = c }
Holds (raster_default hs vs W H r c) = whole_picture hs vs 9 W H r r ≡ record { answer = done; cells = c }
Holds (carries ss r k c) = carry_series ss 9 r r ≡ record { answer = done; carry = k; cells = c }
Holds (carries_raster hs vs W H f k c) = carry_picture hs vs 9 W H (picture fold fold hs vs W H f) f ≡ record { answer = done; carry = k; cells = c }
Holds (uncarried ss r n p) = carry_series ss 1 r r ≡ record { answer = answer n p 0; carry = 0; cells = r }
Holds (taken M xs f n p k g) = doubles_in M xs f ≡ record { answer = answer n p k; cells = g }
Holds (unsmoothed ss f n p k) = smooth_series fold ss 9 f f f ≡ record { answer = answer n p k; results = f; work = f }
Holds (unedited ss f i v n p k) = edit_series fold ss 9 i v f f (f ++ f) ≡ record { answer = answer n p k; count = 0; samples = f; results = f; work = f ++ f }
Holds (unpointed ss f i n p k) = point fold ss 9 i f (f ++ f) ≡ record { answer = answer n p k; value = plus_zero; work = f ++ f }
Holds (summed ss r l i h j) = summary_series ss 9 r ≡ record { answer = done; lowest = l; highest = h; lowest_at = i; highest_at = j }
Holds (unwhole m ss r n p) = whole_series_by ss 1 m r r ≡ record { answer = answer n p 0; cells = r }
Holds (refused m hs vs W H r n p) = whole_picture_by hs vs 1 W H m r r ≡ record { answer = answer n p 0; cells = r }
Holds (unplanned s K b n) = plan_for s K b ≡ record { answer = answer n 0 0; radius = 0; edge = 0 }
Holds (divided ss d) = plan_divisor ss ≡ d
Holds (reached ss n) = plan_reach ss ≡ n
Holds (bounded ss M n) = first_of (common_rows (series_of ss 1) M false) ≡ answer n 0 0
Holds (job s t) = program s ≡ text t
Holds (argument x z n) = ◌≡◌ {A = ℤ × ℕ} (whole_of x, count_of x) (z, n)
Holds (lent xs r b a K) = plan_in xs ≡ record { radius = r; inner = b; edge = a; passes = K }
Holds (exact r cells n p c) = results_to_doubles r cells ≡ record { answer = answer n p 0; cells = c }
Holds (back xs r n p k s) = doubles_to_results xs r ≡ record { answer = answer n p k; cells = s }
Holds (written r b a K M f room n) = (write_record_in (record { radius = r; inner = b; edge = a; passes = K }) M f (replicate room 7)).answer ≡ answer n 0 0

abbrev plus : List ℕ → List ℤ
plus = map pos

abbrev minus : List ℕ → List ℤ
minus = map (λ n. neg_ℤ (pos n))

-- a double that is the whole number n, and one that is half of it
abbrev double : ℕ → Float
double n = fin false n (pos 0)

abbrev half : ℕ → Float
half n = fin false n (negsuc 0)

-- what is taken in place of a double that is refused
abbrev beyond : ℕ
beyond = 9007199254740992

examples : List Example
examples =
    series (plan 1 1 0 1) (plus (5 ∷ [])) (plus (15 ∷ []))
    ∷ series (plan 1 1 0 1) (plus (0 ∷ 0 ∷ 9 ∷ 0 ∷ 0 ∷ [])) (plus (0 ∷ 9 ∷ 9 ∷ 9 ∷ 0 ∷ []))
    ∷ series (plan 1 1 0 2) (plus (0 ∷ 0 ∷ 9 ∷ 0 ∷ 0 ∷ [])) (plus (9 ∷ 18 ∷ 27 ∷ 18 ∷ 9 ∷ []))
    ∷ series (plan 1 2 1 1) (plus (8 ∷ 0 ∷ 0 ∷ [])) (plus (32 ∷ 24 ∷ 8 ∷ []))
    ∷ series (plan 3 1 0 1) (plus (1 ∷ 2 ∷ [])) (plus (11 ∷ 10 ∷ []))
    ∷ series (plan 0 3 1 2) (plus (1 ∷ 0 ∷ [])) (plus (17 ∷ 8 ∷ []))
    ∷ series (plan 0 3 1 2) (plus (7 ∷ 7 ∷ 7 ∷ [])) (plus (175 ∷ 175 ∷ 175 ∷ []))
    ∷ raster (plan 0 3 1 1) (plan 0 3 1 1) 2 2 (plus (1 ∷ 0 ∷ 0 ∷ 0 ∷ [])) (plus (16 ∷ 4 ∷ 4 ∷ 1 ∷ []))
    ∷ edit (plan 1 1 0 1) (plus (0 ∷ 0 ∷ 9 ∷ 0 ∷ 0 ∷ [])) 4 (pos 3) (plus (0 ∷ 9 ∷ 9 ∷ 12 ∷ 6 ∷ [])) 2
    ∷ planner 500 3 16 4 7
    ∷ planner 100 3 16 0 4
    ∷ planner 200 1 16 3 0
    -- not marked
    ∷ series (plan 1 2 1 1) (plus (4 ∷ 0 ∷ 0 ∷ [])) (plus (16 ∷ 12 ∷ 4 ∷ []))
    ∷ whole 1 (plan 1 2 1 1) (plus (4 ∷ 0 ∷ 0 ∷ [])) (plus (2 ∷ 2 ∷ 1 ∷ []))
    ∷ whole 1 (plan 1 2 1 1) (minus (4 ∷ 0 ∷ 0 ∷ [])) (minus (2 ∷ 1 ∷ 0 ∷ []))
    ∷ divided (plan 1 2 1 8) 16777216
    ∷ bounded (plan 1 2 1 8) 536870911 0
    ∷ bounded (plan 1 2 1 8) 536870912 6
    ∷ job
    (0x01 ∷ 0x00 ∷ 0x02 ∷ 0x00 ∷ 0x01
    ∷ 0x02 ∷ 0x00 ∷ 0x01 ∷ 0x02
    ∷ 0x03 ∷ 0x00 ∷ 0x01 ∷ 0x01
    ∷ 0x04 ∷ 0x00 ∷ 0x01 ∷ 0x01
    ∷ 0x05 ∷ 0x00 ∷ 0x04 ∷ 0x00 ∷ 0x00 ∷ 0x00 ∷ 0x08
    ∷ 0x06 ∷ 0x00 ∷ 0x0C ∷ 0x00 ∷ 0x00 ∷ 0x00 ∷ 0x08 ∷ 0x00 ∷ 0x00 ∷ 0x00 ∷ 0x00 ∷ 0x00 ∷ 0x00 ∷ 0x00 ∷ 0x00 ∷ [])
    "smooth 0 8 3\n0 32\n1 24\n2 8\n"
    -- document 02's
    ∷ planner 500 4 16 3 13
    ∷ whole 0 (plan 1 2 1 1) (plus (4 ∷ 0 ∷ 0 ∷ [])) (plus (2 ∷ 2 ∷ 0 ∷ []))
    -- of no page: without them a picture of one plan, columns read for rows, a reach of r + 1 always, a fraction taken, the last index of equals, a carry that is dropped, one of a refused call, a planner's half going up or to even, an edge weight of b, bad samples counted beyond what is tested or with another number, a mode tested before 12, and another mode by default would pass
    ∷ raster (plan 0 3 1 1) (plan 1 1 0 1) 2 2 (plus (1 ∷ 0 ∷ 0 ∷ 0 ∷ [])) (plus (8 ∷ 2 ∷ 4 ∷ 1 ∷ []))
    ∷ raster (plan 1 2 1 1) (plan 0 3 1 1) 3 2 (plus (9 ∷ 0 ∷ 0 ∷ 0 ∷ 0 ∷ 1 ∷ [])) (plus (145 ∷ 111 ∷ 40 ∷ 40 ∷ 39 ∷ 25 ∷ []))
    ∷ reached (plan 1 1 0 2) 2
    ∷ reached (plan 1 2 1 8) 16
    ∷ reached (plan 1 2 2 8) 0
    ∷ reached (plan 1023 255 254 3) 0
    ∷ divided (plan 1 2 2 1) 0
    ∷ divided (plan 1023 255 254 2) 272998935049
    ∷ divided (plan 1023 255 254 3) 0
    ∷ taken 9 (fin true 0 (pos 0) ∷ fin true 9 (pos 0) ∷ []) (plus (7 ∷ 7 ∷ [])) 0 0 0 (minus (0 ∷ 9 ∷ []))
    ∷ taken 9 (fin false 9 (pos 0) ∷ fin false 1 (negsuc 0) ∷ fin false 5 (pos 1) ∷ []) (plus (7 ∷ 7 ∷ 7 ∷ [])) 11 1 2 (plus (7 ∷ 7 ∷ 7 ∷ []))
    ∷ summed (plan 1 2 1 1) (pos 4 ∷ negsuc 3 ∷ pos 4 ∷ negsuc 3 ∷ []) (fin true 1 (negsuc 0)) 1 (fin false 1 (negsuc 0)) 0
    ∷ refused 0 (plan 1 1 0 1) (plan 1 2 1 1) 3 1 (pos 24 ∷ negsuc 24 ∷ pos 25 ∷ []) 12 1
    ∷ refused 1 (plan 1 1 0 1) (plan 1 2 1 1) 1 1 (pos 24 ∷ pos 24 ∷ []) 8 0
    ∷ refused 2 (plan 1 1 0 1) (plan 1 2 1 1) 2 1 (pos 24 ∷ negsuc 24 ∷ []) 12 1
    ∷ refused 2 (plan 1 1 0 1) (plan 1 2 1 1) 2 1 (pos 24 ∷ negsuc 23 ∷ []) 21 0
    ∷ whole 0 (plan 1 2 1 1) (minus (4 ∷ 0 ∷ 0 ∷ [])) (minus (2 ∷ 2 ∷ 0 ∷ []))
    ∷ whole_default (plan 1 2 1 1) (plus (4 ∷ 0 ∷ 0 ∷ [])) (plus (2 ∷ 2 ∷ 0 ∷ []))
    ∷ whole_raster 1 (plan 1 2 1 1) (plan 0 3 1 1) 4 1 (pos 20 ∷ pos 60 ∷ negsuc 19 ∷ negsuc 59 ∷ []) (pos 1 ∷ pos 2 ∷ pos 0 ∷ negsuc 0 ∷ [])
    ∷ unwhole 2 (plan 1 2 1 1) (plus (4 ∷ 9 ∷ [])) 12 1
    ∷ unwhole 2 (plan 1 2 1 1) (plus (4 ∷ 8 ∷ [])) 21 0
    ∷ unwhole 4294967296 (plan 1 2 1 1) (plus (4 ∷ 8 ∷ [])) 21 0
    ∷ raster_default (plan 1 2 1 1) (plan 0 3 1 1) 4 1 (pos 20 ∷ pos 60 ∷ negsuc 19 ∷ negsuc 59 ∷ []) (pos 0 ∷ pos 2 ∷ pos 0 ∷ negsuc 1 ∷ [])
    ∷ carries (plan 1 2 1 1) (results fold (plan 1 2 1 1) (plus (4 ∷ 0 ∷ 0 ∷ []))) 0 (plus (2 ∷ 1 ∷ 1 ∷ []))
    ∷ carries (plan 1 2 1 1) (results fold (plan 1 2 1 1) (minus (4 ∷ 0 ∷ 0 ∷ []))) 0 (minus (2 ∷ 2 ∷ 0 ∷ []))
    ∷ carries (plan 1 2 1 1) (pos 7 ∷ negsuc 0 ∷ pos 5 ∷ []) 3 (plus (0 ∷ 0 ∷ 1 ∷ []))
    ∷ carries_raster (plan 0 3 1 1) (plan 0 3 1 1) 2 2 (plus (1 ∷ 0 ∷ 0 ∷ 0 ∷ [])) 0 (plus (0 ∷ 0 ∷ 0 ∷ 1 ∷ []))
    ∷ uncarried (plan 1 2 1 1) (plus (7 ∷ 10 ∷ [])) 12 1
    ∷ planner 800 3 16 7 7
    ∷ planner 100 2 1 0 0
    ∷ planner 316 1 16 5 0
    ∷ unplanned 25601 3 256 3
    ∷ unplanned 25601 3 16 13
    ∷ unsmoothed (plan 1 1 0 1) (pos 9 ∷ pos 10 ∷ negsuc 8 ∷ negsuc 9 ∷ []) 11 1 2
    ∷ unsmoothed (plan 1 1 0 1) (pos 10 ∷ negsuc 9 ∷ pos 9 ∷ pos 10 ∷ []) 11 0 3
    ∷ unsmoothed (plan 1 1 1 1) (pos 9 ∷ pos 10 ∷ negsuc 8 ∷ negsuc 9 ∷ []) 4 0 0
    ∷ unedited (plan 1 1 0 1) (plus (10 ∷ 10 ∷ 10 ∷ [])) 1 (pos 9) 11 1 1
    ∷ unedited (plan 1 1 0 1) (plus (10 ∷ 10 ∷ 10 ∷ [])) 1 (pos 10) 10 0 0
    ∷ unpointed (plan 1 1 0 1) (plus (10 ∷ 0 ∷ 10 ∷ 0 ∷ 10 ∷ 10 ∷ [])) 3 11 2 2
    ∷ argument (half 3) (pos beyond) beyond
    ∷ argument (fin true 1 (pos 0)) (negsuc 0) beyond
    ∷ argument (fin true 0 (pos 0)) (pos 0) 0
    ∷ argument (double 9007199254740991) (pos 9007199254740991) 9007199254740991
    ∷ argument (fin false 1 (pos 53)) (pos beyond) beyond
    ∷ argument nan (pos beyond) beyond
    ∷ argument (inf true) (pos beyond) beyond
    ∷ lent (double 1 ∷ double 2 ∷ double 0 ∷ double 3 ∷ []) 1 2 0 3
    ∷ lent (double 1 ∷ half 3 ∷ double 0 ∷ fin true 1 (pos 0) ∷ []) 1 beyond 0 beyond
    ∷ lent (double 1 ∷ double 2 ∷ double 0 ∷ double 3 ∷ double 4 ∷ []) beyond beyond beyond beyond
    ∷ exact (pos 65537 ∷ negsuc 8 ∷ []) (nan ∷ nan ∷ []) 0 0 (double 65537 ∷ fin true 9 (pos 0) ∷ [])
    ∷ exact (pos 9007199254740991 ∷ negsuc 9007199254740991 ∷ []) (nan ∷ nan ∷ []) 12 1 (nan ∷ nan ∷ [])
    ∷ exact (pos 9007199254740992 ∷ []) [] 8 0 []
    ∷ back (fin true 0 (pos 0) ∷ double 65537 ∷ []) (plus (7 ∷ 7 ∷ [])) 0 0 0 (plus (0 ∷ 65537 ∷ []))
    ∷ back (double 3 ∷ half 3 ∷ nan ∷ []) (plus (7 ∷ 7 ∷ 7 ∷ [])) 11 1 2 (plus (7 ∷ 7 ∷ 7 ∷ []))
    ∷ back [] (plus (7 ∷ [])) 7 0 0 (plus (7 ∷ []))
    ∷ written 300 255 255 0 4294967295 (plus (7 ∷ [])) 31 0
    ∷ written beyond beyond beyond 256 beyond [] 0 1
    ∷ written 65536 256 256 1 4294967296 [] 0 2
    ∷ written 0 256 256 1 4294967296 [] 0 3
    ∷ written 0 0 256 1 4294967296 [] 0 4
    ∷ written 0 0 0 1 4294967296 [] 0 5
    ∷ written 0 0 0 1 0 [] 0 7
    ∷ []

infixr 5 ◌and◌
data Every : List Example → Type 0 where
  none : Every []
  ◌and◌ : {e : Example} {es : List Example} → Holds e → Every es → Every (e ∷ es)

examples_hold : Every examples
unfolding examples sum_within emod reflect fold ext tap pass_at kernel width reach tap_sum divisor list_of convolved result results weight near pixel grid picture
    first_of first_where count_where row_at some plan_rows size_rows if_done own_rows plan_divisor plan_reach nearest even nearest_even ratio takes double_rows doubles_in unbeaten summary of_int div to_signed round size units odd span climb count_trailing_zeros output_rows converted mode_rows carry carry_cell carried smooth_rows smoothed gained edit_rows changed edit_series point_rows point
    largest radius_for nearest_down edge_for widened stage_for planner_rows plan_for bytes number text digits decimal sample_at stretch samples_of begins reading read_record first_line result_lines report program length_rows exact_rows results_to_doubles back_rows doubles_to_results whole_of unsigned count_of plan_in field sample_bytes record_of field_rows write_record_in
examples_hold =
    refl and refl and refl and refl and refl and refl and refl
    and refl and refl and refl and refl and refl
    and refl and refl and refl and refl and refl and refl and refl and refl and refl and refl and refl and refl and refl and refl and refl and refl and refl and refl and refl and refl and refl and refl and refl and refl and refl and refl and refl and refl and refl and refl and refl and refl and refl and refl and refl and refl and refl and refl and refl and refl and refl and refl and refl and refl and refl and refl and refl and refl
    and refl and refl and refl and refl and refl and refl and refl and refl and refl and refl and refl and refl and refl and refl and refl and refl and refl and refl and refl and refl and refl and refl and refl and none
