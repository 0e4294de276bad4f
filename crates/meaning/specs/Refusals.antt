-- The table of numbers. A call's rows stand in rising order, and it answers the first that applies.
--   Answer             number, position, and how many samples are bad
--   Row                an answer, and whether it applies
--   first_of rows       the first answer that applies; 0, done, where none does
--   Applies n rows     a row with number n applies
--   n when b           row n, with position 0 and no bad sample
--   first_where N t     the first of 0 .. N - 1 where the test t is true; N where there is none
--   count_where N t     at how many of 0 .. N - 1 it is true
--   bad_at n N t        how many samples are bad, by row n: of row 11 those where t is true, of every other row none
--   row_at n N t        row n, at the first of 0 .. N - 1 where t is true
--   some t xs          t is true of one of xs
--   outside, differs   not from low to high; not the length asked
--   within             from start up to end, end itself left out
--   above M z          z has size above M
--   Shape              a series (series_of) or a picture (picture_of): plans, divisor, cells, and whether row 7 applies
--   plan_rows ps        rows 1 to 4 of the plans ps
--   size_rows M product bad_size wrongLength   rows 5 to 8 under bound M; product is M times the divisor, and the last two say that 7 and 8 apply
--   common_rows s M wrongLength   rows 1 to 8 of the shape s
--   if_done a new old   new where a is done, old where it is refused
--   zeros w            zeros, as many as w has cells
--   own_rows ss         the rows that apply to a plan under every bound
--   plan_divisor ss     its divisor, and plan_reach ss its reach, where none of those applies; else 0
use Rattle.std.specs.Prelude.{ℕ, zero, suc, ◌+◌, ◌*◌, ◌≡◌, Bool, true, false, cond, not, ◌&&◌, ◌||◌, List, [], ◌∷◌, ◌++◌, leb, ltb, eqb, length, replicate, ℤ, pos, nat_abs}
use Rattle.meaning.specs.Limits.{least, max_passes, max_radius, max_inner, max_bound, max_result, max_length, max_side}
use Rattle.meaning.specs.Kernel.{Stage, reach, divisor}

pub record Answer : Type 0 where
  pub number : ℕ
  pub position : ℕ
  pub bad : ℕ

pub record Row : Type 0 where
  pub answer : Answer
  pub applies : Bool

-- "The lowest number that applies to the call is given"
unfoldable pub first_of : List Row → Answer
first_of [] = record { number = 0; position = 0; bad = 0 }
first_of (row ∷ rows) = cond row.applies row.answer (first_of rows)

pub data Applies (n : ℕ) : List Row → Type 0 where
  here : {row : Row} {rows : List Row} → row.answer.number ≡ n → row.applies ≡ true → Applies n (row ∷ rows)
  later : {row : Row} {rows : List Row} → Applies n rows → Applies n (row ∷ rows)

infix 3 ◌when◌
abbrev pub ◌when◌ : ℕ → Bool → Row
n when b = record { answer = record { number = n; position = 0; bad = 0 }; applies = b }

unfoldable pub first_where : ℕ → (ℕ → Bool) → ℕ
first_where zero test = 0
first_where (suc N) test = cond (test 0) 0 (suc (first_where N (λ i. test (suc i))))

unfoldable pub count_where : ℕ → (ℕ → Bool) → ℕ
count_where zero test = 0
count_where (suc N) test = count_where N test + cond (test N) 1 0

-- document 02: "the number of bad samples among those it tests"; "it is 0 with other answers"
abbrev pub bad_at : ℕ → ℕ → (ℕ → Bool) → ℕ
bad_at n N test = cond (eqb n 11) (count_where N test) 0

-- "Position is 0 except at 11 and 12, where it is the first offending index."
unfoldable pub row_at : ℕ → ℕ → (ℕ → Bool) → Row
row_at n N test = record { answer = record { number = n; position = first_where N test; bad = bad_at n N test }; applies = ltb (first_where N test) N }

unfoldable pub some : {A : Type 0} → (A → Bool) → List A → Bool
some test [] = false
some test (x ∷ xs) = test x || some test xs

abbrev pub outside : ℕ → ℕ → ℕ → Bool
outside low high x = ltb x low || ltb high x

abbrev pub within : ℕ → ℕ → ℕ → Bool
within start end i = leb start i && ltb i end

abbrev pub differs : ℕ → ℕ → Bool
differs n asked = not (eqb n asked)

abbrev pub above : ℕ → ℤ → Bool
above M z = ltb M (nat_abs z)

pub record Shape : Type 0 where
  pub plans : List (List Stage)
  pub divisor : ℕ
  pub cells : ℕ
  pub bad_size : Bool

abbrev pub series_of : List Stage → ℕ → Shape
series_of ss N = record { plans = ss ∷ []; divisor = divisor ss; cells = N; bad_size = outside least max_length N }

-- "the divisor is the product of both divisors"
abbrev pub picture_of : List Stage → List Stage → ℕ → ℕ → Shape
picture_of hs vs W H = record {
  plans = hs ∷ vs ∷ [];
  divisor = divisor hs * divisor vs;
  cells = W * H;
  bad_size = outside least max_side W || outside least max_side H || ltb max_length (W * H);
}

-- "K, r, b, a not allowed (either plan of a picture)"
unfoldable pub plan_rows : List (List Stage) → List Row
plan_rows ps =
    (1 when some (λ ss. outside least max_passes (length ss)) ps)
    ∷ (2 when some (some (λ s. ltb max_radius s.radius)) ps)
    ∷ (3 when some (some (λ s. outside least max_inner s.inner)) ps)
    ∷ (4 when some (some (λ s. leb s.inner s.edge)) ps)
    ∷ []

-- "M not allowed"; "M times the divisor too large"; "a length, width, height or cell count not allowed"; "a lent slice is not the asked length"
unfoldable pub size_rows : ℕ → ℕ → Bool → Bool → List Row
size_rows M product bad_size wrongLength =
    (5 when outside least max_bound M)
    ∷ (6 when ltb max_result product)
    ∷ (7 when bad_size)
    ∷ (8 when wrongLength)
    ∷ []

abbrev pub common_rows : Shape → ℕ → Bool → List Row
common_rows s M wrongLength = plan_rows s.plans ++ size_rows M (M * s.divisor) s.bad_size wrongLength

-- "All refused calls keep every slice unaltered."
unfoldable pub if_done : {A : Type 0} → Answer → A → A → A
if_done a new old = cond (eqb a.number 0) new old

-- "Work slices hold zeros after a completed call."
abbrev pub zeros : List ℤ → List ℤ
zeros w = replicate (length w) (pos 0)

-- ---- a plan by itself
-- what refuses it under every bound: the least is 1, so 6 asks the divisor itself
unfoldable pub own_rows : List Stage → List Row
own_rows ss = plan_rows (ss ∷ []) ++ (6 when ltb max_result (divisor ss)) ∷ []

-- "any number answered besides these three, is 0 on refusal"
unfoldable pub plan_divisor : List Stage → ℕ
plan_divisor ss = if_done (first_of (own_rows ss)) (divisor ss) 0

unfoldable pub plan_reach : List Stage → ℕ
plan_reach ss = if_done (first_of (own_rows ss)) (reach ss) 0
