-- Results as doubles that are the same numbers, and back: `exact::results_to_doubles` and `exact::doubles_to_results` by their own contracts, for all inputs.
--   ExactCall, BackCall   any call of the one and of the other, as its contract lets it end
--   results, cells, cells_left       what the one was given, and left;  result c i, cell c i   the result at i, and the cell left there
--   doubles, lent, results_left      what the other was given (lent are the results before), and left;  double d i, back d i   the double at i, and the result left there
--   exactly c, backward d           their rows of the table of numbers
--   AllowedExact r n      the bounds of the results r and n cells;  AllowedBack xs n  of the doubles xs and n results: from 1 to 65,536, as many lent, none above the largest result
--   Exactly               as of Smoothings;  Whole  as of Points
--   exact_lowest, back_lowest       the number is 0, or that of a row that applies, and then the lowest of those
--   exact_done, back_done           it is 0 exactly where no row applies
--   exact_allowed, back_allowed     and exactly where the bounds hold
--   exact_place_12, exact_place_other   at 12 the place is that of the first result above the largest, else 0
--   back_place_11, back_place_other     at 11 that of the first double that is no whole number so small, else 0
--   back_bad              at 11, and there alone, the number of bad doubles is not 0, and how many are no such number; and 11 is given exactly where some are not and no lower row applies
--   exact_unchanged, back_unchanged     a refused call leaves every cell as it was
--   exact_cells           one that is done leaves as many doubles as there are results, and each is the number that its result is
--   back_cells            as many results as there are doubles: each equals its double, and is no larger than a result may be
--   back_minus_zero       so minus zero comes back as 0
--   exact_one, back_one   two outcomes that the contract allows are the same
--   exact_back            the doubles that results were made of are accepted, and give these results back
--   back_exact            the results that doubles were made of are accepted, and each double left equals the one given: of minus zero it is plus zero
use Rattle.std.specs.Prelude.{ℕ, suc, ◌≤◌, ◌<◌, ◌≡◌, refl, ◌≢◌, Bool, true, false, length, get_or, ℤ, pos, nat_abs, Float}
use Rattle.std.proofs.Common.{sym, ap₂, ◌∙◌, true≢false, le_refl, arith}
use Rattle.std.proofs.Math.Path.{ap}
use Rattle.std.proofs.Math.Bool.{not}
use mathlib.Core.List.{List, [], ◌∷◌, ◌++◌, map}
use mathlib.Mathlib.Data.Bool.Basic.{eq-false_of_not-eq-true}
use borrow.Author.Tests.{ltb-true, ltb-false, lt-ltb, le-ltb, not-true, not-false}
use Rattle.std.proofs.lemmas.List.{length-map}
use Rattle.std.specs.Int.Signed.{lt_z}
use Rattle.std.specs.Float.{nan, fin, binary64}
use Rattle.std.specs.Float.Ieee.{of_int, to_signed, eq}
use contract.Lifetimes.{Lfts}
use denote.Triple.Clauses.{AtExit}
use borrow.Fn.Kinds.{Dens, res_t, ended_of}
use Rattle.meaning.specs.Limits.{least, max_length, max_result}
use Rattle.meaning.specs.Extension.{at}
use Rattle.meaning.specs.Refusals as meant
use Rattle.meaning.specs.Refusals.{Row, first_of, Applies, row_at, above}
use Rattle.meaning.specs.Values.{Converted, takes}
use Rattle.meaning.specs.Exact.{length_rows, exact_rows, results_to_doubles, back_rows, doubles_to_results}
use Rattle.meaning.specs.Bounds.{WholeDouble, FirstAt, Counted}
use Rattle.theory.specs.Refusals.{Off, Numbered, Rising, done_off, off_done, number_lowest, number_none, if_done_done, if_done_refused}
use Rattle.theory.specs.Places.{row_at_off, row_at_none, place_here, place_other, first_map}
use Rattle.theory.specs.BadSamples.{none_behind, bad_counted}
use Rattle.theory.specs.Tests.{outside_no, no_outside, differs_no, no_differs}
use Rattle.theory.specs.Fill.{get_d_map}
use Rattle.theory.specs.Values.{whole_exact}
use Rattle.theory.specs.Doubles.{takes_whole, whole_takes, taken_size, taken_same, back_taken, minus_zero}
use Rattle.plan.specs.Structs.{answer_of, one_answer}
use Rattle.exact.proofs.results_to_doubles.Reads as results-to-doubles
use Rattle.exact.proofs.results_to_doubles.Kinds as exact-kinds
use Rattle.exact.proofs.doubles_to_results.Reads as doubles-to-results
use Rattle.exact.proofs.doubles_to_results.Kinds as back-kinds
use Rattle.promises.specs.Smoothings.{Exactly}
use Rattle.promises.specs.Points.{Whole}

pub record ExactCall : Type 1 where
  pub lifetimes : Lfts 2
  pub given : Dens lifetimes exact-kinds.ps
  pub answered : (res_t exact-kinds.r lifetimes).Denot
  pub left : AtExit (ended_of 2 exact-kinds.ps exact-kinds.r) lifetimes
  pub learnt : results-to-doubles.Learnt lifetimes given answered left

pub record BackCall : Type 1 where
  pub lifetimes : Lfts 2
  pub given : Dens lifetimes back-kinds.ps
  pub answered : (res_t back-kinds.r lifetimes).Denot
  pub left : AtExit (ended_of 2 back-kinds.ps back-kinds.r) lifetimes
  pub learnt : doubles-to-results.Learnt lifetimes given answered left

-- ---- what was given, answered and left
abbrev pub results : ExactCall → List ℤ
results c = c.given.0.now

abbrev pub cells : ExactCall → List Float
cells c = c.given.1.0.now

abbrev pub cells_left : ExactCall → List Float
cells_left c = c.left.1.0.now

abbrev pub result : ExactCall → ℕ → ℤ
result c i = at (results c) i

abbrev pub cell : ExactCall → ℕ → Float
cell c i = get_or (cells_left c) i nan

abbrev pub exactly : ExactCall → List Row
exactly c = exact_rows (results c) (length (cells c))

abbrev pub doubles : BackCall → List Float
doubles d = d.given.0.now

abbrev pub lent : BackCall → List ℤ
lent d = d.given.1.0.now

abbrev pub results_left : BackCall → List ℤ
results_left d = d.left.1.0.now

abbrev pub double : BackCall → ℕ → Float
double d i = get_or (doubles d) i nan

abbrev pub back : BackCall → ℕ → ℤ
back d i = at (results_left d) i

abbrev pub backward : BackCall → List Row
backward d = back_rows (doubles d) (length (lent d))

-- ---- their bounds
pub record AllowedExact (r : List ℤ) (n : ℕ) : Type 0 where
  pub count : (least ≤ length r) × (length r ≤ max_length)
  pub cells : n ≡ length r
  pub results : (i : ℕ) → i < length r → nat_abs (at r i) ≤ max_result

pub record AllowedBack (xs : List Float) (n : ℕ) : Type 0 where
  pub count : (least ≤ length xs) × (length xs ≤ max_length)
  pub results : n ≡ length xs
  pub doubles : (i : ℕ) → i < length xs → WholeDouble max_result (get_or xs i nan)

-- rows 7 and 8, and then row k at the first place where t is true
module _ (k N n : ℕ) (t : ℕ → Bool) where
  lengths_off : Off (length_rows N n ++ row_at k N t ∷ []) → ((least ≤ N) × (N ≤ max_length)) × (n ≡ N) × ((i : ℕ) → i < N → t i ≡ false)
  unfolding length_rows
  lengths_off h = (outside_no least max_length N h.0, differs_no n N h.1.0, row_at_none k N t h.1.1.0)

  off_lengths : (least ≤ N) × (N ≤ max_length) → n ≡ N → ((i : ℕ) → i < N → t i ≡ false) → Off (length_rows N n ++ row_at k N t ∷ [])
  unfolding length_rows
  off_lengths c e h = (no_outside c.0 c.1, (no_differs e, (row_at_off k N h, tt)))

module _ (r : List ℤ) (n : ℕ) where
  abbrev large : ℕ → Bool
  large i = above max_result (at r i)

  exact_numbered : Numbered (exact_rows r n)
  unfolding exact_rows length_rows row_at
  exact_numbered = tt

  exact_rising : Rising (exact_rows r n)
  unfolding exact_rows length_rows row_at
  exact_rising = tt

  held : (first_of (exact_rows r n)).number ≡ 0 → AllowedExact r n
  unfolding exact_rows
  held e = let h = lengths_off 12 (length r) n large (done_off (exact_rows r n) exact_numbered e) in record { count = h.0; cells = h.1; results = λ i l. ltb-false _ _ (h.2 i l) }

  holds : AllowedExact r n → (first_of (exact_rows r n)).number ≡ 0
  unfolding exact_rows
  holds ok = ap (λ (a : meant.Answer). a.number) (off_done (exact_rows r n) (off_lengths 12 (length r) n large ok.count ok.cells (λ i l. le-ltb _ _ (ok.results i l))))

module _ (xs : List Float) (n : ℕ) where
  abbrev untaken : ℕ → Bool
  untaken i = not (takes max_result (get_or xs i nan))

  back_numbered : Numbered (back_rows xs n)
  unfolding back_rows length_rows row_at
  back_numbered = tt

  back_rising : Rising (back_rows xs n)
  unfolding back_rows length_rows row_at
  back_rising = tt

  taken : (first_of (back_rows xs n)).number ≡ 0 → AllowedBack xs n
  unfolding back_rows
  taken e = let h = lengths_off 11 (length xs) n untaken (done_off (back_rows xs n) back_numbered e) in record { count = h.0; results = h.1; doubles = λ i l. takes_whole max_result _ (not-false _ (h.2 i l)) }

  takable : AllowedBack xs n → (first_of (back_rows xs n)).number ≡ 0
  unfolding back_rows
  takable ok = ap (λ (a : meant.Answer). a.number) (off_done (back_rows xs n) (off_lengths 11 (length xs) n untaken ok.count ok.results (λ i l. ap not (whole_takes _ (ok.doubles i l)))))

  -- the test by what it tests
  not_whole : (i : ℕ) → i < length xs → untaken i ≡ true → WholeDouble max_result (get_or xs i nan) → ⊥
  not_whole i l k w = true≢false (sym (whole_takes _ w) ∙ not-true _ k)

  whole_not : (i : ℕ) → i < length xs → (WholeDouble max_result (get_or xs i nan) → ⊥) → untaken i ≡ true
  whole_not i l k = ap not (eq-false_of_not-eq-true (λ t. k (takes_whole max_result _ t)))

-- ---- results as doubles
module _ (c : ExactCall) where
  exact_is : answer_of c.answered ≡ first_of (exactly c)
  unfolding results_to_doubles
  exact_is = c.learnt.answer

  exact_number : (answer_of c.answered).number ≡ (first_of (exactly c)).number
  exact_number = ap (λ (a : meant.Answer). a.number) exact_is

  pub exact_lowest : ((answer_of c.answered).number ≢ 0 → Applies (answer_of c.answered).number (exactly c)) × ((n : ℕ) → Applies n (exactly c) → (answer_of c.answered).number ≤ n)
  exact_lowest = number_lowest (exactly c) exact_number (exact_rising _ _)

  pub exact_done : Exactly ((answer_of c.answered).number ≡ 0) ((n : ℕ) → Applies n (exactly c) → ⊥)
  exact_done = number_none (exactly c) exact_number (exact_numbered _ _)

  pub exact_allowed : Exactly ((answer_of c.answered).number ≡ 0) (AllowedExact (results c) (length (cells c)))
  exact_allowed = (λ e. held _ _ (sym exact_number ∙ e), λ ok. exact_number ∙ holds _ _ ok)

  pub exact_place_12 : (answer_of c.answered).number ≡ 12 → FirstAt (length (results c)) (λ i. max_result < nat_abs (result c i)) (answer_of c.answered).position
  unfolding exact_rows length_rows
  exact_place_12 h = first_map (λ i l k. ltb-true _ _ k) (λ i l k. lt-ltb _ _ k) (place_here 12 (length (results c)) (length_rows (length (results c)) (length (cells c))) tt (large (results c) (length (cells c))) (omega arith) exact_is h).first

  pub exact_place_other : (answer_of c.answered).number ≢ 12 → (answer_of c.answered).position ≡ 0
  unfolding exact_rows length_rows
  exact_place_other h = (place_other 12 (length (results c)) (length_rows (length (results c)) (length (cells c))) tt (large (results c) (length (cells c))) (omega arith) exact_is h).1

  pub exact_unchanged : (answer_of c.answered).number ≢ 0 → cells_left c ≡ cells c
  unfolding results_to_doubles
  exact_unchanged n = c.learnt.cells ∙ if_done_refused _ _ _ (λ e. n (exact_number ∙ e))

  -- a call that is done
  module _ (e : (answer_of c.answered).number ≡ 0) where
    exact_whole : cells_left c ≡ map (of_int binary64) (results c)
    unfolding results_to_doubles
    exact_whole = c.learnt.cells ∙ if_done_done _ _ _ (sym exact_number ∙ e)

    exact_length : length (cells_left c) ≡ length (results c)
    exact_length = ap length exact_whole ∙ length-map (results c) (of_int binary64)

    exact_cell : {i : ℕ} → i < length (results c) → cell c i ≡ of_int binary64 (result c i)
    exact_cell {i} l = ap (λ (x : List Float). get_or x i nan) exact_whole ∙ get_d_map (of_int binary64) (results c) i (pos 0) nan l

    pub exact_cells : (length (cells_left c) ≡ length (results c)) × ((i : ℕ) → i < length (results c) → Whole (result c i) (cell c i))
    exact_cells = (exact_length, λ i l. rw (exact_cell l) (whole_exact (result c i) ((exact_allowed.0 e).results i l)))

-- ---- doubles as results
module _ (d : BackCall) where
  back_is : answer_of d.answered ≡ first_of (backward d)
  unfolding doubles_to_results
  back_is = d.learnt.answer

  back_number : (answer_of d.answered).number ≡ (first_of (backward d)).number
  back_number = ap (λ (a : meant.Answer). a.number) back_is

  pub back_lowest : ((answer_of d.answered).number ≢ 0 → Applies (answer_of d.answered).number (backward d)) × ((n : ℕ) → Applies n (backward d) → (answer_of d.answered).number ≤ n)
  back_lowest = number_lowest (backward d) back_number (back_rising _ _)

  pub back_done : Exactly ((answer_of d.answered).number ≡ 0) ((n : ℕ) → Applies n (backward d) → ⊥)
  back_done = number_none (backward d) back_number (back_numbered _ _)

  pub back_allowed : Exactly ((answer_of d.answered).number ≡ 0) (AllowedBack (doubles d) (length (lent d)))
  back_allowed = (λ e. taken _ _ (sym back_number ∙ e), λ ok. back_number ∙ takable _ _ ok)

  pub back_place_11 : (answer_of d.answered).number ≡ 11 → FirstAt (length (doubles d)) (λ i. WholeDouble max_result (double d i) → ⊥) (answer_of d.answered).position
  unfolding back_rows length_rows
  back_place_11 h = first_map (not_whole (doubles d) 0) (whole_not (doubles d) 0) (place_here 11 (length (doubles d)) (length_rows (length (doubles d)) (length (lent d))) tt (untaken (doubles d) 0) (omega arith) back_is h).first

  pub back_place_other : (answer_of d.answered).number ≢ 11 → (answer_of d.answered).position ≡ 0
  unfolding back_rows length_rows
  back_place_other h = (place_other 11 (length (doubles d)) (length_rows (length (doubles d)) (length (lent d))) tt (untaken (doubles d) 0) (omega arith) back_is h).1

  pub back_bad : Counted (λ i. WholeDouble max_result (double d i) → ⊥) (length (doubles d)) (backward d) (answer_of d.answered)
  unfolding back_rows length_rows
  back_bad = bad_counted (length_rows (length (doubles d)) (length (lent d))) [] tt (length (doubles d)) (untaken (doubles d) 0) (not_whole (doubles d) 0) (whole_not (doubles d) 0) back_is none_behind (back_rising (doubles d) (length (lent d))) (back_numbered (doubles d) (length (lent d)))

  pub back_unchanged : (answer_of d.answered).number ≢ 0 → results_left d ≡ lent d
  unfolding doubles_to_results
  back_unchanged n = d.learnt.cells ∙ if_done_refused _ _ _ (λ e. n (back_number ∙ e))

  -- a call that is done
  module _ (e : (answer_of d.answered).number ≡ 0) where
    back_whole : results_left d ≡ map (to_signed 63) (doubles d)
    unfolding doubles_to_results
    back_whole = d.learnt.cells ∙ if_done_done _ _ _ (sym back_number ∙ e)

    back_length : length (results_left d) ≡ length (doubles d)
    back_length = ap length back_whole ∙ length-map (doubles d) (to_signed 63)

    back_cell : {i : ℕ} → i < length (doubles d) → back d i ≡ to_signed 63 (double d i)
    back_cell {i} l = ap (λ (f : List ℤ). at f i) back_whole ∙ get_d_map (to_signed 63) (doubles d) i nan (pos 0) l

    back_taken_at : {i : ℕ} → i < length (doubles d) → takes max_result (double d i) ≡ true
    back_taken_at {i} l = whole_takes _ ((back_allowed.0 e).doubles i l)

    pub back_cells : (length (results_left d) ≡ length (doubles d)) × ((i : ℕ) → i < length (doubles d) → (eq (of_int binary64 (back d i)) (double d i) ≡ true) × (nat_abs (back d i) ≤ max_result))
    back_cells = (back_length, λ i l. rw (back_cell l) (taken_same max_result (le_refl max_result) _ (back_taken_at l) 63 (omega arith), taken_size max_result (le_refl max_result) _ (back_taken_at l) 63 (omega arith)))

    pub back_minus_zero : {i : ℕ} → i < length (doubles d) → {k : ℤ} → double d i ≡ fin true 0 k → back d i ≡ pos 0
    back_minus_zero l {k} z = back_cell l ∙ ap (to_signed 63) z ∙ minus_zero 63 (omega arith) k

-- ---- two calls
exact_same : {r s : List ℤ} {x y : List Float} → r ≡ s → x ≡ y → results_to_doubles r x ≡ results_to_doubles s y
exact_same r x = rw (r, x)

back_same : {x y : List Float} {r s : List ℤ} → x ≡ y → r ≡ s → doubles_to_results x r ≡ doubles_to_results y s
back_same x r = rw (x, r)

pub exact_one : (c d : ExactCall) → results c ≡ results d → cells c ≡ cells d → (c.answered ≡ d.answered) × (cells_left c ≡ cells_left d)
exact_one c d r x =
    let same = exact_same r x in (
      one_answer _ _ (c.learnt.answer ∙ ap (λ (o : Converted Float). o.answer) same ∙ sym d.learnt.answer),
      c.learnt.cells ∙ ap (λ (o : Converted Float). o.cells) same ∙ sym d.learnt.cells,
    )

pub back_one : (c d : BackCall) → doubles c ≡ doubles d → lent c ≡ lent d → (c.answered ≡ d.answered) × (results_left c ≡ results_left d)
back_one c d x r =
    let same = back_same x r in (
      one_answer _ _ (c.learnt.answer ∙ ap (λ (o : Converted ℤ). o.answer) same ∙ sym d.learnt.answer),
      c.learnt.cells ∙ ap (λ (o : Converted ℤ). o.cells) same ∙ sym d.learnt.cells,
    )

-- ---- each undoes the other
there_and_back : (r : List ℤ) → ((i : ℕ) → i < length r → nat_abs (at r i) ≤ max_result) → map (to_signed 63) (map (of_int binary64) r) ≡ r
there_and_back [] h = refl
there_and_back (z ∷ r) h = ap₂ ◌∷◌ (back_taken max_result (le_refl max_result) 63 (omega arith) z (h 0 (omega arith))).1 (there_and_back r (λ i l. h (suc i) (omega arith)))

module _ (c : ExactCall) (d : BackCall) where
  pub exact_back : (answer_of c.answered).number ≡ 0 → doubles d ≡ cells_left c → length (lent d) ≡ length (doubles d) → ((answer_of d.answered).number ≡ 0) × (results_left d ≡ results c)
  exact_back e x n =
      let ok = (exact_allowed c).0 e in
      let same = ap length x ∙ exact_length c e in
      let done = (back_allowed d).1 (record {
        count = rw same ok.count;
        results = n;
        doubles = λ i l. record { negative = lt_z (result c i) (pos 0); size = nat_abs (result c i); most = ok.results i (omega (arith, l, same)); is = rw x ((exact_cells c e).1 i (omega (arith, l, same))) };
      }) in
      (done, back_whole d done ∙ ap (map (to_signed 63)) (x ∙ exact_whole c e) ∙ there_and_back (results c) ok.results)

  pub back_exact : (answer_of d.answered).number ≡ 0 → results c ≡ results_left d → length (cells c) ≡ length (results c)
      → ((answer_of c.answered).number ≡ 0) × (length (cells_left c) ≡ length (doubles d)) × ((i : ℕ) → i < length (doubles d) → eq (cell c i) (double d i) ≡ true)
  back_exact e r n =
      let ok = (back_allowed d).0 e in
      let same = ap length r ∙ back_length d e in
      let done = (exact_allowed c).1 (record { count = rw same ok.count; cells = n; results = λ i l. rw r ((back_cells d e).1 i (omega (arith, l, same))).1 }) in
      (done, exact_length c done ∙ same, λ i l. rw (exact_cell c done {i = i} (omega (arith, l, same)), r) ((back_cells d e).1 i l).0)
