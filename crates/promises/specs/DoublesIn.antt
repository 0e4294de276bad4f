-- Doubles in: `samples::doubles_in` by its own contract, for all inputs.
--   DoublesCall        any call, as its contract lets it end
--   bound, doubles, samples   what it was given
--   number, place      what it answered
--   samples_left        what it left
--   double c i, sample c i    the double at i, and the sample left there
--   rows, Allowed      its rows of the table of numbers, and the bounds of document 01
--   Exactly            as of Smoothings
--   doubles_in_lowest  the number is 0, or that of a row that applies, and then the lowest of those
--   doubles_in_done, doubles_in_allowed   it is 0 exactly where no row applies, and exactly where the bounds hold
--   doubles_in_place_11, doubles_in_place_other   at 11 the place is that of the first double that is no whole number of size at most the bound, else 0
--   doubles_in_bad     at 11, and there alone, the number of bad samples is not 0, and how many doubles are no such number; and 11 is given exactly where some are not and no lower row applies
--   doubles_in_unchanged   a refused call leaves every sample as it was
--   doubles_in_length  one that is done leaves as many samples as there are doubles
--   doubles_in_samples each of them equals its double, and has size at most the bound
--   doubles_in_minus_zero  so minus zero becomes 0
--   doubles_in_back    and a whole number that came as a double is that number
--   doubles_in_one     two outcomes that the contract allows are the same
use Rattle.std.specs.Prelude.{ℕ, ◌≤◌, ◌<◌, ◌≡◌, ◌≢◌, true, List, map, length, get_or, ℤ, pos, nat_abs, Float}
use Rattle.std.proofs.Common.{sym, ap, ◌∙◌, arith}
use Rattle.std.proofs.lemmas.List.{length-map}
use Rattle.std.specs.Float.{nan, fin, binary64}
use Rattle.std.specs.Float.Ieee.{of_int, to_signed, eq}
use contract.Lifetimes.{Lfts}
use denote.Triple.Clauses.{AtExit}
use borrow.Fn.Kinds.{Dens, res_t, ended_of}
use Rattle.meaning.specs.Extension.{at}
use Rattle.meaning.specs.Refusals as meant
use Rattle.meaning.specs.Refusals.{Row, first_of, Applies}
use Rattle.meaning.specs.Values.{Converted, takes, double_rows, doubles_in}
use Rattle.meaning.specs.Bounds.{WholeDouble, AllowedDoubles, FirstAt, Counted}
use Rattle.theory.specs.Refusals.{number_lowest, number_none, if_done_done, if_done_refused}
use Rattle.theory.specs.Fill.{get_d_map}
use Rattle.theory.specs.Doubles.{whole_takes, taken_size, taken_same, back_taken, minus_zero}
use Rattle.theory.specs.AcceptedDoubles as tested
use Rattle.plan.specs.Structs.{answer_of, one_answer}
use Rattle.samples.proofs.doubles_in.Reads as doubles-in
use Rattle.samples.proofs.doubles_in.Kinds as kinds
use Rattle.promises.specs.Smoothings.{Exactly}

pub record DoublesCall : Type 1 where
  pub lifetimes : Lfts 2
  pub given : Dens lifetimes kinds.ps
  pub answered : (res_t kinds.r lifetimes).Denot
  pub left : AtExit (ended_of 2 kinds.ps kinds.r) lifetimes
  pub learnt : doubles-in.Learnt lifetimes given answered left

-- ---- what was given, answered and left
abbrev pub bound : DoublesCall → ℕ
bound c = c.given.0

abbrev pub doubles : DoublesCall → List Float
doubles c = c.given.1.0.now

abbrev pub samples : DoublesCall → List ℤ
samples c = c.given.1.1.0.now

abbrev pub number : DoublesCall → ℕ
number c = (answer_of c.answered).number

abbrev pub place : DoublesCall → ℕ
place c = (answer_of c.answered).position

abbrev pub samples_left : DoublesCall → List ℤ
samples_left c = c.left.1.1.0.now

abbrev pub double : DoublesCall → ℕ → Float
double c i = get_or (doubles c) i nan

abbrev pub sample : DoublesCall → ℕ → ℤ
sample c i = at (samples_left c) i

abbrev pub rows : DoublesCall → List Row
rows c = double_rows (bound c) (doubles c) (length (samples c))

abbrev pub Allowed : DoublesCall → Type 0
Allowed c = AllowedDoubles (bound c) (doubles c) (length (samples c))

-- ---- one call
module _ (c : DoublesCall) where
  answer_is : answer_of c.answered ≡ first_of (rows c)
  unfolding doubles_in
  answer_is = c.learnt.answer

  number_is : number c ≡ (first_of (rows c)).number
  number_is = ap (λ (x : meant.Answer). x.number) answer_is

  pub doubles_in_lowest : (number c ≢ 0 → Applies (number c) (rows c)) × ((n : ℕ) → Applies n (rows c) → number c ≤ n)
  doubles_in_lowest = number_lowest (rows c) number_is (tested.double_rising _ _ _)

  pub doubles_in_done : Exactly (number c ≡ 0) ((n : ℕ) → Applies n (rows c) → ⊥)
  doubles_in_done = number_none (rows c) number_is (tested.double_numbered _ _ _)

  pub doubles_in_allowed : Exactly (number c ≡ 0) (Allowed c)
  doubles_in_allowed = (λ e. tested.doubles_allowed _ _ _ (sym number_is ∙ e), λ ok. number_is ∙ ap (λ (x : meant.Answer). x.number) (tested.allowed_doubles _ _ _ ok))

  pub doubles_in_place_11 : number c ≡ 11 → FirstAt (length (doubles c)) (λ i. WholeDouble (bound c) (double c i) → ⊥) (place c)
  doubles_in_place_11 = tested.double_position _ _ _ answer_is

  pub doubles_in_place_other : number c ≢ 11 → place c ≡ 0
  doubles_in_place_other = tested.double_no_position _ _ _ answer_is

  pub doubles_in_bad : Counted (λ i. WholeDouble (bound c) (double c i) → ⊥) (length (doubles c)) (rows c) (answer_of c.answered)
  doubles_in_bad = tested.double_bad _ _ _ answer_is

  pub doubles_in_unchanged : number c ≢ 0 → samples_left c ≡ samples c
  unfolding doubles_in
  doubles_in_unchanged n = c.learnt.cells ∙ if_done_refused _ _ _ (λ e. n (number_is ∙ e))

  -- a call that is done
  module _ (e : number c ≡ 0) where
    cut : samples_left c ≡ map (to_signed 31) (doubles c)
    unfolding doubles_in
    cut = c.learnt.cells ∙ if_done_done _ _ _ (sym number_is ∙ e)

    pub doubles_in_length : length (samples_left c) ≡ length (doubles c)
    doubles_in_length = ap length cut ∙ length-map (doubles c) (to_signed 31)

    module _ {i : ℕ} (l : i < length (doubles c)) where
      sample_is : sample c i ≡ to_signed 31 (double c i)
      sample_is = ap (λ (f : List ℤ). at f i) cut ∙ get_d_map (to_signed 31) (doubles c) i nan (pos 0) l

      taken : takes (bound c) (double c i) ≡ true
      taken = whole_takes _ ((doubles_in_allowed.0 e).doubles i l)

      pub doubles_in_samples : (eq (of_int binary64 (sample c i)) (double c i) ≡ true) × (nat_abs (sample c i) ≤ bound c)
      doubles_in_samples = let m = (doubles_in_allowed.0 e).bound.1 in rw sample_is (taken_same _ (omega (arith, m)) _ taken 31 (omega (arith, m)), taken_size _ (omega (arith, m)) _ taken 31 (omega (arith, m)))

      pub doubles_in_minus_zero : {k : ℤ} → double c i ≡ fin true 0 k → sample c i ≡ pos 0
      doubles_in_minus_zero {k} z = sample_is ∙ ap (to_signed 31) z ∙ minus_zero 31 (omega arith) k

      pub doubles_in_back : {z : ℤ} → nat_abs z ≤ bound c → double c i ≡ of_int binary64 z → sample c i ≡ z
      doubles_in_back {z} m h = let l = (doubles_in_allowed.0 e).bound.1 in sample_is ∙ ap (to_signed 31) h ∙ (back_taken (bound c) (omega (arith, l)) 31 (omega (arith, l)) z m).1

-- ---- two calls
outcome_same : {M L : ℕ} {xs ys : List Float} {f g : List ℤ} → M ≡ L → xs ≡ ys → f ≡ g → doubles_in M xs f ≡ doubles_in L ys g
outcome_same m x f = rw (m, x, f)

pub doubles_in_one : (c d : DoublesCall) → bound c ≡ bound d → doubles c ≡ doubles d → samples c ≡ samples d → (c.answered ≡ d.answered) × (samples_left c ≡ samples_left d)
doubles_in_one c d m x f =
    let same = outcome_same m x f in (
      one_answer _ _ (c.learnt.answer ∙ ap (λ (o : Converted ℤ). o.answer) same ∙ sym d.learnt.answer),
      c.learnt.cells ∙ ap (λ (o : Converted ℤ). o.cells) same ∙ sym d.learnt.cells,
    )
