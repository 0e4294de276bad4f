-- The table of numbers: which row answers, and what an answer of 0 says. The first three conditions are tt of rows that are written down.
--   Numbered rows     no row answers 0
--   Rising rows       the numbers rise from row to row, from above 0;  RisingFrom m rows  from above m
--   Below m a         the answer a has a number below m, position 0 and no bad sample
--   Unplaced m rows   so has every row
--   Off rows          no row applies
--   done              the answer 0 with position 0 and no bad sample
--   rows_of tests xs   a row for each numbered test, which applies where it is true of one of xs
--   Lower a b c       c is that of a and b with the lower number, where 0 is none
-- Laws: first_on, first_off (the first row applies, or not), first_applies (the answer is that of a row that applies), first_lowest (where the numbers rise, of the lowest);
-- first_parts (the answer is that of rows without position, or that of the rest), first_unplaced;
-- done_off, off_done, done_none, none_done (it is 0 exactly where none applies); number_lowest, number_none, number_exactly (of a call that answers that number); number_zero (of two answers that are the same); applies_append, off_append, append_off; refused_first, done_rest, first_then, then_done, first_either (rows in two parts), first_alone (of no second part); rising_numbered, first_above (where the numbers rise);
-- off_more, more_off (the same tests of one thing more), two_lower (of two things, by the rows of each);
-- if_done_done, if_done_refused, if_done_ext; plan_numbered, common_numbered, common_size (where row 7 applies, row 8 does not matter).
use Rattle.std.specs.Prelude.{◌≡◌, refl, ◌⊎◌, Bool, true, false, cond, ◌&&◌, ◌||◌, List, [], ◌∷◌, ◌++◌, ℕ, ◌*◌, ◌≤◌, ◌<◌, T, ltb, eqb}
use Rattle.std.proofs.Common.{sym, ◌∙◌, ap, inl, inr, ⊎_elim, true≢false, append-nil, arith, ltb-true, lt-ltb, eqb-true, eq-eqb, ne_eqb}
use Rattle.std.proofs.Math.Logic.{⊎_map}
use Rattle.std.proofs.Math.Decide.{ℕ_discrete, dec_lt}
use Rattle.meaning.specs.Kernel.{Stage}
use Rattle.theory.specs.Tests.{or_no, no_or}
use Rattle.meaning.specs.Refusals.{Answer, Row, first_of, Applies, here, later, ◌when◌, some, Shape, plan_rows, size_rows, common_rows, if_done}

abbrev pub done : Answer
done = record { number = 0; position = 0; bad = 0 }

abbrev numbered : List Row → Bool
numbered [] = true
numbered (row ∷ rows) = ltb 0 row.answer.number && numbered rows

abbrev pub Numbered : List Row → Type 0
Numbered rows = T (numbered rows)

abbrev rises_from : ℕ → List Row → Bool
rises_from n [] = true
rises_from n (row ∷ rows) = ltb n row.answer.number && rises_from row.answer.number rows

abbrev pub RisingFrom : ℕ → List Row → Type 0
RisingFrom m rows = T (rises_from m rows)

abbrev pub Rising : List Row → Type 0
Rising = RisingFrom 0

abbrev pub Below : ℕ → Answer → Type 0
Below m a = (a.number < m) × (a.position ≡ 0) × (a.bad ≡ 0)

abbrev unplaced : ℕ → List Row → Bool
unplaced m [] = true
unplaced m (row ∷ rows) = ltb row.answer.number m && (eqb row.answer.position 0 && (eqb row.answer.bad 0 && unplaced m rows))

abbrev pub Unplaced : ℕ → List Row → Type 0
Unplaced m rows = T (unplaced m rows)

abbrev pub Off : List Row → Type 0
Off [] = Unit {0}
Off (row ∷ rows) = (row.applies ≡ false) × Off rows

-- ---- which row answers
split : (a b : Bool) → T (a && b) → (a ≡ true) × T b
split true b t = (refl, t)
split false b t = absurd t

split_lt : (m n : ℕ) (b : Bool) → T (ltb m n && b) → (m < n) × T b
split_lt m n b t = let (h, u) = split (ltb m n) b t in (ltb-true m n h, u)

pub first_on : (row : Row) (rows : List Row) → row.applies ≡ true → first_of (row ∷ rows) ≡ row.answer
unfolding first_of
first_on row rows h = rw h

pub first_off : (row : Row) (rows : List Row) → row.applies ≡ false → first_of (row ∷ rows) ≡ first_of rows
unfolding first_of
first_off row rows h = rw h

pub off_done : (rows : List Row) → Off rows → first_of rows ≡ done
unfolding first_of
off_done [] h = refl
off_done (row ∷ rows) h = rw h.0 (off_done rows h.1)

pub done_off : (rows : List Row) → Numbered rows → (first_of rows).number ≡ 0 → Off rows
unfolding first_of
done_off [] t e = tt
done_off (row ∷ rows) t e =
    let (l, u) = split_lt 0 row.answer.number (numbered rows) t in
    go row.applies refl l (done_off rows u) e
  where
    go : (b : Bool) → row.applies ≡ b → 0 < row.answer.number → ((first_of rows).number ≡ 0 → Off rows) → (cond b row.answer (first_of rows)).number ≡ 0 → (row.applies ≡ false) × Off rows
    go true h l k e = let no : ⊥ = omega arith in absurd no
    go false h l k e = (h, k e)

-- ---- the lowest number that applies
pub first_applies : (rows : List Row) → ((first_of rows).number ≡ 0 → ⊥) → Applies (first_of rows).number rows
unfolding first_of
first_applies [] h = absurd (h refl)
first_applies (row ∷ rows) h = go row.applies refl (first_applies rows) h
  where
    go : (b : Bool) → row.applies ≡ b → (((first_of rows).number ≡ 0 → ⊥) → Applies (first_of rows).number rows) → ((cond b row.answer (first_of rows)).number ≡ 0 → ⊥) → Applies (cond b row.answer (first_of rows)).number (row ∷ rows)
    go true e k h = here refl e
    go false e k h = later (k h)

lowest_from : (m : ℕ) (rows : List Row) {n : ℕ} → T (rises_from m rows) → Applies n rows → ((first_of rows).number ≤ n) × (m < n)
unfolding first_of
lowest_from m [] t k = elim k [ ]
lowest_from m (row ∷ rows) t (here e h) = rw (h) (omega (arith, (split_lt m row.answer.number (rises_from row.answer.number rows) t).0))
lowest_from m (row ∷ rows) {n} t (later k) =
    let (l, u) = split_lt m row.answer.number (rises_from row.answer.number rows) t in
    go row.applies l (lowest_from row.answer.number rows u k)
  where
    go : (b : Bool) → m < row.answer.number → ((first_of rows).number ≤ n) × (row.answer.number < n) → ((cond b row.answer (first_of rows)).number ≤ n) × (m < n)
    go true l r = omega arith
    go false l r = omega arith

pub first_lowest : (rows : List Row) {n : ℕ} → Rising rows → Applies n rows → (first_of rows).number ≤ n
first_lowest rows t k = (lowest_from 0 rows t k).0

pub first_above : (m : ℕ) (rows : List Row) → RisingFrom m rows → 0 < (first_of rows).number → m < (first_of rows).number
first_above m rows t l = (lowest_from m rows t (first_applies rows (λ z. omega arith))).1

pub rising_numbered : (m : ℕ) (rows : List Row) → RisingFrom m rows → Numbered rows
rising_numbered m [] t = tt
rising_numbered m (row ∷ rows) t =
    let (l, u) = split_lt m row.answer.number (rises_from row.answer.number rows) t in
    rw (lt-ltb 0 row.answer.number (omega arith)) (rising_numbered row.answer.number rows u)

-- ---- no second part
pub first_alone : (rows : List Row) {a : Answer} → a ≡ first_of rows → a ≡ first_of (rows ++ [])
first_alone rows e = e ∙ ap first_of (sym (append-nil rows))

-- ---- rows with position 0
pub first_parts : (m : ℕ) (rows more : List Row) → Unplaced m rows → {a : Answer} → a ≡ first_of (rows ++ more) → Below m a ⊎ (Off rows × (a ≡ first_of more))
unfolding first_of
first_parts m [] more t e = inr (tt, e)
first_parts m (row ∷ rows) more t {a} e =
    let (l, u) = split_lt row.answer.number m (eqb row.answer.position 0 && (eqb row.answer.bad 0 && unplaced m rows)) t in
    let (z, v) = split (eqb row.answer.position 0) (eqb row.answer.bad 0 && unplaced m rows) u in
    let (b, w) = split (eqb row.answer.bad 0) (unplaced m rows) v in
    go row.applies refl (l, eqb-true _ _ z, eqb-true _ _ b) (first_parts m rows more w) e
  where
    go : (b : Bool) → row.applies ≡ b → Below m row.answer → (a ≡ first_of (rows ++ more) → Below m a ⊎ (Off rows × (a ≡ first_of more))) → a ≡ cond b row.answer (first_of (rows ++ more)) → Below m a ⊎ (((row.applies ≡ false) × Off rows) × (a ≡ first_of more))
    go true h p k e = inl (rw e p)
    go false h p k e = ⊎_map (λ q. q) (λ q. ((h, q.0), q.1)) (k e)

pub first_unplaced : (m : ℕ) (rows : List Row) → Unplaced m rows → (first_of rows).position ≡ 0
unfolding first_of
first_unplaced m rows t = ⊎_elim (λ p. p.1) (λ p. ap (λ (x : Answer). x.position) p.1) (first_parts m rows [] t (first_alone rows refl))

pub number_zero : {a b : Answer} → a ≡ b → a.number ≡ 0 → b.number ≡ 0
number_zero e z = sym (ap (λ (x : Answer). x.number) e) ∙ z

-- ---- done exactly where no row applies
off_none : (rows : List Row) {n : ℕ} → Off rows → Applies n rows → ⊥
off_none [] h k = elim k [ ]
off_none (row ∷ rows) h (here e k) = true≢false (sym k ∙ h.0)
off_none (row ∷ rows) h (later k) = off_none rows h.1 k

pub done_none : (rows : List Row) → Numbered rows → (first_of rows).number ≡ 0 → {n : ℕ} → Applies n rows → ⊥
done_none rows t e k = off_none rows (done_off rows t e) k

pub none_done : (rows : List Row) → ((n : ℕ) → Applies n rows → ⊥) → (first_of rows).number ≡ 0
none_done rows h = go (ℕ_discrete (first_of rows).number 0)
  where
    go : Dec ((first_of rows).number ≡ 0) → (first_of rows).number ≡ 0
    go (yes e) = e
    go (no e) = absurd (h _ (first_applies rows e))

-- a call that answers the number n
module _ (rows : List Row) {n : ℕ} (e : n ≡ (first_of rows).number) where
  pub number_lowest : Rising rows → ((n ≡ 0 → ⊥) → Applies n rows) × ((m : ℕ) → Applies m rows → n ≤ m)
  number_lowest t = rw e (first_applies rows, λ m k. first_lowest rows t k)

  pub number_none : Numbered rows → (n ≡ 0 → (m : ℕ) → Applies m rows → ⊥) × (((m : ℕ) → Applies m rows → ⊥) → n ≡ 0)
  number_none t = rw e (λ z m k. done_none rows t z k, none_done rows)

  pub number_exactly : Rising rows → Numbered rows → {k : ℕ} → Applies k rows → ((m : ℕ) → m < k → Applies m rows → ⊥) → n ≡ k
  number_exactly t u {k} on lower =
      let (first, least) = number_lowest t in
      let some : n ≡ 0 → ⊥ = λ z. (number_none u).0 z k on in
      go (dec_lt n k) (first some) (least k on)
    where
      go : Dec (n < k) → Applies n rows → n ≤ k → n ≡ k
      go (yes l) h m = absurd (lower n l h)
      go (no l) h m = omega arith

-- ---- what a call leaves
pub if_done_done : {A : Type 0} (a : Answer) (new old : A) → a.number ≡ 0 → if_done a new old ≡ new
unfolding if_done
if_done_done a new old e = rw (eq-eqb a.number 0 e)

pub if_done_refused : {A : Type 0} (a : Answer) (new old : A) → (a.number ≡ 0 → ⊥) → if_done a new old ≡ old
unfolding if_done
if_done_refused a new old e = rw (ne_eqb a.number 0 e)

pub if_done_ext : {A : Type 0} (a : Answer) {new new' : A} (old : A) → (a.number ≡ 0 → new ≡ new') → if_done a new old ≡ if_done a new' old
unfolding if_done
if_done_ext a {new} {new'} old h = go (eqb a.number 0) (λ e. h (eqb-true a.number 0 e))
  where
    go : (b : Bool) → (b ≡ true → new ≡ new') → cond b new old ≡ cond b new' old
    go true k = k refl
    go false k = refl

-- ---- rows in two parts
pub applies_append : (rows : List Row) {more : List Row} {n : ℕ} → Applies n more → Applies n (rows ++ more)
applies_append [] h = h
applies_append (row ∷ rows) h = later (applies_append rows h)

pub off_append : (rows more : List Row) → Off rows → Off more → Off (rows ++ more)
off_append [] more h k = k
off_append (row ∷ rows) more h k = (h.0, off_append rows more h.1 k)

pub append_off : (rows more : List Row) → Off (rows ++ more) → Off rows × Off more
append_off [] more h = (tt, h)
append_off (row ∷ rows) more h = let (a, b) = append_off rows more h.1 in ((h.0, a), b)

off_skip : (rows more : List Row) → Off rows → first_of (rows ++ more) ≡ first_of more
unfolding first_of
off_skip [] more h = refl
off_skip (row ∷ rows) more h = rw h.0 (off_skip rows more h.1)

-- a call that has tested the first part: refused, it has the answer; done, it has that of the rest
pub refused_first : (rows more : List Row) {a : Answer} → a ≡ first_of rows → (a.number ≡ 0 → ⊥) → a ≡ first_of (rows ++ more)
unfolding first_of
refused_first [] more e n = absurd (n (ap (λ (x : Answer). x.number) e))
refused_first (row ∷ rows) more {a} e n = go row.applies (λ f. refused_first rows more f n) e
  where
    go : (b : Bool) → (a ≡ first_of rows → a ≡ first_of (rows ++ more)) → a ≡ cond b row.answer (first_of rows) → a ≡ cond b row.answer (first_of (rows ++ more))
    go true k e = e
    go false k e = k e

pub done_rest : (rows more : List Row) {a b : Answer} → Numbered rows → a ≡ first_of rows → a.number ≡ 0 → b ≡ first_of more → b ≡ first_of (rows ++ more)
done_rest rows more {a} t e z f = f ∙ sym (off_skip rows more (done_off rows t (rw (← e) z)))

-- a call that has tested the first part, and the rest only where that answered 0
pub first_then : (rows more : List Row) {a b : Answer} → Numbered rows → a ≡ first_of rows → b ≡ if_done a (first_of more) a → b ≡ first_of (rows ++ more)
first_then rows more {a} t e f = f ∙ go (ℕ_discrete a.number 0)
  where
    go : Dec (a.number ≡ 0) → if_done a (first_of more) a ≡ first_of (rows ++ more)
    go (yes z) = if_done_done a (first_of more) a z ∙ done_rest rows more t e z refl
    go (no n) = if_done_refused a (first_of more) a n ∙ refused_first rows more e n

pub then_done : (a c : Answer) {b : Answer} → b ≡ if_done a c a → b.number ≡ 0 → a.number ≡ 0
then_done a c f z = go (ℕ_discrete a.number 0)
  where
    go : Dec (a.number ≡ 0) → a.number ≡ 0
    go (yes e) = e
    go (no e) = sym (ap (λ (x : Answer). x.number) (f ∙ if_done_refused a c a e)) ∙ z

-- the answer is that of the first part, or that of the rest
pub first_either : (rows more : List Row) → Numbered rows → {a : Answer} → a ≡ first_of (rows ++ more) → (a ≡ first_of rows) ⊎ (Off rows × (a ≡ first_of more))
first_either rows more t {a} e = go (ℕ_discrete (first_of rows).number 0)
  where
    go : Dec ((first_of rows).number ≡ 0) → (a ≡ first_of rows) ⊎ (Off rows × (a ≡ first_of more))
    go (yes z) = let h = done_off rows t z in inr (h, e ∙ off_skip rows more h)
    go (no n) = inl (e ∙ sym (refused_first rows more refl n))

-- ---- the same tests of two things
abbrev Before : Answer → Answer → Type 0
Before a b = 0 < b.number → (0 < a.number) × (a.number ≤ b.number)

abbrev pub Lower : Answer → Answer → Answer → Type 0
Lower a b c = (Before a b → a ≡ c) × (Before b a → b ≡ c)

abbrev pub rows_of : {A : Type 0} → List (ℕ × (A → Bool)) → List A → List Row
rows_of [] xs = []
rows_of (test ∷ tests) xs = (test.0 when some test.1 xs) ∷ rows_of tests xs

pub off_more : {A : Type 0} (tests : List (ℕ × (A → Bool))) (x : A) (xs : List A) → Off (rows_of tests (x ∷ xs)) → Off (rows_of tests (x ∷ [])) × Off (rows_of tests xs)
unfolding some
off_more [] x xs h = (tt, tt)
off_more (test ∷ tests) x xs (h, k) =
    let (a, b) = or_no (test.1 x) (some test.1 xs) h in
    let (c, d) = off_more tests x xs k in
    ((no_or a refl, c), (b, d))

pub more_off : {A : Type 0} (tests : List (ℕ × (A → Bool))) (x : A) (xs : List A) → Off (rows_of tests (x ∷ [])) → Off (rows_of tests xs) → Off (rows_of tests (x ∷ xs))
unfolding some
more_off [] x xs h k = tt
more_off (test ∷ tests) x xs (a, c) (b, d) = (no_or (or_no (test.1 x) false a).0 b, more_off tests x xs c d)

-- one row more in front, with a number below those of the others
lower_step : (r a b c : Answer) (s t : Bool) → 0 < r.number → (0 < a.number → r.number < a.number) → (0 < b.number → r.number < b.number) → Lower a b c → Lower (cond (s || false) r a) (cond (t || false) r b) (cond (s || (t || false)) r c)
lower_step r a b c true true l low-a low-b k = (λ h. refl, λ h. refl)
lower_step r a b c true false l low-a low-b k = (λ h. refl, λ h. absurd (omega (arith, h l, low-b (h l).0)))
lower_step r a b c false true l low-a low-b k = (λ h. absurd (omega (arith, h l, low-a (h l).0)), λ h. refl)
lower_step r a b c false false l low-a low-b k = k

-- the numbers rise from above m
pub two_lower : {A : Type 0} (m : ℕ) (tests : List (ℕ × (A → Bool))) (x y : A) → ((xs : List A) → T (rises_from m (rows_of tests xs))) → Lower (first_of (rows_of tests (x ∷ []))) (first_of (rows_of tests (y ∷ []))) (first_of (rows_of tests (x ∷ y ∷ [])))
unfolding first_of some
two_lower m [] x y t = (λ h. refl, λ h. refl)
two_lower {A} m ((n, test) ∷ tests) x y t =
    let u : (xs : List A) → (m < n) × T (rises_from n (rows_of tests xs)) = λ xs. split_lt m n (rises_from n (rows_of tests xs)) (t xs) in
    lower_step _ _ _ _ (test x) (test y) (omega (arith, (u []).0)) (first_above n (rows_of tests (x ∷ [])) (u _).1) (first_above n (rows_of tests (y ∷ [])) (u _).1) (two_lower n tests x y (λ xs. (u xs).1))

-- ---- the rows that calls share
pub plan_numbered : (ps : List (List Stage)) → Numbered (plan_rows ps)
unfolding plan_rows
plan_numbered ps = tt

pub common_numbered : (s : Shape) (M : ℕ) (wrongLength : Bool) → Numbered (common_rows s M wrongLength)
unfolding plan_rows size_rows
common_numbered s M wrongLength = tt

pub common_size : (s : Shape) (M : ℕ) {a b : Bool} → (s.bad_size ≡ false → a ≡ b) → first_of (common_rows s M a) ≡ first_of (common_rows s M b)
unfolding plan_rows size_rows first_of
common_size s M {a} {b} h = go s.bad_size h
  where
    go : (bad : Bool) → (bad ≡ false → a ≡ b) → first_of (plan_rows s.plans ++ size_rows M (M * s.divisor) bad a) ≡ first_of (plan_rows s.plans ++ size_rows M (M * s.divisor) bad b)
    go true k = refl
    go false k = rw (k refl)
