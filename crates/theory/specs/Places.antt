-- The first place where a test is true, and the row that answers with it.
--   picked start end t   the test t, from start up to end alone
--   Clear t i            t is false before i
--   OfRow n N t a        the answer a is that of row n
-- Laws: first_where_is (by what holds at the place and before it); row_at_ext, row_at_all (all places are picked), row_at_on, row_at_off, row_at_none, row_at_answer; place_here, place_other (of rows whose last one alone has a position);
-- first_map (the first place by what the test means); walk_start, walk_next, walk_found, walk_done (a loop from start up to end that answers where t is true);
-- all_start, all_next, all_found, all_done (the same of a loop over all places).
use Rattle.std.specs.Prelude.{◌≡◌, ◌⊎◌, Bool, ◌&&◌, ℕ, zero, suc, ◌+◌, ◌≤◌, ◌<◌}
use Rattle.std.proofs.Math.Path.{refl}
use Rattle.std.proofs.Common.{sym, ◌∙◌, ap, arith, below_none, below_more}
use Rattle.std.proofs.Math.Logic.{inl, inr, ⊎_elim}
use Rattle.std.proofs.Math.Bool.{true, false, cond, and-false, true≢false}
use mathlib.Core.List.{List, [], ◌∷◌, ◌++◌}
use Rattle.std.proofs.Math.Decide.{dec_lt}
use Rattle.std.proofs.Math.Dec.{ltb}
use borrow.Author.Tests.{ltb-true, ltb-false, le-ltb, lt-ltb}
use Rattle.meaning.specs.Refusals.{Answer, Row, first_of, first_where, bad_at, row_at, within}
use Rattle.meaning.specs.Bounds.{FirstAt}
use Rattle.theory.specs.Refusals.{done, off_done, Below, Unplaced, first_parts}
use Rattle.theory.specs.Counts.{count_ext}
use Rattle.theory.specs.Tests.{within_yes, within_before, within_behind}

first_where_ext : (N : ℕ) {t u : ℕ → Bool} → ((i : ℕ) → i < N → t i ≡ u i) → first_where N t ≡ first_where N u
unfolding first_where
first_where_ext zero e = refl
first_where_ext (suc N) {t} {u} e = rw (e 0 (omega arith), first_where_ext N {t = λ i. t (suc i)} {u = λ i. u (suc i)} (λ i l. e (suc i) (omega arith)))

first_where_none : (N : ℕ) {t : ℕ → Bool} → ((i : ℕ) → i < N → t i ≡ false) → first_where N t ≡ N
unfolding first_where
first_where_none zero e = refl
first_where_none (suc N) {t} e = rw (e 0 (omega arith)) (ap suc (first_where_none N (λ i l. e (suc i) (omega arith))))

pub first_where_is : (N i : ℕ) {t : ℕ → Bool} → i < N → t i ≡ true → ((j : ℕ) → j < i → t j ≡ false) → first_where N t ≡ i
unfolding first_where
first_where_is zero i l h e = absurd (omega arith)
first_where_is (suc N) zero l h e = rw h
first_where_is (suc N) (suc i) l h e = rw (e 0 (omega arith)) (ap suc (first_where_is N i (omega arith) h (λ j m. e (suc j) (omega arith))))

first_where_before : (N i : ℕ) (t : ℕ → Bool) → i < first_where N t → t i ≡ false
unfolding first_where
first_where_before zero i t l = absurd (omega arith)
first_where_before (suc N) i t l = go i (t 0) refl (λ j. first_where_before N j (λ i. t (suc i))) l
  where
    go : (i : ℕ) (b : Bool) → t 0 ≡ b → ((j : ℕ) → j < first_where N (λ i. t (suc i)) → t (suc j) ≡ false) → i < cond b 0 (suc (first_where N (λ i. t (suc i)))) → t i ≡ false
    go i true h k l = absurd (omega arith)
    go zero false h k l = h
    go (suc i) false h k l = k i (omega arith)

first_where_at : (N : ℕ) (t : ℕ → Bool) → first_where N t < N → t (first_where N t) ≡ true
unfolding first_where
first_where_at zero t l = absurd (omega arith)
first_where_at (suc N) t l = go (t 0) refl (first_where_at N (λ i. t (suc i))) l
  where
    go : (b : Bool) → t 0 ≡ b → (first_where N (λ i. t (suc i)) < N → t (suc (first_where N (λ i. t (suc i)))) ≡ true) → cond b 0 (suc (first_where N (λ i. t (suc i)))) < suc N → t (cond b 0 (suc (first_where N (λ i. t (suc i))))) ≡ true
    go true h k l = h
    go false h k l = k (omega arith)

abbrev pub Clear : (ℕ → Bool) → ℕ → Type 0
Clear t i = (j : ℕ) → j < i → t j ≡ false

pub all_next : {t : ℕ → Bool} {i : ℕ} → Clear t i → t i ≡ false → Clear t (i + 1)
all_next {t} {i} = below_more (λ j. t j ≡ false) i

pub record OfRow (n N : ℕ) (t : ℕ → Bool) (a : Answer) : Type 0 where
  pub number : a.number ≡ n
  pub first : FirstAt N (λ i. t i ≡ true) a.position
  pub bad : a.bad ≡ bad_at n N t

module _ (n N : ℕ) where
  pub row_at_ext : {t u : ℕ → Bool} → ((i : ℕ) → i < N → t i ≡ u i) → row_at n N t ≡ row_at n N u
  unfolding row_at
  row_at_ext {t} {u} e = rw (first_where_ext N e, count_ext N {t = t} {u = u} e)

  pub row_at_on : (i : ℕ) {t : ℕ → Bool} → i < N → t i ≡ true → ((j : ℕ) → j < i → t j ≡ false) → (rows : List Row) → first_of (row_at n N t ∷ rows) ≡ record { number = n; position = i; bad = bad_at n N t }
  unfolding row_at first_of
  row_at_on i {t} l h e rows = rw (first_where_is N i {t = t} l h e, lt-ltb i N l)

  pub row_at_off : {t : ℕ → Bool} → ((i : ℕ) → i < N → t i ≡ false) → (row_at n N t).applies ≡ false
  unfolding row_at
  row_at_off {t} e = rw (first_where_none N {t = t} e) (le-ltb N N (omega arith))

  pub row_at_none : (t : ℕ → Bool) → (row_at n N t).applies ≡ false → (i : ℕ) → i < N → t i ≡ false
  unfolding row_at
  row_at_none t e i l = first_where_before N i t (omega (arith, ltb-false (first_where N t) N e))

  -- the answer is that row's, or that of the rest
  pub row_at_answer : (t : ℕ → Bool) (rows : List Row) {a : Answer} → a ≡ first_of (row_at n N t ∷ rows) → OfRow n N t a ⊎ (((row_at n N t).applies ≡ false) × (a ≡ first_of rows))
  unfolding row_at first_of
  row_at_answer t rows {a} e = go (ltb (first_where N t) N) refl e
    where
      go : (b : Bool) → ltb (first_where N t) N ≡ b → a ≡ cond b (record { number = n; position = first_where N t; bad = bad_at n N t }) (first_of rows) → OfRow n N t a ⊎ ((ltb (first_where N t) N ≡ false) × (a ≡ first_of rows))
      go true h e = inl (rw e (record { number = refl; first = record { within = ltb-true _ _ h; here = first_where_at N t (ltb-true _ _ h); before = λ j l k. true≢false (sym k ∙ first_where_before N j t l) }; bad = refl }))
      go false h e = inr (h, e)

  -- of rows that have no position, and then that one
  module _ (rows : List Row) (u : Unplaced n rows) (t : ℕ → Bool) (l : 0 < n) {a : Answer} (e : a ≡ first_of (rows ++ row_at n N t ∷ [])) where
    placed : Below n a ⊎ OfRow n N t a
    unfolding first_of
    placed = ⊎_elim inl (λ p. ⊎_elim inr (λ q. inl (rw q.1 (l, refl, refl))) (row_at_answer t [] p.1)) (first_parts n rows (row_at n N t ∷ []) u e)

    pub place_here : a.number ≡ n → OfRow n N t a
    place_here h = ⊎_elim (λ p. let no : ⊥ = omega arith in absurd no) (λ p. p) placed

    pub place_other : (a.number ≡ n → ⊥) → Below n a
    place_other h = ⊎_elim (λ p. p) (λ p. absurd (h p.number)) placed

-- ---- the first place with a property
pub first_map : {N : ℕ} {P Q : ℕ → Type 0} {i : ℕ} → ((j : ℕ) → j < N → P j → Q j) → ((j : ℕ) → j < N → Q j → P j) → FirstAt N P i → FirstAt N Q i
first_map to from h = record { within = h.within; here = to _ h.within h.here; before = λ j l k. h.before j l (from j (omega arith) k) }

-- ---- a loop over all places
module _ (n N : ℕ) (t : ℕ → Bool) where
  pub all_start : Clear t 0
  all_start = below_none (λ j. t j ≡ false)

  pub all_found : (i : ℕ) → i < N → t i ≡ true → Clear t i → record { number = n; position = i; bad = bad_at n N t } ≡ first_of (row_at n N t ∷ [])
  all_found i l e h = sym (row_at_on n N i {t = t} l e h [])

  pub all_done : (i : ℕ) → N ≤ i → Clear t i → done ≡ first_of (row_at n N t ∷ [])
  all_done i l h = sym (off_done _ (row_at_off n N {t = t} (λ j m. h j (omega arith)), tt))

-- ---- a loop over some of the places
abbrev pub picked : ℕ → ℕ → (ℕ → Bool) → ℕ → Bool
picked start end t i = within start end i && t i

pub row_at_all : (n N : ℕ) (t : ℕ → Bool) → row_at n N (picked 0 N t) ≡ row_at n N t
row_at_all n N t = row_at_ext n N (λ i l. rw (within_yes 0 N i (omega arith) l))

module _ (start end : ℕ) (t : ℕ → Bool) where
  pub walk_start : Clear (picked start end t) start
  walk_start j l = rw (within_before start end j l)

  pub walk_next : {i : ℕ} → Clear (picked start end t) i → t i ≡ false → Clear (picked start end t) (i + 1)
  walk_next {i} h e = all_next {t = picked start end t} h (rw e (and-false (within start end i)))

  pub walk_found : (n N i : ℕ) → start ≤ i → i < end → end ≤ N → t i ≡ true → Clear (picked start end t) i → record { number = n; position = i; bad = bad_at n N (picked start end t) } ≡ first_of (row_at n N (picked start end t) ∷ [])
  walk_found n N i l m k e h = sym (row_at_on n N i {t = picked start end t} (omega arith) (rw (within_yes start end i l m, e)) h [])

  pub walk_done : (n N i : ℕ) → end ≤ i → Clear (picked start end t) i → done ≡ first_of (row_at n N (picked start end t) ∷ [])
  walk_done n N i l h = sym (off_done _ (row_at_off n N {t = picked start end t} (λ j m. none j (dec_lt j i)), tt))
    where
      none : (j : ℕ) → Dec (j < i) → picked start end t j ≡ false
      none j (yes m) = h j m
      none j (no m) = rw (within_behind start end j (omega arith))
