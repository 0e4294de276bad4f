-- What an answer says of the samples that row 11 tests.
-- Laws: sample_off, off_sample (row 11 does not apply exactly where each sample tested has a size up to M); none_behind (no row stands behind row 11); bad_counted (of rows with no position, then row 11, then others).
use Rattle.std.specs.Prelude.{◌≡◌, ◌⊎◌, Bool, true, false, List, [], ◌∷◌, ◌++◌, ℕ, ◌≤◌, ◌<◌, length, ℤ, nat_abs}
use Rattle.std.proofs.Math.Path.{refl}
use Rattle.std.proofs.Common.{ap, ◌∙◌, inl, inr, ⊎_elim, arith, ltb-false, le-ltb}
use mathlib.Mathlib.Data.Bool.Basic.{eq-true_of_not-eq-false}
use Rattle.meaning.specs.Extension.{at}
use Rattle.meaning.specs.Refusals.{Answer, Row, first_of, Applies, here, row_at}
use Rattle.meaning.specs.Calls.{sample_row}
use Rattle.meaning.specs.Bounds.{HowMany, Counted}
use Rattle.theory.specs.Refusals.{Numbered, Rising, Unplaced, first_parts, number_lowest, number_exactly, applies_append}
use Rattle.theory.specs.Counts.{count_none, how_many, how_many_one, how_many_some}
use Rattle.theory.specs.Tests.{and_no, no_and}
use Rattle.theory.specs.Places.{OfRow, row_at_off, row_at_none, row_at_answer}

module _ (M : ℕ) (f : List ℤ) (tested : ℕ → Bool) where
  pub sample_off : ((i : ℕ) → i < length f → tested i ≡ true → nat_abs (at f i) ≤ M) → (sample_row M f tested).applies ≡ false
  sample_off h = row_at_off 11 (length f) (λ i l. no_and (tested i) _ (λ t. le-ltb _ _ (h i l t)))

  pub off_sample : (sample_row M f tested).applies ≡ false → (i : ℕ) → i < length f → tested i ≡ true → nat_abs (at f i) ≤ M
  off_sample e i l t = ltb-false _ _ (and_no (tested i) _ (row_at_none 11 (length f) _ e i l) t)

pub none_behind : {a : Answer} → a ≡ first_of [] → (a.number ≡ 11 → ⊥) × (a.bad ≡ 0)
unfolding first_of
none_behind e = rw e (λ n. omega arith, refl)

module _ (front rest : List Row) (u : Unplaced 11 front) (N : ℕ) (t : ℕ → Bool) {P : ℕ → Type 0} (to : (i : ℕ) → i < N → t i ≡ true → P i) (from : (i : ℕ) → i < N → P i → t i ≡ true) where
  abbrev rows : List Row
  rows = front ++ row_at 11 N t ∷ rest

  -- where one is bad, row 11 applies
  applies_11 : {k : ℕ} → HowMany P N k → (k ≡ 0 → ⊥) → Applies 11 rows
  unfolding row_at
  applies_11 h n = applies_append front (here refl (eq-true_of_not-eq-false (λ e. n (how_many_one N h (how_many N t to from) ∙ count_none N (row_at_none 11 N t e)))))

  module _ {a : Answer} (e : a ≡ first_of rows) (others : a ≡ first_of rest → (a.number ≡ 11 → ⊥) × (a.bad ≡ 0)) where
    either : OfRow 11 N t a ⊎ ((a.number ≡ 11 → ⊥) × (a.bad ≡ 0))
    either = ⊎_elim (λ p. inr (λ n. let no : ⊥ = omega arith in no, p.2)) (λ p. ⊎_elim inl (λ q. inr (others q.1)) (row_at_answer 11 N t rest p.1)) (first_parts 11 front _ u e)

    of_11 : a.number ≡ 11 → OfRow 11 N t a
    of_11 n = ⊎_elim (λ p. p) (λ p. absurd (p.0 n)) either

    count_11 : a.number ≡ 11 → HowMany P N a.bad
    count_11 n = rw (of_11 n).bad (how_many N t to from)

    some_11 : a.number ≡ 11 → a.bad ≡ 0 → ⊥
    some_11 n z = let f = (of_11 n).first in let l = how_many_some N _ (count_11 n) f.within (to _ f.within f.here) in omega arith

    number : a.number ≡ (first_of rows).number
    number = ap (λ (x : Answer). x.number) e

    pub bad_counted : Rising rows → Numbered rows → Counted P N rows a
    bad_counted r m = record {
      count = count_11;
      nonzero = some_11;
      lowest = λ n j l on. let m = (number_lowest rows number r).1 j on in omega arith;
      other = λ n. ⊎_elim (λ p. absurd (n p.number)) (λ p. p.1) either;
      given = λ h k lower. number_exactly rows number r m (applies_11 h k) lower;
    }
