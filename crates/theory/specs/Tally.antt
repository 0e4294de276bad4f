-- Row 11 as a loop finds it that goes from the last place down to the first, and counts.
--   tally N end t i   what it answers for the places from i up to end, of N, where t is true of the bad ones
-- Laws: tally_none (of no place), tally_start (from end down to start, wherever they are), tally_passed, tally_bad (one place more, below the others), tally_all (of all places).
use Rattle.std.specs.Prelude.{◌≡◌, Bool, true, false, [], ◌∷◌, ℕ, ◌+◌, ◌≤◌, ◌<◌, min}
use Rattle.std.proofs.Common.{sym, ap, ◌∙◌, ⊎_elim, arith}
use Rattle.std.proofs.Math.Bool.{and-false}
use Rattle.std.proofs.Math.Decide.{ℕ_discrete, dec_le, dec_lt}
use Rattle.meaning.specs.Refusals.{Answer, first_of, count_where, row_at, within}
use Rattle.theory.specs.Refusals.{done}
use Rattle.theory.specs.Counts.{count_none, count_more}
use Rattle.theory.specs.Tests.{within_yes, within_before, within_behind}
use Rattle.theory.specs.Places.{picked, row_at_ext, row_at_all, row_at_on, row_at_none, row_at_answer, walk_start, walk_done}

-- the number is the count also where it is 0
row_bad : (N : ℕ) (t : ℕ → Bool) {a : Answer} → a ≡ first_of (row_at 11 N t ∷ []) → a.bad ≡ count_where N t
unfolding first_of
row_bad N t e = ⊎_elim (λ p. p.bad) (λ p. rw p.1 (sym (count_none N (row_at_none 11 N t p.0)))) (row_at_answer 11 N t [] e)

module _ (N end : ℕ) (t : ℕ → Bool) where
  abbrev pub tally : ℕ → Answer
  tally i = first_of (row_at 11 N (picked i end t) ∷ [])

  pub tally_none : {i : ℕ} → end ≤ i → done ≡ tally i
  tally_none {i} l = walk_done i end t 11 N i l (walk_start i end t)

  -- a loop from end down to start has no place to go where end is before start
  pub tally_start : (start : ℕ) {i : ℕ} {a : Answer} → i ≡ min start end → a ≡ tally i → a ≡ tally start
  tally_start start {i} {a} l e = go (dec_le start end)
    where
      go : Dec (start ≤ end) → a ≡ tally start
      go (yes m) = let is : i ≡ start = omega arith in rw (← is) e
      go (no m) = let is : i ≡ end = omega arith in e ∙ rw is (sym (tally_none {i = end} (omega arith))) ∙ tally_none {i = start} (omega arith)

  -- one place more: the others are picked as before
  picked_more : (i : ℕ) {j : ℕ} → (j ≡ i → ⊥) → picked i end t j ≡ picked (i + 1) end t j
  picked_more i {j} h = go (dec_lt j i) (dec_lt j end)
    where
      go : Dec (j < i) → Dec (j < end) → picked i end t j ≡ picked (i + 1) end t j
      go (yes l) d = rw (within_before i end j l, within_before (i + 1) end j (omega arith))
      go (no l) (yes m) = rw (within_yes i end j (omega arith) m, within_yes (i + 1) end j (omega arith) m)
      go (no l) (no m) = rw (within_behind i end j (omega arith), within_behind (i + 1) end j (omega arith))

  module _ (i : ℕ) {j : ℕ} (n : j ≡ i + 1) {a : Answer} (e : a ≡ tally j) where
    before : a ≡ tally (i + 1)
    before = rw (← n) e

    pub tally_passed : t i ≡ false → a ≡ tally i
    tally_passed h = before ∙ ap (λ row. first_of (row ∷ [])) (row_at_ext 11 N (λ j l. go j (ℕ_discrete j i)))
      where
        go : (j : ℕ) → Dec (j ≡ i) → picked (i + 1) end t j ≡ picked i end t j
        go j (yes m) = rw (m, h, and-false (within (i + 1) end i), and-false (within i end i))
        go j (no m) = sym (picked_more i m)

    pub tally_bad : i < end → end ≤ N → t i ≡ true → record { number = 11; position = i; bad = a.bad + 1 } ≡ tally i
    tally_bad l m h =
        let here : picked i end t i ≡ true = rw (within_yes i end i (omega arith) l, h) in
        let more = count_more N i {t = picked i end t} {u = picked (i + 1) end t} (omega arith) here (rw (within_before (i + 1) end i (omega arith))) (λ j _. picked_more i) in
        rw (row_bad N (picked (i + 1) end t) before, ← more) (sym (row_at_on 11 N i {t = picked i end t} (omega arith) here (walk_start i end t) []))

pub tally_all : (N : ℕ) (t : ℕ → Bool) {a : Answer} → a ≡ tally N N t 0 → a ≡ first_of (row_at 11 N t ∷ [])
tally_all N t e = e ∙ ap (λ row. first_of (row ∷ [])) (row_at_all 11 N t)
