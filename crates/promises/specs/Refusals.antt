-- A refusal's number, position and number of bad samples: `Refusal::number`, `Refusal::position`, `Refusal::bad`, each by its own contract, for all inputs.
--   NumberCall, PositionCall, BadCall   any call, as its contract lets it end
--   numbered, placed, counted   the refusal that was given
--   number_told, position_told, bad_told   what is told is that of the answer which the refusal stands for
--   number_one, position_one, bad_one   two outcomes that the contract allows are the same
-- Of any answer that rows give: one of 0 is `plain 0`, any other is a refusal's.
--   Told a, AllTold rows   the answer a, or each row's, has a number of a refusal, a position only at 11 and 12, and bad samples only at 11
--   any_passed    where no row answers 0, an answer of 0 is `plain 0`
--   any_refused   such an answer is that of the refusal that it tells
--   any_row       so is the answer of such rows, where it is not 0
-- Of the rows of every call, so that any answer of theirs but 0 is that of the refusal that it tells:
--   told_smooth_rows, told_edit_rows, told_point_rows, told_double_rows, told_output_rows, told_exact_rows, told_back_rows, told_field_rows, told_write_rows, told_own_rows   the rows that `meaning` calls so are AllTold
--   told_converted_rows, told_whole_rows, told_write_in_rows   so are an output's with its own behind them, whole output's with row 21, and the writer's behind those of a host's fields
--   told_planner, told_read   any answer of the planner but 0 is such a one, though no refusal has its row 15, and so is any of the reader's
use Rattle.std.specs.Prelude.{ℕ, ◌≡◌, refl, ◌⊎◌, Bool, true, false, cond, ◌&&◌, ◌||◌, List, [], ◌∷◌, ◌++◌, ◌*◌, ltb, ℤ, Float, T, eqb, ⊤}
use Rattle.std.proofs.Common.{sym, ap, ◌∙◌, inl, inr, ⊎_elim, eqb-true}
use contract.Lifetimes.{Lfts}
use denote.Triple.Clauses.{AtExit}
use borrow.Fn.Kinds.{Dens, res_t, ended_of}
use Rattle.plan.specs.declared.Refusal.{Refusal}
use Rattle.meaning.specs.Limits.{least, max_passes, max_radius, max_inner, max_sigma}
use Rattle.meaning.specs.Kernel.{Stage}
use Rattle.meaning.specs.Refusals.{Answer, Row, Shape, ◌when◌, first_of, outside, row_at, plan_rows, size_rows, own_rows}
use Rattle.meaning.specs.Calls.{smooth_rows, edit_rows, point_rows}
use Rattle.meaning.specs.Values.{double_rows, output_rows, mode_rows}
use Rattle.meaning.specs.Exact.{length_rows, exact_rows, back_rows}
use Rattle.meaning.specs.Planner.{stage_for, planner_rows}
use Rattle.meaning.specs.Arguments.{PlanNumbers}
use Rattle.meaning.specs.Record.{write_rows, read_record}
use Rattle.meaning.specs.HostRecord.{field_rows}
use Rattle.theory.specs.Refusals.{Numbered, done_off, off_done, number_zero, first_either}
use Rattle.theory.specs.Planner.{planner_never_15}
use Rattle.theory.specs.Records.{read_refused}
use Rattle.plan.specs.Structs.{plain, refused, refusal_of}
use Rattle.plan.proofs.Refusal.number.Reads as number-of
use Rattle.plan.proofs.Refusal.number.Kinds as number-kinds
use Rattle.plan.proofs.Refusal.position.Reads as position-of
use Rattle.plan.proofs.Refusal.position.Kinds as position-kinds
use Rattle.plan.proofs.Refusal.bad.Reads as bad-of
use Rattle.plan.proofs.Refusal.bad.Kinds as bad-kinds

pub record NumberCall : Type 1 where
  pub lifetimes : Lfts 0
  pub given : Dens lifetimes number-kinds.ps
  pub answered : (res_t number-kinds.r lifetimes).Denot
  pub left : AtExit (ended_of 0 number-kinds.ps number-kinds.r) lifetimes
  pub learnt : number-of.Learnt lifetimes given answered left

pub record PositionCall : Type 1 where
  pub lifetimes : Lfts 0
  pub given : Dens lifetimes position-kinds.ps
  pub answered : (res_t position-kinds.r lifetimes).Denot
  pub left : AtExit (ended_of 0 position-kinds.ps position-kinds.r) lifetimes
  pub learnt : position-of.Learnt lifetimes given answered left

pub record BadCall : Type 1 where
  pub lifetimes : Lfts 0
  pub given : Dens lifetimes bad-kinds.ps
  pub answered : (res_t bad-kinds.r lifetimes).Denot
  pub left : AtExit (ended_of 0 bad-kinds.ps bad-kinds.r) lifetimes
  pub learnt : bad-of.Learnt lifetimes given answered left

-- ---- what was given
abbrev pub numbered : NumberCall → Refusal
numbered c = c.given.0

abbrev pub placed : PositionCall → Refusal
placed c = c.given.0

abbrev pub counted : BadCall → Refusal
counted c = c.given.0

-- ---- one call
pub number_told : (c : NumberCall) → c.answered ≡ (refused (numbered c)).number
number_told c = c.learnt

pub position_told : (c : PositionCall) → c.answered ≡ (refused (placed c)).position
position_told c = c.learnt

pub bad_told : (c : BadCall) → c.answered ≡ (refused (counted c)).bad
bad_told c = c.learnt

-- ---- two calls
pub number_one : (c d : NumberCall) → numbered c ≡ numbered d → c.answered ≡ d.answered
number_one c d e = c.learnt ∙ ap (λ (r : Refusal). (refused r).number) e ∙ sym d.learnt

pub position_one : (c d : PositionCall) → placed c ≡ placed d → c.answered ≡ d.answered
position_one c d e = c.learnt ∙ ap (λ (r : Refusal). (refused r).position) e ∙ sym d.learnt

pub bad_one : (c d : BadCall) → counted c ≡ counted d → c.answered ≡ d.answered
bad_one c d e = c.learnt ∙ ap (λ (r : Refusal). (refused r).bad) e ∙ sym d.learnt

-- ---- any answer that rows give
abbrev plain_numbers : List ℕ
plain_numbers = 1 ∷ 2 ∷ 3 ∷ 4 ∷ 5 ∷ 6 ∷ 7 ∷ 8 ∷ 9 ∷ 10 ∷ 13 ∷ 14 ∷ 21 ∷ []

abbrev one_of : List ℕ → ℕ → Bool
one_of [] n = false
one_of (m ∷ ms) n = eqb n m || one_of ms n

abbrev told_plain : Answer → Bool
told_plain a = eqb a.position 0 && one_of plain_numbers a.number

abbrev told_unbad : Answer → Bool
told_unbad a = eqb a.bad 0 && (eqb a.number 12 || told_plain a)

abbrev pub Told : Answer → Type 0
Told a = T (eqb a.number 11 || told_unbad a)

abbrev all_told : List Row → Bool
all_told [] = true
all_told (row ∷ rows) = (eqb row.answer.number 11 || told_unbad row.answer) && all_told rows

abbrev pub AllTold : List Row → Type 0
AllTold rows = T (all_told rows)

pub any_passed : (rows : List Row) → Numbered rows → {a : Answer} → a ≡ first_of rows → a.number ≡ 0 → plain 0 ≡ first_of rows
any_passed rows n e z = sym (off_done rows (done_off rows n (number_zero e z)))

both : (x y : Bool) → T (x && y) → T x × T y
both true y t = (tt, t)
both false y t = absurd t

test_or : (m n : ℕ) (y : Bool) → T (eqb m n || y) → (m ≡ n) ⊎ T y
test_or m n y t = go (eqb m n) (eqb-true m n) t
  where
    go : (x : Bool) → (x ≡ true → m ≡ n) → T (x || y) → (m ≡ n) ⊎ T y
    go true h t = inl (h refl)
    go false h t = inr t

test_and : (m n : ℕ) (y : Bool) → T (eqb m n && y) → (m ≡ n) × T y
test_and m n y t = go (eqb m n) (eqb-true m n) t
  where
    go : (x : Bool) → (x ≡ true → m ≡ n) → T (x && y) → (m ≡ n) × T y
    go true h t = (h refl, t)
    go false h t = absurd t

abbrev AllBack : List ℕ → Type 0
AllBack [] = ⊤
AllBack (m ∷ ms) = (refused (refusal_of (plain m)) ≡ plain m) × AllBack ms

plain_back : (ms : List ℕ) (n : ℕ) → AllBack ms → T (one_of ms n) → refused (refusal_of (plain n)) ≡ plain n
plain_back [] n h t = absurd t
plain_back (m ∷ ms) n h t = ⊎_elim (λ e. rw e h.0) (plain_back ms n h.1) (test_or n m (one_of ms n) t)

pub any_refused : (a : Answer) → Told a → refused (refusal_of a) ≡ a
any_refused a t = ⊎_elim (λ e. rw e refl) unbad (test_or a.number 11 (told_unbad a) t)
  where
    listed : AllBack plain_numbers
    listed = (refl, (refl, (refl, (refl, (refl, (refl, (refl, (refl, (refl, (refl, (refl, (refl, (refl, tt)))))))))))))

    unplaced : a.bad ≡ 0 → T (told_plain a) → refused (refusal_of a) ≡ a
    unplaced b w = let (p, l) = test_and a.position 0 (one_of plain_numbers a.number) w in rw (p, b) (plain_back plain_numbers a.number listed l)

    unbad : T (told_unbad a) → refused (refusal_of a) ≡ a
    unbad u =
        let (b, v) = test_and a.bad 0 (eqb a.number 12 || told_plain a) u in
        ⊎_elim (λ e. rw e (rw b refl)) (unplaced b) (test_or a.number 12 (told_plain a) v)

told_first : (rows : List Row) → AllTold rows → ((first_of rows).number ≡ 0 → ⊥) → Told (first_of rows)
unfolding first_of
told_first [] t n = absurd (n refl)
told_first (row ∷ rows) t n =
    let (h, k) = both (eqb row.answer.number 11 || told_unbad row.answer) (all_told rows) t in
    go row.applies h (told_first rows k) n
  where
    go : (b : Bool) → Told row.answer → (((first_of rows).number ≡ 0 → ⊥) → Told (first_of rows)) → ((cond b row.answer (first_of rows)).number ≡ 0 → ⊥) → Told (cond b row.answer (first_of rows))
    go true h k n = h
    go false h k n = k n

pub any_row : (rows : List Row) → AllTold rows → {a : Answer} → a ≡ first_of rows → (a.number ≡ 0 → ⊥) → refused (refusal_of a) ≡ first_of rows
any_row rows t {a} e n = any_refused a (rw e (told_first rows t (λ z. n (number_zero (sym e) z)))) ∙ e

-- ---- the rows of every call
pub told_own_rows : (ss : List Stage) → AllTold (own_rows ss)
unfolding own_rows plan_rows
told_own_rows ss = tt

pub told_smooth_rows : (s : Shape) (M : ℕ) (f : List ℤ) (nr nw : ℕ) → AllTold (smooth_rows s M f nr nw)
unfolding smooth_rows plan_rows size_rows row_at
told_smooth_rows s M f nr nw = tt

pub told_edit_rows : (ss : List Stage) (M p : ℕ) (v : ℤ) (f r new : List ℤ) (nw : ℕ) → AllTold (edit_rows ss M p v f r new nw)
unfolding edit_rows plan_rows size_rows row_at
told_edit_rows ss M p v f r new nw = tt

pub told_point_rows : (ss : List Stage) (M n : ℕ) (f : List ℤ) (nw : ℕ) → AllTold (point_rows ss M n f nw)
unfolding point_rows plan_rows size_rows row_at
told_point_rows ss M n f nw = tt

pub told_double_rows : (M : ℕ) (xs : List Float) (n : ℕ) → AllTold (double_rows M xs n)
unfolding double_rows row_at
told_double_rows M xs n = tt

module _ (s : Shape) (M : ℕ) (r : List ℤ) (n : ℕ) where
  pub told_output_rows : AllTold (output_rows s M r n)
  unfolding output_rows plan_rows size_rows row_at
  told_output_rows = tt

  pub told_converted_rows : (own : List Row) → AllTold own → AllTold (output_rows s M r n ++ own)
  unfolding output_rows plan_rows size_rows row_at
  told_converted_rows own t = t

  pub told_whole_rows : (mode : ℕ) → AllTold (output_rows s M r n ++ mode_rows mode)
  unfolding mode_rows
  told_whole_rows mode = told_converted_rows (mode_rows mode) tt

pub told_exact_rows : (r : List ℤ) (n : ℕ) → AllTold (exact_rows r n)
unfolding exact_rows length_rows row_at
told_exact_rows r n = tt

pub told_back_rows : (xs : List Float) (n : ℕ) → AllTold (back_rows xs n)
unfolding back_rows length_rows row_at
told_back_rows xs n = tt

pub told_write_rows : (N room asked : ℕ) → AllTold (write_rows N room asked)
told_write_rows N room asked = tt

pub told_field_rows : (p : PlanNumbers) (M : ℕ) → AllTold (field_rows p M)
unfolding field_rows
told_field_rows p M = tt

pub told_write_in_rows : (p : PlanNumbers) (M N room asked : ℕ) → AllTold (field_rows p M ++ write_rows N room asked)
unfolding field_rows
told_write_in_rows p M N room asked = tt

one_answers : (row : Row) {a : Answer} → a ≡ first_of (row ∷ []) → (a.number ≡ 0 → ⊥) → a.number ≡ row.answer.number
unfolding first_of
one_answers row {a} e n = go row.applies e
  where
    go : (x : Bool) → a ≡ cond x row.answer (first_of []) → a.number ≡ row.answer.number
    go true e = ap (λ (x : Answer). x.number) e
    go false e = absurd (n (ap (λ (x : Answer). x.number) e))

-- the planner's are not AllTold, but no answer has the number of its last
module _ (s K b : ℕ) where
  abbrev told_front : List Row
  told_front = (1 when outside least max_passes K) ∷ (3 when outside least max_inner b) ∷ (13 when outside least max_sigma s) ∷ []

  abbrev last : Row
  last = 15 when ltb max_radius (stage_for s (10000 * K) b).radius

  pub told_planner : {a : Answer} → a ≡ first_of (planner_rows s K b) → (a.number ≡ 0 → ⊥) → refused (refusal_of a) ≡ first_of (planner_rows s K b)
  unfolding planner_rows
  told_planner {a} e n = ⊎_elim
      (λ f. any_row told_front tt f n ∙ sym f ∙ e)
      (λ p. absurd (planner_never_15 s K b (ap (λ (x : Answer). x.number) (sym e) ∙ one_answers last p.1 n)))
      (first_either told_front (last ∷ []) tt e)

pub told_read : (s : List ℕ) → ((read_record s).answer.number ≡ 0 → ⊥) → refused (refusal_of (read_record s).answer) ≡ (read_record s).answer
told_read s n = rw (read_refused s n) refl
