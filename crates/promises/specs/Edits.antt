-- An edit of a stored smoothing: `edit::edit_series` by its own contract, for all inputs. Lists of edits are in EditLists.
--   EditCall           any call, as its contract lets it end
--   plan, bound, position, value, samples, results, work   what it was given; stages are the plan's, old is the sample at the position
--   number, place, count, bad, samples_left, results_left, work_left   what it answered (place is the position answered), and left
--   rows, Allowed      its rows of the table of numbers, and the bounds of document 01
--   Near c n           index n is within reach of the position
--   Stored             samples and results; before c and after c are those that a call was given and left
--   Fresh p x          the results of x are the smoothing of its samples under the plan p;  Within M f  no sample of f has size above M
--   edit_lowest        the number is 0, or that of a row that applies, and then the lowest of those
--   edit_done, edit_allowed   it is 0 exactly where no row applies, and exactly where the bounds hold
--   edit_place_11, edit_place_12, edit_place_other   at 11 the place is the position, and the old sample above the bound; at 12 it is the first result within reach that is, or would get, too large; else 0
--   edit_bad, edit_bad_one   at 11, and there alone, bad is not 0, and how many of the one sample tested are above the bound, so 1; and 11 is given exactly where it is and no lower row applies
--   edit_unchanged     a refused edit leaves every cell as it was, and counts 0
--   edit_sample        an accepted one sets the sample at its position to the value
--   edit_length, edit_gains, edit_stays   there are as many results as samples; each result within reach gains (new - old) times its weight, and all others stay
--   edit_left          it leaves zeros in work
--   edit_changes       it changes result n exactly when new differs from old and n is within reach
--   edit_count         the count is the number of results changed, of a refused edit too
--   edit_count_same, edit_count_other   of an accepted one 0 where new equals old, else the number of indices within reach
--   edit_never_12      an edit of a fresh smoothing, of samples within the bound, never answers 12
--   edit_says, edit_fresh, edit_within_lem   accepted or refused: the samples it leaves, and that a fresh smoothing stays one, and samples within the bound stay so
--   edit_one           two outcomes that the contract allows are the same
use Rattle.std.specs.Prelude.{ℕ, ◌+◌, ◌*◌, ◌-◌, ◌≤◌, ◌<◌, min, ◌≡◌, refl, ◌≢◌, List, eqb, length, set, ℤ, pos, nat_abs, ◌+ℤ◌, ◌-ℤ◌, ◌*ℤ◌}
use Rattle.std.proofs.Common.{sym, ◌∙◌, subst, arith}
use Rattle.std.proofs.Math.Path.{ap}
use Rattle.std.proofs.Math.Bool.{cond}
use Rattle.std.proofs.Math.Decide.{ℕ_discrete}
use contract.Lifetimes.{Lfts}
use denote.Triple.Clauses.{AtExit}
use borrow.Fn.Kinds.{Dens, res_t, ended_of}
use Rattle.algebra.specs.Order.{zarith, of-}
use Rattle.meaning.specs.Extension.{at, fold}
use Rattle.meaning.specs.Kernel.{Stage, reach, divisor}
use Rattle.meaning.specs.Smoothing as smoothing
use Rattle.meaning.specs.Smoothing.{weight, apart}
use Rattle.meaning.specs.Refusals as meant
use Rattle.meaning.specs.Refusals.{Row, first_of, Applies, if_done, zeros}
use Rattle.meaning.specs.Calls as outcomes
use Rattle.meaning.specs.Calls.{gained, changed, edit_rows, edit_series}
use Rattle.meaning.specs.Bounds.{AllowedEdit, FirstAt, TooLarge, Counted}
use Rattle.theory.specs.Refusals.{number_lowest, number_none}
use Rattle.theory.specs.Accepted.{inner_allowed}
use Rattle.theory.specs.HalfSample.{half_sample, half_sample_near}
use Rattle.theory.specs.Lists.{Sized, sized}
use Rattle.theory.specs.AcceptedEdits as tested
use Rattle.theory.specs.Stored as law
use Rattle.theory.specs.Edits.{length_gained, gained_near, gained_far, gained_changed, gained_changes, changed_same, changed_all}
use Rattle.theory.specs.Counts.{changed_none}
use Rattle.plan.specs.declared.Plan.{Plan}
use Rattle.plan.specs.Structs.{stages_of, answer_of, value_or, one_end}
use Rattle.edit.specs.Contract.{Gives}
use Rattle.edit.proofs.edit_series.Reads as edit-series
use Rattle.edit.proofs.edit_series.Kinds as kinds
use Rattle.promises.specs.Smoothings.{Exactly}

pub record EditCall : Type 1 where
  pub lifetimes : Lfts 3
  pub given : Dens lifetimes kinds.ps
  pub answered : (res_t kinds.r lifetimes).Denot
  pub left : AtExit (ended_of 3 kinds.ps kinds.r) lifetimes
  pub learnt : edit-series.Learnt lifetimes given answered left

-- ---- what was given, answered and left
abbrev pub plan : EditCall → Plan
plan c = c.given.0

abbrev pub stages : EditCall → List Stage
stages c = stages_of (plan c)

abbrev pub bound : EditCall → ℕ
bound c = c.given.1.0

abbrev pub position : EditCall → ℕ
position c = c.given.1.1.0

abbrev pub value : EditCall → ℤ
value c = c.given.1.1.1.0

abbrev pub samples : EditCall → List ℤ
samples c = c.given.1.1.1.1.0.now

abbrev pub results : EditCall → List ℤ
results c = c.given.1.1.1.1.1.0.now

abbrev pub work : EditCall → List ℤ
work c = c.given.1.1.1.1.1.1.0.now

abbrev pub old : EditCall → ℤ
old c = at (samples c) (position c)

abbrev pub number : EditCall → ℕ
number c = (answer_of c.answered).number

abbrev pub place : EditCall → ℕ
place c = (answer_of c.answered).position

abbrev pub count : EditCall → ℕ
count c = value_or 0 c.answered

abbrev pub bad : EditCall → ℕ
bad c = (answer_of c.answered).bad

abbrev pub samples_left : EditCall → List ℤ
samples_left c = c.left.1.1.1.1.0.now

abbrev pub results_left : EditCall → List ℤ
results_left c = c.left.1.1.1.1.1.0.now

abbrev pub work_left : EditCall → List ℤ
work_left c = c.left.1.1.1.1.1.1.0.now

abbrev new : EditCall → List ℤ
new c = gained fold (stages c) (position c) (value c -ℤ old c) (results c)

abbrev pub rows : EditCall → List Row
rows c = edit_rows (stages c) (bound c) (position c) (value c) (samples c) (results c) (new c) (length (work c))

abbrev pub Allowed : EditCall → Type 0
Allowed c = AllowedEdit fold (stages c) (bound c) (position c) (value c) (samples c) (results c) (length (work c))

abbrev pub Near : EditCall → ℕ → Type 0
Near c n = apart n (position c) ≤ reach (stages c)

-- ---- a stored smoothing
pub record Stored : Type 0 where
  pub samples : List ℤ
  pub results : List ℤ

abbrev pub before : EditCall → Stored
before c = record { samples = samples c; results = results c }

abbrev pub after : EditCall → Stored
after c = record { samples = samples_left c; results = results_left c }

abbrev pub Fresh : Plan → Stored → Type 0
Fresh p x = x.results ≡ smoothing.results fold (stages_of p) x.samples

abbrev pub Within : ℕ → List ℤ → Type 0
Within M f = (i : ℕ) → i < length f → nat_abs (at f i) ≤ M

to_sized : {M : ℕ} {f : List ℤ} → Within M f → Sized M f
to_sized {f} h = sized f (λ i l. record { bound = h i l })

-- ---- one call
no_change : (v u : ℤ) → Exactly (v ≡ u) (v -ℤ u ≡ pos 0)
no_change v u = (λ e. omega (zarith, of- v u), λ e. omega (zarith, of- v u))

not_near : {a b : ℕ} → (a ≤ b → ⊥) → b < a
not_near h = omega arith

abbrev outcome : EditCall → outcomes.Edited
outcome c = edit_series fold (stages c) (bound c) (position c) (value c) (samples c) (results c) (work c)

module _ (c : EditCall) where
  answer_is : answer_of c.answered ≡ first_of (rows c)
  unfolding edit_series
  answer_is = c.learnt.answer

  number_is : number c ≡ (first_of (rows c)).number
  number_is = ap (λ (x : meant.Answer). x.number) answer_is

  outcome_number : number c ≡ (outcome c).answer.number
  outcome_number = ap (λ (x : meant.Answer). x.number) c.learnt.answer

  pub edit_lowest : (number c ≢ 0 → Applies (number c) (rows c)) × ((n : ℕ) → Applies n (rows c) → number c ≤ n)
  edit_lowest = number_lowest (rows c) number_is (tested.edit_rising _ _ _ _ _ _ _ _)

  pub edit_done : Exactly (number c ≡ 0) ((n : ℕ) → Applies n (rows c) → ⊥)
  edit_done = number_none (rows c) number_is (tested.edit_numbered _ _ _ _ _ _ _ _)

  pub edit_allowed : Exactly (number c ≡ 0) (Allowed c)
  edit_allowed = (λ e. tested.edit_allowed _ _ _ _ _ _ _ _ (sym number_is ∙ e), λ ok. number_is ∙ ap (λ (x : meant.Answer). x.number) (tested.allowed_edit _ _ _ _ _ _ _ _ ok))

  pub edit_place_11 : number c ≡ 11 → (place c ≡ position c) × (bound c < nat_abs (old c))
  edit_place_11 = tested.edit_old _ _ _ _ _ _ _ _ answer_is

  pub edit_place_12 : number c ≡ 12 → FirstAt (length (results c)) (TooLarge fold (stages c) (bound c * divisor (stages c)) (position c) (value c -ℤ old c) (results c)) (place c)
  edit_place_12 = tested.edit_place _ _ _ _ _ _ _ _ answer_is

  pub edit_place_other : number c ≢ 11 → number c ≢ 12 → place c ≡ 0
  edit_place_other = tested.edit_no_position _ _ _ _ _ _ _ _ answer_is

  pub edit_bad : Counted (λ i. (i ≡ position c) × (bound c < nat_abs (at (samples c) i))) (length (samples c)) (rows c) (answer_of c.answered)
  edit_bad = tested.edit_bad _ _ _ _ _ _ _ _ answer_is

  pub edit_bad_one : number c ≡ 11 → bad c ≡ 1
  edit_bad_one = tested.edit_bad_one _ _ _ _ _ _ _ _ answer_is

  pub edit_unchanged : number c ≢ 0 → (samples_left c ≡ samples c) × (results_left c ≡ results c) × (work_left c ≡ work c) × (count c ≡ 0)
  edit_unchanged h =
      let (k, f, r, w) = law.edit_refused _ _ _ _ _ _ _ _ (λ e. h (outcome_number ∙ e)) in
      (c.learnt.samples ∙ f, c.learnt.results ∙ r, c.learnt.work ∙ w, c.learnt.count ∙ k)

  -- an accepted edit
  module _ (e : number c ≡ 0) where
    kept : ((outcome c).count ≡ changed (results c) (new c)) × ((outcome c).samples ≡ set (samples c) (position c) (value c)) × ((outcome c).results ≡ new c) × ((outcome c).work ≡ zeros (work c))
    kept = law.edit_done _ _ _ _ _ _ _ _ (sym outcome_number ∙ e)

    whole : results_left c ≡ new c
    whole = c.learnt.results ∙ kept.2

    result_is : (n : ℕ) → at (results_left c) n ≡ at (new c) n
    result_is n = ap (λ (r : List ℤ). at r n) whole

    long : length (results c) ≡ length (samples c)
    long = (edit_allowed.0 e).results

    inside : {n : ℕ} → n < length (samples c) → n < length (results c)
    inside l = omega (arith, long)

    pub edit_sample : samples_left c ≡ set (samples c) (position c) (value c)
    edit_sample = c.learnt.samples ∙ kept.1

    pub edit_length : length (results_left c) ≡ length (samples c)
    edit_length = ap length whole ∙ length_gained _ _ _ _ _ ∙ long

    pub edit_gains : (n : ℕ) → n < length (samples c) → Near c n → at (results_left c) n ≡ at (results c) n +ℤ (value c -ℤ old c) *ℤ weight fold (stages c) (length (samples c)) (pos n) (position c)
    edit_gains n l k =
        result_is n ∙ gained_near _ _ _ _ _ (inside l) k
        ∙ ap (λ (N : ℕ). at (results c) n +ℤ (value c -ℤ old c) *ℤ weight fold (stages c) N (pos n) (position c)) long

    pub edit_stays : (n : ℕ) → n < length (samples c) → (Near c n → ⊥) → at (results_left c) n ≡ at (results c) n
    edit_stays n l k = result_is n ∙ gained_far _ _ _ _ _ (inside l) (not_near k)

    pub edit_left : work_left c ≡ zeros (work c)
    edit_left = c.learnt.work ∙ kept.3

    pub edit_changes : (n : ℕ) → n < length (samples c) → Exactly (at (results_left c) n ≢ at (results c) n) ((value c ≢ old c) × Near c n)
    edit_changes n l = (
      λ k. let (d, h) = gained_changed _ _ _ _ _ (inside l) (λ z. k (result_is n ∙ z)) in (λ z. d ((no_change _ _).0 z), h),
      λ k z. gained_changes half_sample (inner_allowed _ (edit_allowed.0 e).common.plan.stages) _ _ _ (inside (edit_allowed.0 e).position) (inside l) (λ y. k.0 ((no_change _ _).1 y)) k.1 (sym (result_is n) ∙ z),
    )

    pub edit_count_same : value c ≡ old c → count c ≡ 0
    edit_count_same z = c.learnt.count ∙ kept.0 ∙ changed_same _ _ _ _ ((no_change _ _).0 z)

    pub edit_count_other : value c ≢ old c → count c ≡ min (length (samples c)) (position c + reach (stages c) + 1) - (position c - reach (stages c))
    edit_count_other k =
        c.learnt.count ∙ kept.0 ∙ changed_all half_sample (inner_allowed _ (edit_allowed.0 e).common.plan.stages) _ _ _ (inside (edit_allowed.0 e).position) (λ y. k ((no_change _ _).1 y))
        ∙ ap (λ (N : ℕ). min N (position c + reach (stages c) + 1) - (position c - reach (stages c))) long

  pub edit_count : count c ≡ changed (results c) (results_left c)
  edit_count = go (ℕ_discrete (number c) 0)
    where
      go : Dec (number c ≡ 0) → count c ≡ changed (results c) (results_left c)
      go (yes e) = c.learnt.count ∙ (kept e).0 ∙ ap (changed (results c)) (sym (whole e))
      go (no e) = let (f, r, w, k) = edit_unchanged e in k ∙ sym (changed_none (results c)) ∙ ap (changed (results c)) (sym r)

  pub edit_never_12 : Fresh (plan c) (before c) → Within (bound c) (samples c) → number c ≢ 12
  edit_never_12 h k n = tested.edit_never_12 _ _ _ _ _ _ _ _ half_sample_near h (to_sized k) (sym number_is ∙ n)

  pub edit_says : samples_left c ≡ cond (eqb (number c) 0) (set (samples c) (position c) (value c)) (samples c)
  unfolding edit_series if_done
  edit_says = c.learnt.samples ∙ ap (λ (n : ℕ). cond (eqb n 0) (set (samples c) (position c) (value c)) (samples c)) (sym number_is)

  pub edit_fresh : Fresh (plan c) (before c) → Fresh (plan c) (after c)
  edit_fresh h = c.learnt.results ∙ law.edit_fresh _ _ _ _ _ _ _ _ half_sample_near h ∙ ap (smoothing.results fold (stages c)) (sym c.learnt.samples)

  pub edit_within_lem : Within (bound c) (samples c) → Within (bound c) (samples_left c)
  edit_within_lem h i l = ((subst (Sized (bound c)) (sym c.learnt.samples) (law.edit_sized _ _ _ _ _ _ _ _ (to_sized h))).size i).bound

-- ---- one outcome
outcome_is : {o : outcomes.Edited} {a : meant.Answer} {k : ℕ} {f r w : List ℤ} → Gives o a k f r w → ◌≡◌ {A = outcomes.Edited} (record { answer = a; count = k; samples = f; results = r; work = w }) o
outcome_is g = rw (g.answer, g.count, g.samples, g.results, g.work) refl

outcome_same : {p q : Plan} {M L i j : ℕ} {v u : ℤ} {f g r s w t : List ℤ} → p ≡ q → M ≡ L → i ≡ j → v ≡ u → f ≡ g → r ≡ s → w ≡ t → edit_series fold (stages_of p) M i v f r w ≡ edit_series fold (stages_of q) L j u g s t
outcome_same p m i v f r w = rw (p, m, i, v, f, r, w) refl

pub edit_one : (c d : EditCall) → plan c ≡ plan d → bound c ≡ bound d → position c ≡ position d → value c ≡ value d → samples c ≡ samples d → results c ≡ results d → work c ≡ work d
    → (c.answered ≡ d.answered) × (samples_left c ≡ samples_left d) × (results_left c ≡ results_left d) × (work_left c ≡ work_left d)
edit_one c d p m i v f r w =
    let e = outcome_is c.learnt ∙ outcome_same p m i v f r w ∙ sym (outcome_is d.learnt) in
    (one_end 0 _ _ (ap (λ (o : outcomes.Edited). o.answer) e) (ap (λ (o : outcomes.Edited). o.count) e), ap (λ (o : outcomes.Edited). o.samples) e, ap (λ (o : outcomes.Edited). o.results) e, ap (λ (o : outcomes.Edited). o.work) e)
