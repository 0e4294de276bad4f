-- The rows of an edit: it is done exactly where its bounds hold, which positions it answers, and that a true smoothing passes row 12.
--   front ss M p v f nr nw   rows 1 to 10, of nr results and nw cells of work;  Begun  what they leave
-- Laws: edit_rising, edit_numbered; front_begun, old_passes (row 11); edit_allowed, allowed_edit; edit_old (the position at 11), edit_place (at 12), edit_no_position (else); edit_bad (how many samples are bad), edit_bad_one (1 at 11); edit_never_12 (of a true smoothing).
use Rattle.std.specs.Prelude.{◌≡◌, Bool, true, false, ◌&&◌, ◌||◌, ℕ, ◌*◌, ◌≤◌, ◌<◌, eqb, length, ℤ, pos, nat_abs, ◌+ℤ◌, ◌-ℤ◌, ◌*ℤ◌}
use Rattle.std.proofs.Math.Path.{refl}
use Rattle.std.proofs.Common.{sym, ◌∙◌, ap, true≢false, arith, ltb-true, ltb-false, lt-ltb, le-ltb, eqb-true, eq-eqb}
use Rattle.std.proofs.Math.Logic.{⊎_elim, ⊎_map}
use mathlib.Core.List.{List, [], ◌∷◌, ◌++◌}
use Rattle.meaning.specs.Extension.{at, IndexMap}
use Rattle.meaning.specs.Kernel.{Stage, reach, divisor}
use Rattle.meaning.specs.Smoothing.{results, weight, apart, near}
use Rattle.meaning.specs.Refusals.{Answer, Row, ◌when◌, first_of, row_at, differs, above, plan_rows, size_rows}
use Rattle.meaning.specs.Calls.{sample_row, edit_room, gained, edit_rows}
use Rattle.meaning.specs.Bounds.{AllowedLength, AllowedEdit, FirstAt, TooLarge, Counted}
use Rattle.theory.specs.Folding.{Nearness}
use Rattle.theory.specs.Lists.{Sized}
use Rattle.theory.specs.Local.{near_yes, near_true}
use Rattle.theory.specs.Refusals.{done, Off, Numbered, Rising, Unplaced, done_off, off_done, first_parts, off_append, append_off}
use Rattle.theory.specs.Counts.{count_at}
use Rattle.theory.specs.Places.{OfRow, row_at_off, row_at_none, row_at_answer, first_map}
use Rattle.theory.specs.BadSamples.{sample_off, off_sample, none_behind, bad_counted}
use Rattle.theory.specs.Tests.{or_no, no_or, or_yes, yes_or, and_yes, yes_and, and_no, no_and, and_when, differs_no, no_differs}
use Rattle.theory.specs.Edits.{result_row, gained_near, fresh_passes}
use Rattle.theory.specs.Placed.{placed_rows, off_placed, placed_off}

module _ (ss : List Stage) (M p : ℕ) (v : ℤ) (f r new : List ℤ) (nw : ℕ) where
  pub edit_rising : Rising (edit_rows ss M p v f r new nw)
  unfolding edit_rows plan_rows size_rows row_at
  edit_rising = tt

  pub edit_numbered : Numbered (edit_rows ss M p v f r new nw)
  unfolding edit_rows plan_rows size_rows row_at
  edit_numbered = tt

-- ---- rows 1 to 10
module _ (ss : List Stage) (M p : ℕ) (v : ℤ) (f : List ℤ) (nr nw : ℕ) where
  abbrev pub front : List Row
  front = placed_rows ss M (length f) (differs nr (length f) || differs nw (edit_room ss (length f))) p ++ (10 when above M v) ∷ []

  front_unplaced : Unplaced 11 front
  unfolding plan_rows size_rows
  front_unplaced = tt

  -- what they leave
  pub record Begun : Type 0 where
    pub common : AllowedLength ss M (length f)
    pub results : nr ≡ length f
    pub work : nw ≡ edit_room ss (length f)
    pub position : p < length f
    pub value : nat_abs v ≤ M

  pub front_begun : Off front → Begun
  front_begun h =
      let (c, t) = append_off (placed_rows ss M (length f) (differs nr (length f) || differs nw (edit_room ss (length f))) p) _ h in
      let (ok, w, l) = off_placed ss M (length f) _ p c in
      let (a, b) = or_no (differs nr (length f)) (differs nw (edit_room ss (length f))) w in
      record { common = ok; results = differs_no _ _ a; work = differs_no _ _ b; position = l; value = ltb-false _ _ t.0 }

  begun_front : Begun → Off front
  begun_front ok = off_append (placed_rows ss M (length f) _ p) _ (placed_off ss M (length f) _ p ok.common (no_or (no_differs ok.results) (no_differs ok.work)) ok.position) (le-ltb _ _ ok.value, tt)

-- ---- rows 11 and 12
pub old_passes : (M p : ℕ) (f : List ℤ) → p < length f → (sample_row M f (λ i. eqb i p)).applies ≡ false → nat_abs (at f p) ≤ M
old_passes M p f l e = off_sample M f (λ i. eqb i p) e p l (eq-eqb p p refl)

passes_old : (M p : ℕ) (f : List ℤ) → nat_abs (at f p) ≤ M → (sample_row M f (λ i. eqb i p)).applies ≡ false
passes_old M p f h = sample_off M f (λ i. eqb i p) (λ i l t. rw (eqb-true i p t) h)

module _ (φ : IndexMap) (ss : List Stage) (L p : ℕ) (d : ℤ) (r : List ℤ) where
  abbrev after : ℕ → ℤ
  after n = at r n +ℤ d *ℤ weight φ ss (length r) (pos n) p

  abbrev too_large : ℕ → Bool
  too_large n = near ss n p && (above L (at r n) || above L (at (gained φ ss p d r) n))

  -- within reach the new result is the old with its gain
  by_gain : {n : ℕ} → n < length r → too_large n ≡ (near ss n p && (above L (at r n) || above L (after n)))
  by_gain {n} l = and_when (near ss n p) (λ t. rw (gained_near φ ss p d r l (near_true ss n p t)))

  to_large : (n : ℕ) → n < length r → too_large n ≡ true → TooLarge φ ss L p d r n
  to_large n l e =
      let (k, t) = and_yes (near ss n p) (above L (at r n) || above L (after n)) (sym (by_gain l) ∙ e) in
      (near_true ss n p k, ⊎_map (ltb-true L (nat_abs (at r n))) (ltb-true L (nat_abs (after n))) (or_yes (above L (at r n)) (above L (after n)) t))

  of_large : (n : ℕ) → n < length r → TooLarge φ ss L p d r n → too_large n ≡ true
  of_large n l t = by_gain l ∙ yes_and (near_yes ss n p t.0) (yes_or (above L (at r n)) (above L (after n)) (⊎_map (lt-ltb L (nat_abs (at r n))) (lt-ltb L (nat_abs (after n))) t.1))

  abbrev Passes : ℕ → Type 0
  Passes n = (nat_abs (at r n) ≤ L) × (nat_abs (after n) ≤ L)

  results_pass : (result_row ss L p r (gained φ ss p d r)).applies ≡ false → (n : ℕ) → n < length r → apart n p ≤ reach ss → Passes n
  results_pass e n l k =
      let (a, b) = or_no (above L (at r n)) (above L (after n)) (and_no (near ss n p) _ (sym (by_gain l) ∙ row_at_none 12 (length r) too_large e n l) (near_yes ss n p k)) in
      (ltb-false _ _ a, ltb-false _ _ b)

  pass_results : ((n : ℕ) → n < length r → apart n p ≤ reach ss → Passes n) → (result_row ss L p r (gained φ ss p d r)).applies ≡ false
  pass_results h = row_at_off 12 (length r) (λ n l. by_gain l ∙ no_and (near ss n p) _ (λ t. let (a, b) = h n l (near_true ss n p t) in no_or (le-ltb _ _ a) (le-ltb _ _ b)))

-- ---- all rows
module _ (φ : IndexMap) (ss : List Stage) (M p : ℕ) (v : ℤ) (f r : List ℤ) (nw : ℕ) where
  abbrev new : List ℤ
  new = gained φ ss p (v -ℤ at f p) r

  abbrev rows : List Row
  rows = edit_rows ss M p v f r new nw

  abbrev rest : List Row
  rest = sample_row M f (λ i. eqb i p) ∷ result_row ss (M * divisor ss) p r new ∷ []

  parts : rows ≡ front ss M p v f (length r) nw ++ rest
  unfolding edit_rows plan_rows size_rows
  parts = refl

  pub edit_allowed : (first_of rows).number ≡ 0 → AllowedEdit φ ss M p v f r nw
  edit_allowed e =
      let (h, t) = append_off (front ss M p v f (length r) nw) rest (rw parts at (done_off rows (edit_numbered ss M p v f r new nw) e)) in
      let ok = front_begun ss M p v f (length r) nw h in
      let pass = rw ok.results at (results_pass φ ss (M * divisor ss) p (v -ℤ at f p) r t.1.0) in
      record {
        common = ok.common;
        results = ok.results;
        work = ok.work;
        position = ok.position;
        value = ok.value;
        old = old_passes M p f ok.position t.0;
        before = λ n l k. (pass n l k).0;
        after = λ n l k. (pass n l k).1;
      }

  pub allowed_edit : AllowedEdit φ ss M p v f r nw → first_of rows ≡ done
  allowed_edit ok =
      let begun : Begun ss M p v f (length r) nw = record { common = ok.common; results = ok.results; work = ok.work; position = ok.position; value = ok.value } in
      let pass = pass_results φ ss (M * divisor ss) p (v -ℤ at f p) r (rw ok.results (λ n l k. (ok.before n l k, ok.after n l k))) in
      rw parts (off_done _ (off_append (front ss M p v f (length r) nw) rest (begun_front ss M p v f (length r) nw begun) (passes_old M p f ok.old, (pass, tt))))

  -- ---- positions
  abbrev Offends : ℕ → Type 0
  Offends = TooLarge φ ss (M * divisor ss) p (v -ℤ at f p) r

  record Placed (x : Answer) : Type 0 where
    sample : x.number ≡ 11 → (x.position ≡ p) × (M < nat_abs (at f p)) × (x.bad ≡ 1)
    result : x.number ≡ 12 → Begun ss M p v f (length r) nw × FirstAt (length r) Offends x.position
    other : (x.number ≡ 11 → ⊥) → (x.number ≡ 12 → ⊥) → x.position ≡ 0

  module _ {x : Answer} where
    nowhere : x.number < 11 → x.position ≡ 0 → Placed x
    nowhere l z = record { sample = λ n. omega arith; result = λ n. let no : ⊥ = omega arith in absurd no; other = λ h k. z }

    at_sample : OfRow 11 (length f) (λ i. eqb i p && above M (at f i)) x → Placed x
    at_sample h =
        let (t, k) = and_yes (eqb x.position p) (above M (at f x.position)) h.first.here in
        let i = eqb-true x.position p t in
        let m = h.number in
        record { sample = λ n. (i, rw i at (ltb-true M (nat_abs (at f x.position)) k), h.bad ∙ count_at (length f) p (λ i. above M (at f i)) (rw i at h.first.within) (rw i at k)); result = λ n. let no : ⊥ = omega arith in absurd no; other = λ h k. absurd (h m) }

    at_result : Begun ss M p v f (length r) nw → x.number ≡ 12 → FirstAt (length r) Offends x.position → Placed x
    at_result b m h = record { sample = λ n. omega arith; result = λ n. (b, h); other = λ h k. absurd (k m) }

    from_last : Begun ss M p v f (length r) nw → x ≡ first_of (result_row ss (M * divisor ss) p r new ∷ []) → Placed x
    unfolding first_of
    from_last b e = ⊎_elim
        (λ q. at_result b q.number (first_map (to_large φ ss (M * divisor ss) p (v -ℤ at f p) r) (of_large φ ss (M * divisor ss) p (v -ℤ at f p) r) q.first))
        (λ q. nowhere (rw q.1 (omega arith)) (rw q.1 refl))
        (row_at_answer 12 (length r) _ [] e)

    placed : x ≡ first_of rows → Placed x
    placed e = ⊎_elim
        (λ q. nowhere q.0 q.1)
        (λ q. ⊎_elim at_sample (λ s. from_last (front_begun ss M p v f (length r) nw q.0) s.1) (row_at_answer 11 (length f) _ _ q.1))
        (first_parts 11 (front ss M p v f (length r) nw) rest (front_unplaced ss M p v f (length r) nw) (e ∙ ap first_of parts))

  module _ {x : Answer} (e : x ≡ first_of rows) where
    pub edit_old : x.number ≡ 11 → (x.position ≡ p) × (M < nat_abs (at f p))
    edit_old n = let (i, l, b) = (placed e).sample n in (i, l)

    pub edit_bad_one : x.number ≡ 11 → x.bad ≡ 1
    edit_bad_one n = ((placed e).sample n).2

    pub edit_place : x.number ≡ 12 → FirstAt (length r) Offends x.position
    edit_place n = ((placed e).result n).1

    pub edit_no_position : (x.number ≡ 11 → ⊥) → (x.number ≡ 12 → ⊥) → x.position ≡ 0
    edit_no_position = (placed e).other

    pub edit_bad : Counted (λ i. (i ≡ p) × (M < nat_abs (at f i))) (length f) rows x
    edit_bad = rw parts (bad_counted (front ss M p v f (length r) nw) _ (front_unplaced ss M p v f (length r) nw) (length f) _
        (λ i l k. let (a, b) = and_yes (eqb i p) (above M (at f i)) k in (eqb-true i p a, ltb-true _ _ b))
        (λ i l k. yes_and (eq-eqb i p k.0) (lt-ltb _ _ k.1))
        (e ∙ ap first_of parts)
        (λ k. ⊎_elim (λ q. (λ n. omega (arith, q.number), q.bad)) (λ q. none_behind q.1) (row_at_answer 12 (length r) _ [] k))
        (rw parts at (edit_rising ss M p v f r new nw)) (rw parts at (edit_numbered ss M p v f r new nw)))

  -- ---- a true smoothing
  pub edit_never_12 : Nearness φ → r ≡ results φ ss f → Sized M f → (first_of rows).number ≡ 12 → ⊥
  edit_never_12 C e s n =
      let (b, h) = (placed refl).result n in
      let off : (result_row ss (M * divisor ss) p r new).applies ≡ false = rw e (fresh_passes C ss s p {v = v} b.position (record { bound = b.value })) in
      true≢false (sym (of_large φ ss (M * divisor ss) p (v -ℤ at f p) r _ h.within h.here) ∙ row_at_none 12 (length r) _ off _ h.within)
