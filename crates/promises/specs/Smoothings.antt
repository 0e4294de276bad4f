-- Smoothing of any shape, from what its contract says (`Gives`): what holds of a series and of a picture alike.
--   Exactly A B      A where B, and B where A
--   answers          the answer is that of the first row that applies
--   lowest           the number is 0, or that of a row that applies, and then the lowest of those
--   done_exactly     it is 0 exactly where no row applies
--   place_first, place_other   at 11 the place is that of the first sample above the bound, else 0
--   counted          how many samples are above the bound, and that it is 11 exactly where some are and no lower row applies
--   unchanged        a refused call leaves every cell as it was
--   whole, left      one that is done leaves the results of the outcome, and zeros in work
--   number_done      the number is 0 where that of the rows is, and done_number the other way
--   same             two outcomes are the same
use Rattle.std.specs.Prelude.{ℕ, ◌≤◌, ◌<◌, ◌≡◌, ◌≢◌, List, length, ℤ, nat_abs, Result, ⊤}
use Rattle.std.proofs.Common.{sym, ap, ◌∙◌}
use Rattle.meaning.specs.Extension.{at}
use Rattle.meaning.specs.Refusals.{Answer, Row, first_of, Applies, Shape, zeros}
use Rattle.meaning.specs.Calls.{Smoothed, smooth_rows, smoothed}
use Rattle.meaning.specs.Bounds.{FirstAt, Counted}
use Rattle.theory.specs.Refusals.{number_lowest, number_none, if_done_done, if_done_refused}
use Rattle.theory.specs.AcceptedSmoothings.{smooth_rising, smooth_numbered, smooth_position, smooth_no_position, smooth_bad}
use Rattle.plan.specs.declared.Refusal.{Refusal}
use Rattle.plan.specs.Structs.{answer_of, one_answer}
use Rattle.series.specs.Contract.{Gives}

abbrev pub Exactly : Type 0 → Type 0 → Type 0
Exactly A B = (A → B) × (B → A)

module _ (s : Shape) (M : ℕ) (new f r w : List ℤ) {a : Answer} {rl wl : List ℤ} (h : Gives (smoothed s M new f r w) a rl wl) where
  abbrev rows : List Row
  rows = smooth_rows s M f (length r) (length w)

  pub answers : a ≡ first_of rows
  unfolding smoothed
  answers = h.answer

  number_is : a.number ≡ (first_of rows).number
  number_is = ap (λ (x : Answer). x.number) answers

  pub done_number : a.number ≡ 0 → (first_of rows).number ≡ 0
  done_number e = sym number_is ∙ e

  pub number_done : (first_of rows).number ≡ 0 → a.number ≡ 0
  number_done e = number_is ∙ e

  pub lowest : (a.number ≢ 0 → Applies a.number rows) × ((n : ℕ) → Applies n rows → a.number ≤ n)
  lowest = number_lowest rows number_is (smooth_rising s M f _ _)

  pub done_exactly : Exactly (a.number ≡ 0) ((n : ℕ) → Applies n rows → ⊥)
  done_exactly = number_none rows number_is (smooth_numbered s M f _ _)

  pub place_first : a.number ≡ 11 → FirstAt (length f) (λ i. M < nat_abs (at f i)) a.position
  place_first = smooth_position s M f _ _ answers

  pub place_other : a.number ≢ 11 → a.position ≡ 0
  place_other = smooth_no_position s M f _ _ answers

  pub counted : Counted (λ i. M < nat_abs (at f i)) (length f) rows a
  counted = smooth_bad s M f _ _ answers

  pub unchanged : a.number ≢ 0 → (rl ≡ r) × (wl ≡ w)
  unfolding smoothed
  unchanged n = (h.results ∙ if_done_refused _ _ _ (λ e. n (number_done e)), h.work ∙ if_done_refused _ _ _ (λ e. n (number_done e)))

  pub whole : a.number ≡ 0 → rl ≡ new
  unfolding smoothed
  whole e = h.results ∙ if_done_done _ _ _ (done_number e)

  pub left : a.number ≡ 0 → wl ≡ zeros w
  unfolding smoothed
  left e = h.work ∙ if_done_done _ _ _ (done_number e)

-- ---- two calls
pub same : {o p : Smoothed} → o ≡ p → {a b : Result ⊤ Refusal} {r s w x : List ℤ} → Gives o (answer_of a) r w → Gives p (answer_of b) s x → (a ≡ b) × (r ≡ s) × (w ≡ x)
same e g h = (
  one_answer _ _ (g.answer ∙ ap (λ (o : Smoothed). o.answer) e ∙ sym h.answer),
  g.results ∙ ap (λ (o : Smoothed). o.results) e ∙ sym h.results,
  g.work ∙ ap (λ (o : Smoothed). o.work) e ∙ sym h.work,
)
