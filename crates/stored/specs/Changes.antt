-- What an edit makes of the stored results.
--   Changes ss L p d r a k left   what an edit makes of the results r under the limit L, where sample p changes by d: row 12's answer a, the count k, and what is left
--   Editable ss M p d r   what an edit of the results asks: the bounds of document 01, and a change of size up to twice the bound
-- Laws: gainable, changes_held (by taps that hold the kernel, the gains are the definition's).
use Rattle.std.specs.Prelude.{ℕ, ◌+◌, ◌*◌, ◌-◌, ◌≤◌, ◌<◌, ◌≡◌, ◌&&◌, ◌||◌, List, [], ◌∷◌, length, ℤ, pos, nat_abs, ◌+ℤ◌, ◌*ℤ◌}
use Rattle.std.proofs.Common.{sym, ◌∙◌, arith}
use Rattle.std.proofs.Math.Path.{ap}
use Rattle.algebra.specs.Size.{abs_weaken, abs-*}
use Rattle.meaning.specs.Extension.{at, fold}
use Rattle.meaning.specs.Kernel.{Stage, reach, divisor}
use Rattle.meaning.specs.Smoothing.{weight, near}
use Rattle.meaning.specs.Refusals.{Answer, first_of, row_at, above, if_done}
use Rattle.meaning.specs.Calls.{gained, changed}
use Rattle.meaning.specs.Bounds.{AllowedLength}
use Rattle.theory.specs.HalfSample.{half_sample}
use Rattle.theory.specs.Lists.{list_of_ext}
use Rattle.theory.specs.Sizes.{weight_size}
use Rattle.theory.specs.Local.{near_true, near_within}
use Rattle.theory.specs.Tests.{and_when}
use Rattle.theory.specs.Places.{picked, row_at_ext}
use Rattle.theory.specs.Edits.{result_row, gained_near, changed_is}
use Rattle.theory.specs.Accepted.{inner_allowed, length_accepted}
use Rattle.refusals.specs.Span.{low, high}
use Rattle.taps.specs.Taps.{Held}
use Rattle.taps.specs.Weigh.{weight_held, weighable}
use Rattle.gains.specs.Gains.{gain_in, moved_in, gained_in, refused_in, Gainable, ChangesIn}

pub record Changes (ss : List Stage) (L p : ℕ) (d : ℤ) (r : List ℤ) (a : Answer) (k : ℕ) (left : List ℤ) : Type 0 where
  pub answer : a ≡ first_of (result_row ss L p r (gained fold ss p d r) ∷ [])
  pub count : k ≡ if_done a (changed r (gained fold ss p d r)) 0
  pub results : left ≡ if_done a (gained fold ss p d r) r

pub record Editable (ss : List Stage) (M p : ℕ) (d : ℤ) (r : List ℤ) : Type 0 where
  pub common : AllowedLength ss M (length r)
  pub position : p < length r
  pub change : nat_abs d ≤ 2 * M

module _ (ss : List Stage) (M p : ℕ) (d : ℤ) (r : List ℤ) (ok : Editable ss M p d r) (xs : List ℤ) (held : Held ss xs) where
  abbrev L : ℕ
  L = M * divisor ss

  abbrev start : ℕ
  start = low p (reach ss)

  abbrev end : ℕ
  end = high (length r) p (reach ss)

  gain_is : {n : ℕ} → n < length r → gain_in xs (length r) p d n ≡ d *ℤ weight fold ss (length r) (pos n) p
  unfolding gain_in
  gain_is {n} l = ap (λ z. d *ℤ z) (weight_held ss xs held (length r) n p l ok.position)

  pub gainable : Gainable xs (length r) p d
  gainable = record {
    sample = ok.position;
    weights = λ n l. weighable held ok.common.count.1 l ok.position (length_accepted ok.common).divides;
    gains = λ n l. rw (gain_is l) (abs_weaken (abs-* {a = d} (record { bound = ok.change }) (weight_size fold ss (length r) (pos n) p)) (omega (arith, ok.common.product)));
  }

  moved_is : {n : ℕ} → n < length r → moved_in xs p d r n ≡ at r n +ℤ d *ℤ weight fold ss (length r) (pos n) p
  unfolding moved_in
  moved_is {n} l = ap (λ z. at r n +ℤ z) (gain_is l)

  gained_is : gained_in xs p d r (low p (reach ss)) (high (length r) p (reach ss)) ≡ gained fold ss p d r
  unfolding gained_in gained
  gained_is = list_of_ext (length r) (λ n l. rw (near_within ss p l, moved_is l))

  refused_is : (n : ℕ) → n < length r → picked start end (refused_in L xs p d r) n ≡ (near ss n p && (above L (at r n) || above L (at (gained fold ss p d r) n)))
  unfolding refused_in
  refused_is n l = rw (← near_within ss p l) (and_when (near ss n p) (λ t. rw (moved_is l, gained_near fold ss p d r l (near_true ss n p t))))

  row_is : row_at 12 (length r) (picked (low p (reach ss)) (high (length r) p (reach ss)) (refused_in (M * divisor ss) xs p d r)) ≡ result_row ss (M * divisor ss) p r (gained fold ss p d r)
  row_is = row_at_ext 12 (length r) refused_is

  pub changes_held : length xs ≡ reach ss + 1 → {a : Answer} {k : ℕ} {left : List ℤ} → ChangesIn xs (M * divisor ss) p d r a k left → Changes ss (M * divisor ss) p d r a k left
  changes_held e {a} h =
      let R : length xs - 1 ≡ reach ss = omega arith in
      record {
        answer = rw R at h.answer ∙ ap (λ row. first_of (row ∷ [])) row_is;
        count = rw R at h.count ∙ ap (λ k. if_done a k 0) (sym (changed_is half_sample (inner_allowed ss ok.common.plan.stages) p d r ok.position));
        results = rw R at h.results ∙ ap (λ new. if_done a new r) gained_is;
      }
