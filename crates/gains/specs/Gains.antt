-- What the results gain, by the taps xs.
--   gain_in xs N p d n      what the result at n of N gains where sample p changes by d
--   moved_in xs p d r n     the result at n with its gain
--   gained_in xs p d r start end   the results, those from start up to end with their gains
--   refused_in L xs p d r n        that result has, or would get, a size above L
--   count_in d start end    how many change: all from start up to end, or none where d is 0
--   start_in xs p, end_in xs N p   what lies within reach of p, of N
--   ChangesIn xs L p d r a k left   the answer a, the count k and the results left of an edit by xs under the limit L
--   Gainable xs N p d      room for every weight and every gain
--   Writable               room for every result that is written
-- Laws: gain_fits, sum_fits, refused_is; length_gained_in, gained_inside, gained_before, gained_behind; moved_fits, moved_written (a turn of the walk that writes);
-- by_refused, by_writable, by_done (the two ends of an edit by taps).
use Rattle.std.specs.Prelude.{ℕ, ◌*◌, ◌-◌, ◌≤◌, ◌<◌, ◌≡◌, Bool, cond, ◌||◌, List, [], ◌∷◌, eqb, length, ℤ, nat_abs, ◌+ℤ◌, ◌*ℤ◌, refl, Result, IsErrAnd}
use Rattle.std.proofs.Math.Path.{sym}
use Rattle.std.proofs.Common.{◌∙◌, arith, SFits}
use borrow.Author.Tests.{ltb-false}
use Rattle.std.proofs.lemmas.Result.{err_from_is_err_and}
use Rattle.std.specs.Int.{w64}
use Rattle.algebra.specs.Size.{Abs, abs-+, fits_abs}
use Rattle.meaning.specs.Limits.{max_result}
use Rattle.meaning.specs.Extension.{at}
use Rattle.meaning.specs.Smoothing.{list_of}
use Rattle.meaning.specs.Refusals.{Answer, Row, first_of, row_at, within, above, if_done}
use Rattle.theory.specs.Lists.{length_list_of, at_list_of}
use Rattle.theory.specs.Refusals.{Off, done_off, if_done_refused, number_zero}
use Rattle.theory.specs.Fill.{Filled}
use Rattle.theory.specs.Tests.{or_no, within_yes, within_before, within_behind}
use Rattle.theory.specs.Places.{picked, row_at_none}
use Rattle.plan.specs.declared.Refusal.{Refusal}
use Rattle.plan.specs.Structs.{plain, refused, answer_of, value_or, refused_number}
use Rattle.refusals.specs.Span.{low, high}
use Rattle.taps.specs.Weigh.{weight_in, Weighable}

unfoldable pub gain_in : List ℤ → ℕ → ℕ → ℤ → ℕ → ℤ
gain_in xs N p d n = d *ℤ weight_in xs N n p

unfoldable pub moved_in : List ℤ → ℕ → ℤ → List ℤ → ℕ → ℤ
moved_in xs p d r n = at r n +ℤ gain_in xs (length r) p d n

unfoldable pub gained_in : List ℤ → ℕ → ℤ → List ℤ → ℕ → ℕ → List ℤ
gained_in xs p d r start end = list_of (length r) (λ n. cond (within start end n) (moved_in xs p d r n) (at r n))

unfoldable pub refused_in : ℕ → List ℤ → ℕ → ℤ → List ℤ → ℕ → Bool
refused_in L xs p d r n = above L (at r n) || above L (moved_in xs p d r n)

abbrev pub count_in : ℤ → ℕ → ℕ → ℕ
count_in d start end = cond (eqb (nat_abs d) 0) 0 (end - start)

-- from the centre outward, the last tap is as far out as there are taps less one
abbrev pub start_in : List ℤ → ℕ → ℕ
start_in xs p = low p (length xs - 1)

abbrev pub end_in : List ℤ → ℕ → ℕ → ℕ
end_in xs N p = high N p (length xs - 1)

pub record Gainable (xs : List ℤ) (N p : ℕ) (d : ℤ) : Type 0 where
  pub sample : p < N
  pub weights : (n : ℕ) → n < N → Weighable xs N n p
  pub gains : (n : ℕ) → n < N → Abs (gain_in xs N p d n) (2 * max_result)

pub record Writable (xs : List ℤ) (p : ℕ) (d : ℤ) (r : List ℤ) (start end : ℕ) : Type 0 where
  pub order : start ≤ end
  pub inside : end ≤ length r
  pub gainable : Gainable xs (length r) p d
  pub fits : (n : ℕ) → start ≤ n → n < end → Abs (moved_in xs p d r n) max_result

pub record ChangesIn (xs : List ℤ) (L p : ℕ) (d : ℤ) (r : List ℤ) (a : Answer) (k : ℕ) (left : List ℤ) : Type 0 where
  pub answer : a ≡ first_of (row_at 12 (length r) (picked (start_in xs p) (end_in xs (length r) p) (refused_in L xs p d r)) ∷ [])
  pub count : k ≡ if_done a (count_in d (start_in xs p) (end_in xs (length r) p)) 0
  pub results : left ≡ if_done a (gained_in xs p d r (start_in xs p) (end_in xs (length r) p)) r

-- ---- one gain
pub gain_fits : {xs : List ℤ} {N p : ℕ} {d : ℤ} → Gainable xs N p d → {n : ℕ} → n < N → SFits w64 (d *ℤ weight_in xs N n p)
unfolding gain_in
gain_fits h {n} l = fits_abs (h.gains n l) (omega arith)

pub sum_fits : (L : ℕ) (old g : ℤ) → L ≤ max_result → nat_abs old ≤ L → nat_abs g ≤ 2 * max_result → SFits w64 (old +ℤ g)
sum_fits L old g l h k = fits_abs (abs-+ {a = old} {b = g} (record { bound = h }) (record { bound = k })) (omega arith)

pub refused_is : (L : ℕ) (xs : List ℤ) (p : ℕ) (d : ℤ) (r : List ℤ) (n : ℕ) {b : Bool} → b ≡ (above L (at r n) || above L (at r n +ℤ gain_in xs (length r) p d n)) → refused_in L xs p d r n ≡ b
unfolding refused_in moved_in
refused_is L xs p d r n e = sym e

-- ---- the results with their gains
module _ (xs : List ℤ) (p : ℕ) (d : ℤ) (r : List ℤ) (start end : ℕ) where
  pub length_gained_in : length (gained_in xs p d r start end) ≡ length r
  unfolding gained_in
  length_gained_in = length_list_of (length r) _

  at_gained_in : (n : ℕ) → n < length r → at (gained_in xs p d r start end) n ≡ cond (within start end n) (moved_in xs p d r n) (at r n)
  unfolding gained_in
  at_gained_in n l = at_list_of (length r) _ n l

  pub gained_inside : (n : ℕ) → n < length r → start ≤ n → n < end → moved_in xs p d r n ≡ at (gained_in xs p d r start end) n
  gained_inside n l h k = rw (at_gained_in n l, within_yes start end n h k)

  pub gained_before : (n : ℕ) → n < length r → n < start → at r n ≡ at (gained_in xs p d r start end) n
  gained_before n l h = rw (at_gained_in n l, within_before start end n h)

  pub gained_behind : (n : ℕ) → n < length r → end ≤ n → at r n ≡ at (gained_in xs p d r start end) n
  gained_behind n l h = rw (at_gained_in n l, within_behind start end n h)

-- ---- a turn of the walk that writes, where the result at n still is as it was
module _ {xs : List ℤ} {p : ℕ} {d : ℤ} {r : List ℤ} {start end : ℕ} (h : Writable xs p d r start end) {n : ℕ} (l : start ≤ n) (m : n < end) {left : List ℤ} (f : Filled (gained_in xs p d r start end) r left n) {g : ℤ} (e : g ≡ gain_in xs (length r) p d n) where
  moved_is : at left n +ℤ g ≡ moved_in xs p d r n
  unfolding moved_in
  moved_is = rw (f.rest n (omega arith), e)

  pub moved_fits : SFits w64 (at left n +ℤ g)
  moved_fits = rw moved_is (fits_abs (h.fits n l m) (omega arith))

  pub moved_written : at left n +ℤ g ≡ at (gained_in xs p d r start end) n
  moved_written = moved_is ∙ gained_inside xs p d r start end n (omega (arith, h.inside)) l m

-- ---- an edit by taps, at the code's own span
module _ (xs : List ℤ) (L p : ℕ) (d : ℤ) (r : List ℤ) {start end : ℕ} (s : start ≡ start_in xs p) (t : end ≡ end_in xs (length r) p) where
  abbrev tested : List Row
  tested = row_at 12 (length r) (picked start end (refused_in L xs p d r)) ∷ []

  answered : {a : Answer} → a ≡ first_of tested → a ≡ first_of (row_at 12 (length r) (picked (start_in xs p) (end_in xs (length r) p) (refused_in L xs p d r)) ∷ [])
  answered e = rw (s, t) at e

  pub by_refused : (x : Refusal) (q : Result ℕ Refusal) → IsErrAnd q (λ y. y ≡ x) → refused x ≡ first_of tested → ChangesIn xs L p d r (answer_of q) (value_or 0 q) r
  by_refused x q h e =
      let o = err_from_is_err_and q h in
      rw (o.1, o.2) (record { answer = answered e; count = sym (if_done_refused (refused x) _ 0 (refused_number x)); results = sym (if_done_refused (refused x) _ r (refused_number x)) })

  module _ (e : plain 0 ≡ first_of tested) where
    none : Off tested
    unfolding row_at
    none = done_off _ tt (number_zero e refl)

    passed : (n : ℕ) → start ≤ n → n < end → end ≤ length r → nat_abs (moved_in xs p d r n) ≤ L
    unfolding refused_in
    passed n h k l = ltb-false _ _ (or_no (above L (at r n)) (above L (moved_in xs p d r n)) (rw (within_yes start end n h k) at (row_at_none 12 (length r) _ none.0 n (omega arith)))).1

    pub by_writable : L ≤ max_result → Gainable xs (length r) p d → Writable xs p d r start end
    by_writable l g = record {
      order = omega (arith, g.sample);
      inside = omega arith;
      gainable = g;
      fits = λ n h k. record { bound = omega (arith, passed n h k (omega arith)) };
    }

    pub by_done : {k : ℕ} {left : List ℤ} → k ≡ count_in d start end → left ≡ gained_in xs p d r start end → ChangesIn xs L p d r (plain 0) k left
    unfolding if_done
    by_done h g = record { answer = answered e; count = rw (s, t) at h; results = rw (s, t) at g }
