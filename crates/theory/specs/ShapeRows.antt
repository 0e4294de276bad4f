-- Rows 1 to 8 of any shape, and after them one row with a position.
--   shape_rows s M w n N t   those rows: w says that a length is wrong, and row n is at the first of 0 .. N - 1 where t is true
-- Laws: shape_bounds (what rows 5 and 6 say of any shape); shape_off, off_shape (none of them applies); shape_position, shape_below, shape_no_position (of a row n above 8 that looks at sizes: at n, and else); shape_refused, shape_rest (in two parts, as code tests them: where row 7 applies, row 8 does not matter).
use Rattle.std.specs.Prelude.{◌≡◌, Bool, false, List, [], ◌∷◌, ◌++◌, ℕ, ◌*◌, ◌≤◌, ◌<◌, length, ℤ, nat_abs}
use Rattle.std.proofs.Common.{◌∙◌, ltb-true, ltb-false, lt-ltb}
use Rattle.meaning.specs.Limits.{least, max_bound, max_result}
use Rattle.meaning.specs.Extension.{at}
use Rattle.meaning.specs.Bounds.{FirstAt}
use Rattle.meaning.specs.Refusals.{Answer, Row, first_of, row_at, above, Shape, plan_rows, size_rows, common_rows}
use Rattle.theory.specs.Refusals.{Off, Unplaced, off_append, append_off, refused_first, done_rest, common_numbered, common_size}
use Rattle.theory.specs.Places.{row_at_off, row_at_none, place_here, place_other, first_map}
use Rattle.theory.specs.Tests.{outside_no}

pub shape_bounds : (s : Shape) (M : ℕ) (w : Bool) → Off (common_rows s M w) → ((least ≤ M) × (M ≤ max_bound)) × (M * s.divisor ≤ max_result)
unfolding size_rows
shape_bounds s M w h = let c = (append_off (plan_rows s.plans) _ h).1 in (outside_no least max_bound M c.0, ltb-false max_result (M * s.divisor) c.1.0)

module _ (s : Shape) (M : ℕ) (w : Bool) (n N : ℕ) (t : ℕ → Bool) where
  abbrev pub shape_rows : List Row
  shape_rows = common_rows s M w ++ row_at n N t ∷ []

  eighth : Off (common_rows s M w) → w ≡ false
  unfolding size_rows
  eighth h = (append_off (plan_rows s.plans) _ h).1.1.1.1.0

  pub shape_off : Off shape_rows → Off (common_rows s M false) × (w ≡ false) × ((i : ℕ) → i < N → t i ≡ false)
  shape_off h =
      let (c, k) = append_off (common_rows s M w) (row_at n N t ∷ []) h in
      let e = eighth c in
      (rw e at c, e, row_at_none n N t k.0)

  pub off_shape : Off (common_rows s M false) → w ≡ false → ((i : ℕ) → i < N → t i ≡ false) → Off shape_rows
  off_shape c e k = off_append (common_rows s M w) _ (rw e c) (row_at_off n N {t = t} k, tt)

  module _ {a : Answer} {v : Bool} (e : a ≡ first_of (common_rows s M v)) (k : s.bad_size ≡ false → v ≡ w) where
    pub shape_refused : (a.number ≡ 0 → ⊥) → a ≡ first_of shape_rows
    shape_refused h = refused_first _ _ (e ∙ common_size s M k) h

    pub shape_rest : a.number ≡ 0 → {b : Answer} → b ≡ first_of (row_at n N t ∷ []) → b ≡ first_of shape_rows
    shape_rest z g = done_rest _ _ (common_numbered s M w) (e ∙ common_size s M k) z g

-- ---- a row that looks for sizes above L among the numbers of f
module _ (s : Shape) (M : ℕ) (w : Bool) (n : ℕ) (u : Unplaced n (common_rows s M w)) (l : 0 < n) (L : ℕ) (f : List ℤ) {a : Answer} (e : a ≡ first_of (shape_rows s M w n (length f) (λ i. above L (at f i)))) where
  pub shape_position : a.number ≡ n → FirstAt (length f) (λ i. L < nat_abs (at f i)) a.position
  shape_position h = first_map (λ i l k. ltb-true _ _ k) (λ i l k. lt-ltb _ _ k) (place_here n (length f) (common_rows s M w) u _ l e h).first

  pub shape_below : (a.number ≡ n → ⊥) → a.number < n
  shape_below h = (place_other n (length f) (common_rows s M w) u _ l e h).0

  pub shape_no_position : (a.number ≡ n → ⊥) → a.position ≡ 0
  shape_no_position h = (place_other n (length f) (common_rows s M w) u _ l e h).1
