-- Document 01's bounds as its table lists them. A call is done exactly where they hold: that the rows of Refusals say the same is proved, not defined.
--   AllowedStage s            radius and weights of one pass
--   AllowedStages ss          of every pass
--   AllowedPlan ss            and how many passes
--   AcceptedPlan ss           a plan that calls accept under some bound
--   AllowedLength ss M N      a plan, a bound M and a length N
--   AllowedSeries ss M f nr nw   those of smoothing the samples f, with nr results and nw cells of work
--   AllowedSides hs vs M W H   plans across and down, a bound M, a width W and a height H
--   AllowedPicture hs vs M W H f nr nw   those of smoothing the picture f, with nr results and nw cells of work
--   AllowedEdit φ ss M p v f r nw   of an edit that sets sample p of f to v, with the stored results r and nw cells of work
--   AllowedPoint ss M n f nw  of the point at n of the samples f, with nw cells of work
--   WholeDouble M x           the double x is a whole number of size at most M, with either sign
--   AllowedDoubles M xs n     of taking the doubles xs in, to n samples
--   AllowedSeriesOut ss M r n   of putting the results r of a series out, to n cells; a summary asks no cells, and has them right
--   AllowedPictureOut hs vs M W H r n   of those of a picture
--   AllowedSigma s K b        of the planner
--   FirstAt N P i             i is the first of 0 .. N - 1 with the property P
--   HowMany P N k             k of 0 .. N - 1 have the property P
--   Counted P N rows a        what the answer a of the rows says of N samples, where P says that one is tested and not acceptable
--   TooLarge φ ss L p d r n   result n is within reach of p, and has a size above L, or would get one where sample p changes by d
use Rattle.std.specs.Prelude.{ℕ, suc, ◌*◌, ◌≤◌, ◌<◌, ◌≡◌, ◌⊎◌, ◌≢◌, Bool, List, [], ◌∷◌, length, get_or, ℤ, pos, nat_abs, ◌+ℤ◌, ◌-ℤ◌, ◌*ℤ◌, Float}
use Rattle.std.specs.Float.{nan}
use Rattle.std.specs.Float.Ieee.Exact.{HasValue}
use Rattle.meaning.specs.Limits.{least, max_passes, max_radius, max_inner, max_bound, max_result, max_length, max_side, max_sigma}
use Rattle.meaning.specs.Extension.{at, IndexMap}
use Rattle.meaning.specs.Kernel.{Stage, reach, divisor}
use Rattle.meaning.specs.Smoothing.{weight, apart}
use Rattle.meaning.specs.Refusals.{Answer, Row, Applies}
use Rattle.meaning.specs.Calls.{edit_room}

pub record AllowedStage (s : Stage) : Type 0 where
  pub radius : s.radius ≤ max_radius
  pub inner : (least ≤ s.inner) × (s.inner ≤ max_inner)
  pub edge : s.edge < s.inner

abbrev pub AllowedStages : List Stage → Type 0
AllowedStages [] = Unit {0}
AllowedStages (s ∷ ss) = AllowedStage s × AllowedStages ss

pub record AllowedPlan (ss : List Stage) : Type 0 where
  pub passes : (least ≤ length ss) × (length ss ≤ max_passes)
  pub stages : AllowedStages ss

pub record AcceptedPlan (ss : List Stage) : Type 0 where
  pub plan : AllowedPlan ss
  pub divides : divisor ss ≤ max_result

pub record AllowedLength (ss : List Stage) (M N : ℕ) : Type 0 where
  pub plan : AllowedPlan ss
  pub bound : (least ≤ M) × (M ≤ max_bound)
  pub product : M * divisor ss ≤ max_result
  pub count : (least ≤ N) × (N ≤ max_length)

pub record AllowedSeries (ss : List Stage) (M : ℕ) (f : List ℤ) (nr nw : ℕ) : Type 0 where
  pub common : AllowedLength ss M (length f)
  pub results : nr ≡ length f
  pub work : nw ≡ length f
  pub samples : (i : ℕ) → i < length f → nat_abs (at f i) ≤ M

pub record AllowedSides (hs vs : List Stage) (M W H : ℕ) : Type 0 where
  pub across : AllowedPlan hs
  pub down : AllowedPlan vs
  pub bound : (least ≤ M) × (M ≤ max_bound)
  pub product : M * (divisor hs * divisor vs) ≤ max_result
  pub width : (least ≤ W) × (W ≤ max_side)
  pub height : (least ≤ H) × (H ≤ max_side)
  pub cells : W * H ≤ max_length

pub record AllowedPicture (hs vs : List Stage) (M W H : ℕ) (f : List ℤ) (nr nw : ℕ) : Type 0 where
  pub common : AllowedSides hs vs M W H
  pub count : length f ≡ W * H
  pub results : nr ≡ W * H
  pub work : nw ≡ W * H
  pub samples : (i : ℕ) → i < length f → nat_abs (at f i) ≤ M

-- the change is the new value less the old
pub record AllowedEdit (φ : IndexMap) (ss : List Stage) (M p : ℕ) (v : ℤ) (f r : List ℤ) (nw : ℕ) : Type 0 where
  pub common : AllowedLength ss M (length f)
  pub results : length r ≡ length f
  pub work : nw ≡ edit_room ss (length f)
  pub position : p < length f
  pub value : nat_abs v ≤ M
  pub old : nat_abs (at f p) ≤ M
  pub before : (n : ℕ) → n < length f → apart n p ≤ reach ss → nat_abs (at r n) ≤ M * divisor ss
  pub after : (n : ℕ) → n < length f → apart n p ≤ reach ss → nat_abs (at r n +ℤ (v -ℤ at f p) *ℤ weight φ ss (length f) (pos n) p) ≤ M * divisor ss

pub record AllowedPoint (ss : List Stage) (M n : ℕ) (f : List ℤ) (nw : ℕ) : Type 0 where
  pub common : AllowedLength ss M (length f)
  pub work : nw ≡ edit_room ss (length f)
  pub position : n < length f
  pub samples : (i : ℕ) → i < length f → apart i n ≤ reach ss → nat_abs (at f i) ≤ M

pub record WholeDouble (M : ℕ) (x : Float) : Type 0 where
  pub negative : Bool
  pub size : ℕ
  pub most : size ≤ M
  pub is : HasValue x negative size 1

pub record AllowedDoubles (M : ℕ) (xs : List Float) (n : ℕ) : Type 0 where
  pub bound : (least ≤ M) × (M ≤ max_bound)
  pub count : (least ≤ length xs) × (length xs ≤ max_length)
  pub samples : n ≡ length xs
  pub doubles : (i : ℕ) → i < length xs → WholeDouble M (get_or xs i nan)

pub record AllowedSeriesOut (ss : List Stage) (M : ℕ) (r : List ℤ) (n : ℕ) : Type 0 where
  pub common : AllowedLength ss M (length r)
  pub cells : n ≡ length r
  pub results : (i : ℕ) → i < length r → nat_abs (at r i) ≤ M * divisor ss

pub record AllowedPictureOut (hs vs : List Stage) (M W H : ℕ) (r : List ℤ) (n : ℕ) : Type 0 where
  pub common : AllowedSides hs vs M W H
  pub count : length r ≡ W * H
  pub cells : n ≡ W * H
  pub results : (i : ℕ) → i < length r → nat_abs (at r i) ≤ M * (divisor hs * divisor vs)

-- the radius found is never above the largest, so 15 asks nothing more
pub record AllowedSigma (s K b : ℕ) : Type 0 where
  pub passes : (least ≤ K) × (K ≤ max_passes)
  pub inner : (least ≤ b) × (b ≤ max_inner)
  pub sigma : (least ≤ s) × (s ≤ max_sigma)

-- ---- positions and counts
pub record FirstAt (N : ℕ) (P : ℕ → Type 0) (i : ℕ) : Type 0 where
  pub within : i < N
  pub here : P i
  pub before : (j : ℕ) → j < i → P j → ⊥

pub data HowMany (P : ℕ → Type 0) : ℕ → ℕ → Type 0 where
  none : HowMany P 0 0
  one_more : {N k : ℕ} → P N → HowMany P N k → HowMany P (suc N) (suc k)
  no_more : {N k : ℕ} → (P N → ⊥) → HowMany P N k → HowMany P (suc N) k

-- At 11 the number of bad samples is how many there are, and not 0, and no row below applies; else it is 0. Where there are some, and no row below 11 applies, it is 11.
pub record Counted (P : ℕ → Type 0) (N : ℕ) (rows : List Row) (a : Answer) : Type 0 where
  pub count : a.number ≡ 11 → HowMany P N a.bad
  pub nonzero : a.number ≡ 11 → a.bad ≢ 0
  pub lowest : a.number ≡ 11 → (n : ℕ) → n < 11 → Applies n rows → ⊥
  pub other : a.number ≢ 11 → a.bad ≡ 0
  pub given : {k : ℕ} → HowMany P N k → k ≢ 0 → ((n : ℕ) → n < 11 → Applies n rows → ⊥) → a.number ≡ 11

abbrev pub TooLarge : IndexMap → List Stage → ℕ → ℕ → ℤ → List ℤ → ℕ → Type 0
TooLarge φ ss L p d r n = (apart n p ≤ reach ss) × ((L < nat_abs (at r n)) ⊎ (L < nat_abs (at r n +ℤ d *ℤ weight φ ss (length r) (pos n) p)))
