-- From a standard deviation of s hundredths to radius and edge weight, for K passes with inner weight b; Q is 10,000 K. Which whole edge weight is taken is of document 02.
--   largest n t         the largest of 0 .. n where the test t is true; 0 where there is none
--   radius_for s Q       the original radius
--   edge_over s Q b r    the survey's value at radius r, its edge weight for inner weight b, is this over edge_under ..
--   edge_under s Q r     .. which is above 0 at the original radius
--   nearest_down n d     n over d to the nearest whole number, a half down; d is above 0
--   edge_for s Q b r     the edge weight at radius r; at the original radius from 0 to b
--   original_for s Q b   one pass of the original radius and the edge weight there
--   wider t             one radius more than the stage t, and no edge
--   widened t           that, where the edge weight of t is its inner weight; else t. The taps are the same
--   stage_for s Q b      one pass of the plan found
--   planner_rows s K b   the rows of the table of numbers
--   plan_for s K b       the call's outcome, a Planned
use Rattle.std.specs.Prelude.{ℕ, zero, suc, ◌+◌, ◌-◌, ◌*◌, ◌/◌, Bool, cond, List, [], ◌∷◌, leb, ltb, eqb}
use Rattle.meaning.specs.Limits.{least, max_passes, max_radius, max_inner, max_sigma}
use Rattle.meaning.specs.Kernel.{Stage}
use Rattle.meaning.specs.Refusals.{Answer, Row, ◌when◌, first_of, outside, if_done}

unfoldable pub largest : ℕ → (ℕ → Bool) → ℕ
largest zero test = 0
largest (suc n) test = cond (test (suc n)) (suc n) (largest n test)

-- "r is the largest whole number with r(r+1)Q <= 3s²": none above s is one, since Q is at least 10,000
unfoldable pub radius_for : ℕ → ℕ → ℕ
radius_for s Q = largest s (λ r. leb (r * (r + 1) * Q) (3 * (s * s)))

-- "b(2r+1)(3s² - r(r+1)Q) / (6((r+1)²Q - s²))", "the survey's fractional edge weight over b"
abbrev pub edge_over : ℕ → ℕ → ℕ → ℕ → ℕ
edge_over s Q b r = b * (2 * r + 1) * (3 * (s * s) - r * (r + 1) * Q)

abbrev pub edge_under : ℕ → ℕ → ℕ → ℕ
edge_under s Q r = 6 * ((r + 1) * (r + 1) * Q - s * s)

unfoldable pub nearest_down : ℕ → ℕ → ℕ
nearest_down n d = (2 * n + d - 1) / (2 * d)

-- "take the whole number nearest the survey's value, a half going down"
unfoldable pub edge_for : ℕ → ℕ → ℕ → ℕ → ℕ
edge_for s Q b r = nearest_down (edge_over s Q b r) (edge_under s Q r)

abbrev pub original_for : ℕ → ℕ → ℕ → Stage
original_for s Q b = let r = radius_for s Q in record { radius = r; inner = b; edge = edge_for s Q b r }

abbrev pub wider : Stage → Stage
wider t = record { radius = t.radius + 1; inner = t.inner; edge = 0 }

-- "if that gives b, answer radius r+1 and edge weight 0, which is the same kernel"
unfoldable pub widened : Stage → Stage
widened t = cond (eqb t.edge t.inner) (wider t) t

unfoldable pub stage_for : ℕ → ℕ → ℕ → Stage
stage_for s Q b = widened (original_for s Q b)

-- "Refusals: 1, 3, 13, 15"
unfoldable pub planner_rows : ℕ → ℕ → ℕ → List Row
planner_rows s K b =
    (1 when outside least max_passes K)
    ∷ (3 when outside least max_inner b)
    ∷ (13 when outside least max_sigma s)
    ∷ (15 when ltb max_radius (stage_for s (10000 * K) b).radius)
    ∷ []

pub record Planned : Type 0 where
  pub answer : Answer
  pub radius : ℕ
  pub edge : ℕ

-- "then r and a are given as 0"
unfoldable pub plan_for : ℕ → ℕ → ℕ → Planned
plan_for s K b =
    let stage = stage_for s (10000 * K) b in
    let answer = first_of (planner_rows s K b) in
    record { answer = answer; radius = if_done answer stage.radius 0; edge = if_done answer stage.edge 0 }
