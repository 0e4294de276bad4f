-- The planner's rule: which radius and edge weight it finds, and that their plan is allowed.
--   planned s K b   the plan found for sigma s, K passes and inner weight b
-- Laws: radius_fits, radius_largest (the radius by its rule), radius_is, radius_bounded (of every radius that fits), radius_most;
-- edge_positive, under_positive, edge_nearest, edge_half (the edge weight by its rule: none is nearer, and of two as near it is the lower), edge_most;
-- stage_full, stage_below, stage_inner, stage_taps (the pass found, by the original one); planner_rising, planner_numbered;
-- sigma_allowed, allowed_sigma, tested_sigma (rows 1, 3 and 13 say all of it), least_q; planned_allowed; planner_never_15.
use Rattle.std.specs.Prelude.{◌≡◌, ◌≢◌, List, [], ◌∷◌, ltb, replicate}
use Rattle.std.proofs.Math.Path.{refl, ap}
use Rattle.std.proofs.Common.{sym, subst, mul-le-mul, mul-le-mul_left, mul-le-mul_right}
use Rattle.std.proofs.Math.Logic.{⊎_elim}
use Rattle.std.proofs.Math.Bool.{Bool, true, false, cond}
use Prim.Native.Nat.{ℕ, zero, suc, ◌+◌, ◌*◌, ◌-◌, ◌≤◌, ◌<◌}
use Rattle.std.proofs.Math.Decide.{ℕ_discrete, dec_lt}
use native.Mathlib.Omega.{arith}
use Rattle.std.proofs.Math.Dec.{leb}
use Rattle.std.proofs.lemmas.List.{length-replicate}
use borrow.Author.Tests.{leb-true, leb-false, le-leb, le-ltb}
use Rattle.meaning.specs.Limits.{least, max_passes, max_radius, max_inner, max_sigma}
use Rattle.meaning.specs.Kernel.{Stage}
use Rattle.meaning.specs.Smoothing.{apart}
use Rattle.meaning.specs.Refusals.{Answer, Row, ◌when◌, first_of, outside}
use Rattle.meaning.specs.Planner.{largest, radius_for, edge_over, edge_under, edge_for, original_for, wider, stage_for, planner_rows}
use Rattle.meaning.specs.Bounds.{AllowedStage, AllowedPlan, AllowedSigma}
use Rattle.theory.specs.SameTaps.{SameTaps}
use Rattle.theory.specs.Widened.{widened_full, widened_below, widened_either, widened_taps}
use Rattle.theory.specs.Nearest.{down_nearest, down_half, down_most}
use Rattle.theory.specs.Refusals.{done, Off, Numbered, Rising, done_off, off_done, append_off, first_parts}
use Rattle.theory.specs.Tests.{outside_no, no_outside}
use Rattle.theory.specs.Accepted.{allowed_stages}

abbrev pub planned : ℕ → ℕ → ℕ → List Stage
planned s K b = replicate K (stage_for s (10000 * K) b)

-- ---- the largest where a test is true
module _ (t : ℕ → Bool) where
  largest_true : (n : ℕ) → t 0 ≡ true → t (largest n t) ≡ true
  unfolding largest
  largest_true zero h = h
  largest_true (suc n) h = go (t (suc n)) refl (largest_true n h)
    where
      go : (b : Bool) → t (suc n) ≡ b → t (largest n t) ≡ true → t (cond b (suc n) (largest n t)) ≡ true
      go true e k = e
      go false e k = k

  largest_most : (n : ℕ) → largest n t ≤ n
  unfolding largest
  largest_most zero = omega arith
  largest_most (suc n) = go (t (suc n)) (largest_most n)
    where
      go : (b : Bool) → largest n t ≤ n → cond b (suc n) (largest n t) ≤ suc n
      go true k = omega arith
      go false k = omega arith

  largest_above : (n m : ℕ) → largest n t < m → m ≤ n → t m ≡ false
  unfolding largest
  largest_above zero m l h = absurd (omega arith)
  largest_above (suc n) m l h = go (t (suc n)) refl (ℕ_discrete m (suc n)) (largest_above n m) l
    where
      go : (b : Bool) → t (suc n) ≡ b → Dec (m ≡ suc n) → (largest n t < m → m ≤ n → t m ≡ false) → cond b (suc n) (largest n t) < m → t m ≡ false
      go true e d k l = absurd (omega arith)
      go false e (yes i) k l = rw i e
      go false e (no i) k l = k l (omega arith)

-- ---- the radius
boxes_rise : (Q : ℕ) {m n : ℕ} → m ≤ n → m * (m + 1) * Q ≤ n * (n + 1) * Q
boxes_rise Q {m} {n} h = let l : m + 1 ≤ n + 1 = omega arith in mul-le-mul_right Q (mul-le-mul h l)

module _ (s Q : ℕ) where
  abbrev found : ℕ
  found = radius_for s Q

  abbrev over : ℕ → ℕ
  over b = edge_over s Q b found

  abbrev under : ℕ
  under = edge_under s Q found

  module _ (q : 10000 ≤ Q) where
    pub radius_fits : found * (found + 1) * Q ≤ 3 * (s * s)
    unfolding radius_for
    radius_fits = leb-true _ _ (largest_true (λ r. leb (r * (r + 1) * Q) (3 * (s * s))) s (le-leb (0 * (0 + 1) * Q) (3 * (s * s)) (omega arith)))

    radius_next : 3 * (s * s) < (found + 1) * (found + 2) * Q
    unfolding radius_for
    radius_next = go (dec_lt found s) (largest_most test s)
      where
        test : ℕ → Bool
        test r = leb (r * (r + 1) * Q) (3 * (s * s))

        beyond : 3 * (s * s) < (s + 1) * (s + 2) * Q
        beyond = omega (arith, mul-le-mul_left (s * s) q)

        go : Dec (found < s) → found ≤ s → 3 * (s * s) < (found + 1) * (found + 2) * Q
        go (yes l) k = let n : 3 * (s * s) < (found + 1) * (found + 1 + 1) * Q = leb-false _ _ (largest_above test s (found + 1) (omega arith) (omega arith)) in omega arith
        go (no l) k = let e : found ≡ s = omega arith in subst (λ (r : ℕ). 3 * (s * s) < (r + 1) * (r + 2) * Q) (sym e) beyond

    pub radius_largest : (n : ℕ) → (n ≤ found → n * (n + 1) * Q ≤ 3 * (s * s)) × (n * (n + 1) * Q ≤ 3 * (s * s) → n ≤ found)
    radius_largest n = (λ h. omega (arith, boxes_rise Q h, radius_fits), λ h. go h (dec_lt found n))
      where
        go : n * (n + 1) * Q ≤ 3 * (s * s) → Dec (found < n) → n ≤ found
        go h (yes l) = absurd (omega (arith, boxes_rise Q l, radius_next))
        go h (no l) = omega arith

    pub radius_is : {n : ℕ} → n * (n + 1) * Q ≤ 3 * (s * s) → 3 * (s * s) < (n + 1) * (n + 2) * Q → n ≡ found
    radius_is {n} h k = go (dec_lt n found)
      where
        go : Dec (n < found) → n ≡ found
        go (yes l) = absurd (omega (arith, (radius_largest (suc n)).0 l))
        go (no l) = omega (arith, (radius_largest n).1 h)

    pub radius_bounded : {n : ℕ} → s ≤ max_sigma → n * (n + 1) * Q ≤ 3 * (s * s) → n ≤ 442
    radius_bounded {n} l h = go (dec_lt 442 n)
      where
        go : Dec (442 < n) → n ≤ 442
        go (yes k) = absurd (omega (arith, boxes_rise Q k, mul-le-mul l l))
        go (no k) = omega arith

    pub radius_most : s ≤ max_sigma → found ≤ 442
    radius_most l = radius_bounded l radius_fits

    -- ---- the edge weight
    pub edge_positive : s * s < (found + 1) * (found + 1) * Q
    edge_positive = omega (arith, radius_next)

    pub under_positive : 0 < under
    under_positive = omega (arith, edge_positive)

    module _ (b : ℕ) where
      -- the survey's value is not above b
      over_most : over b ≤ b * under
      over_most =
          let e : found * (found + 1) * Q + (3 * (s * s) - found * (found + 1) * Q) ≡ 3 * (s * s) = omega (arith, radius_fits) in
          let f : (2 * found + 1) * (3 * (s * s) - found * (found + 1) * Q) < under = omega (arith, ap (λ (x : ℕ). (2 * found + 1) * x) e, edge_positive, mul-le-mul_left (2 * found + 3) radius_next) in
          omega (arith, mul-le-mul_left b f)

      pub edge_nearest : (n : ℕ) → apart (edge_for s Q b found * under) (over b) ≤ apart (n * under) (over b)
      unfolding edge_for
      edge_nearest = down_nearest (over b) under under_positive

      pub edge_half : (n : ℕ) → apart (n * under) (over b) ≡ apart (edge_for s Q b found * under) (over b) → edge_for s Q b found ≤ n
      unfolding edge_for
      edge_half = down_half (over b) under under_positive

      pub edge_most : edge_for s Q b found ≤ b
      unfolding edge_for
      edge_most = down_most (over b) under under_positive over_most

-- ---- one pass of the plan found
module _ (s Q b : ℕ) where
  pub stage_full : edge_for s Q b (radius_for s Q) ≡ b → stage_for s Q b ≡ wider (original_for s Q b)
  unfolding stage_for
  stage_full = widened_full (original_for s Q b)

  pub stage_below : edge_for s Q b (radius_for s Q) ≢ b → stage_for s Q b ≡ original_for s Q b
  unfolding stage_for
  stage_below = widened_below (original_for s Q b)

  pub stage_inner : (stage_for s Q b).inner ≡ b
  unfolding stage_for
  stage_inner = widened_either (original_for s Q b) (λ t. t.inner ≡ b) (λ e. refl) (λ e. refl)

  pub stage_taps : SameTaps (stage_for s Q b) (original_for s Q b)
  unfolding stage_for
  stage_taps = widened_taps (original_for s Q b)

-- ---- the rows
module _ (s K b : ℕ) where
  abbrev rows : List Row
  rows = planner_rows s K b

  abbrev Q : ℕ
  Q = 10000 * K

  -- the rows, in two parts
  abbrev front : List Row
  front = (1 when outside least max_passes K) ∷ (3 when outside least max_inner b) ∷ (13 when outside least max_sigma s) ∷ []

  abbrev last : List Row
  last = (15 when ltb max_radius (stage_for s Q b).radius) ∷ []

  pub planner_rising : Rising rows
  unfolding planner_rows
  planner_rising = tt

  pub planner_numbered : Numbered rows
  unfolding planner_rows
  planner_numbered = tt

  pub tested_sigma : Off front → AllowedSigma s K b
  tested_sigma h = record { passes = outside_no _ _ _ h.0; inner = outside_no _ _ _ h.1.0; sigma = outside_no _ _ _ h.1.1.0 }

  pub sigma_allowed : (first_of rows).number ≡ 0 → AllowedSigma s K b
  unfolding planner_rows
  sigma_allowed e = tested_sigma (append_off front last (done_off rows planner_numbered e)).0

  -- ---- the plan found
  module _ (ok : AllowedSigma s K b) where
    pub least_q : 10000 ≤ Q
    least_q = omega (arith, ok.passes.0)

    pub allowed_stage : AllowedStage (stage_for s Q b)
    unfolding stage_for
    allowed_stage =
        let l = radius_most s Q least_q ok.sigma.1 in
        let m = edge_most s Q least_q b in
        widened_either (original_for s Q b) AllowedStage (λ e. record { radius = omega arith; inner = ok.inner; edge = ok.inner.0 }) (λ e. record { radius = omega arith; inner = ok.inner; edge = omega arith })

    pub allowed_sigma : first_of rows ≡ done
    unfolding planner_rows
    allowed_sigma = off_done rows (no_outside ok.passes.0 ok.passes.1, (no_outside ok.inner.0 ok.inner.1, (no_outside ok.sigma.0 ok.sigma.1, (le-ltb _ _ allowed_stage.radius, tt))))

    pub planned_allowed : AllowedPlan (planned s K b)
    planned_allowed = record { passes = rw (length-replicate K (stage_for s Q b)) ok.passes; stages = allowed_stages K allowed_stage }

  -- row 15 applies only where another does
  pub planner_never_15 : (first_of rows).number ≢ 15
  unfolding planner_rows
  planner_never_15 e = ⊎_elim (λ p. omega arith) (λ p. omega (arith, ap (λ (a : Answer). a.number) (allowed_sigma (tested_sigma p.0)))) (first_parts 15 front last tt {a = first_of rows} refl)
