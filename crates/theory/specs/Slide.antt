-- A pass by a running sum, over any row e.
--   window e r n   e summed over |j| ≤ r around n
--   Step s e B     no number that a step of either running sum goes through is larger than B: of the plain sum `held`, `entered`,
--                  `weighed`, `pair`, `edges`; of the weighted one `change`, `outer`, `inside`, `between`; of both `written`
-- The plain sum runs the window and weighs it where it is written (window_slide, pass_at_window).
-- The weighted sum runs the pass itself: the survey's equation 33 (pass_at_slide).
-- Either step stays within twice M times the sum of the taps (step_size); that this is never above M times the divisor of all passes says room_part.
-- Laws: window_none (of radius 0), window_grow, window_slide, pass_at_window, pass_at_slide;
-- window_size, step_size.
use Rattle.std.specs.Prelude.{◌≡◌, ℕ, suc, ◌+◌, ◌*◌, ◌≤◌, ◌<◌, ℤ, ◌+ℤ◌, ◌-ℤ◌, ◌*ℤ◌}
use Rattle.std.proofs.Math.Path.{refl, ap}
use Rattle.std.proofs.Common.{sym, ◌∙◌, arith}
use Rattle.std.proofs.Math.Nat.{le-mul_of_pos_right}
use Rattle.std.proofs.Math.IntN.{pos, pred_ℤ, suc_ℤ, -ℤ_one, +ℤ_one, +ℤ_idr, +ℤ-neg_ℤ_cancel}
use Rattle.algebra.specs.Difference.{rep, diff, linear}
use Rattle.algebra.specs.Expression.{◌⊕◌, ◌⊝◌, ◌⊗◌, con}
use Rattle.algebra.specs.Solver.{ring, ◌≗◌}
use Rattle.algebra.specs.Size.{Abs, abs_weaken, abs_self, abs-+, abs--, abs-*}
use Rattle.algebra.specs.Within.{sum_within, within_ext, within_step, within_abs}
use Rattle.meaning.specs.Kernel.{Stage, tap_sum, pass_at}
use Rattle.theory.specs.Kernel.{tap_split}
use Rattle.theory.specs.Sizes.{pass_at_size}

unfoldable pub window : (ℤ → ℤ) → ℕ → ℤ → ℤ
window e r n = sum_within r (λ j. e (n -ℤ j))

-- ---- identities
module _ (e : ℤ → ℤ) where
  pub window_none : (n : ℤ) → window e 0 n ≡ e n
  unfolding window sum_within
  window_none n = ap e (+ℤ_idr n)

  pub window_grow : (r : ℕ) (n : ℤ) → window e (suc r) n ≡ window e r n +ℤ (e (n -ℤ pos (suc r)) +ℤ e (n +ℤ pos (suc r)))
  unfolding window sum_within
  window_grow r n = refl

  pub window_slide : (r : ℕ) (n : ℤ) → window e r (suc_ℤ n) +ℤ e (n -ℤ pos r) ≡ window e r n +ℤ e (n +ℤ pos (suc r))
  unfolding window
  window_slide r n = ap (λ z. z +ℤ e (n -ℤ pos r)) (within_ext r (λ j l. ap e (next n j))) ∙ within_step r (λ j. e (n -ℤ j))
    where
      next : (n j : ℤ) → suc_ℤ n -ℤ j ≡ n -ℤ pred_ℤ j
      next n j = rw (← +ℤ_one n, ← -ℤ_one j) (ring 2 (λ n j. n ⊕ con (pos 1) ⊝ j ≗ n ⊝ (j ⊝ con (pos 1))) refl n j)

  pub pass_at_window : (s : Stage) (n : ℤ) → pass_at s e n ≡ pos s.inner *ℤ window e s.radius n +ℤ pos s.edge *ℤ (e (n -ℤ pos (suc s.radius)) +ℤ e (n +ℤ pos (suc s.radius)))
  unfolding pass_at window
  pass_at_window s n = tap_split s (λ j. e (n -ℤ j))

  -- what enters less what leaves, on either side of the edge
  pub pass_at_slide : (s : Stage) (n : ℤ) → pass_at s e (suc_ℤ n) ≡ pass_at s e n
      +ℤ pos s.edge *ℤ (e (n +ℤ pos (suc (suc s.radius))) -ℤ e (n -ℤ pos (suc s.radius)))
      +ℤ (pos s.inner -ℤ pos s.edge) *ℤ (e (n +ℤ pos (suc s.radius)) -ℤ e (n -ℤ pos s.radius))
  pass_at_slide s n =
      let r = s.radius in
      rw (pass_at_window s (suc_ℤ n), pass_at_window s n, low n r, high n r)
      (moved (pos s.inner) (pos s.edge) (window e r n) (e (n -ℤ pos r)) (e (n +ℤ pos (suc r))) (e (n -ℤ pos (suc r))) (e (n +ℤ pos (suc (suc r)))) (window e r (suc_ℤ n)) (window_slide r n))
    where
      low : (n : ℤ) (r : ℕ) → suc_ℤ n -ℤ pos (suc r) ≡ n -ℤ pos r
      low n r = rw (← +ℤ_one n, rep n) (simp diff (omega linear))

      high : (n : ℤ) (r : ℕ) → suc_ℤ n +ℤ pos (suc r) ≡ n +ℤ pos (suc (suc r))
      high n r = rw (← +ℤ_one n, rep n) (simp diff (omega linear))

      moved : (b a w lo hi x y w' : ℤ) → w' +ℤ lo ≡ w +ℤ hi → b *ℤ w' +ℤ a *ℤ (lo +ℤ y) ≡ b *ℤ w +ℤ a *ℤ (x +ℤ hi) +ℤ a *ℤ (y -ℤ x) +ℤ (b -ℤ a) *ℤ (hi -ℤ lo)
      moved b a w lo hi x y w' h =
          rw (sym (+ℤ-neg_ℤ_cancel w' lo) ∙ ap (λ z. z -ℤ lo) h)
          (ring 7 (λ b a w lo hi x y. b ⊗ (w ⊕ hi ⊝ lo) ⊕ a ⊗ (lo ⊕ y) ≗ b ⊗ w ⊕ a ⊗ (x ⊕ hi) ⊕ a ⊗ (y ⊝ x) ⊕ (b ⊝ a) ⊗ (hi ⊝ lo)) refl b a w lo hi x y)

-- ---- sizes
pub record Step (s : Stage) (e : ℤ → ℤ) (B : ℕ) : Type 0 where
  -- the plain sum: its window, with a cell entered, weighed; its two cells at the edge, weighed
  pub held : (n : ℤ) → Abs (window e s.radius n) B
  pub entered : (n x : ℤ) → Abs (window e s.radius n +ℤ e x) B
  pub weighed : (n : ℤ) → Abs (pos s.inner *ℤ window e s.radius n) B
  pub pair : (x y : ℤ) → Abs (e x +ℤ e y) B
  pub edges : (x y : ℤ) → Abs (pos s.edge *ℤ (e x +ℤ e y)) B
  -- the weighted sum: what enters less what leaves, weighed, and added to the pass before; the sum of all is the next pass
  pub change : (x y : ℤ) → Abs (e x -ℤ e y) B
  pub outer : (x y : ℤ) → Abs (pos s.edge *ℤ (e x -ℤ e y)) B
  pub inside : (x y : ℤ) → Abs ((pos s.inner -ℤ pos s.edge) *ℤ (e x -ℤ e y)) B
  pub between : (n x y : ℤ) → Abs (pass_at s e n +ℤ pos s.edge *ℤ (e x -ℤ e y)) B
  pub written : (n : ℤ) → Abs (pass_at s e n) B

pub window_size : {M : ℕ} {e : ℤ → ℤ} → ((n : ℤ) → Abs (e n) M) → (r : ℕ) (n : ℤ) → Abs (window e r n) ((2 * r + 1) * M)
unfolding window
window_size {M} h r n = within_abs r M (λ j l. h (n -ℤ j))

module _ (s : Stage) {M : ℕ} {e : ℤ → ℤ} (h : (n : ℤ) → Abs (e n) M) where
  pub step_size : 0 < s.inner → {B : ℕ} → 2 * (M * tap_sum s) ≤ B → Step s e B
  unfolding tap_sum
  step_size b l =
      let one = le-mul_of_pos_right M b in
      let more = le-mul_of_pos_right (s.radius * M) b in
      let held = window_size h s.radius in
      record {
        held = λ n. abs_weaken (held n) (omega (arith, one, more));
        entered = λ n x. abs_weaken (abs-+ (held n) (h x)) (omega (arith, one, more));
        weighed = λ n. abs_weaken (abs-* (abs_self (pos s.inner)) (held n)) (omega arith);
        pair = λ x y. abs_weaken (abs-+ (h x) (h y)) (omega (arith, one));
        edges = λ x y. abs_weaken (abs-* (abs_self (pos s.edge)) (abs-+ (h x) (h y))) (omega arith);
        change = λ x y. abs_weaken (abs-- (h x) (h y)) (omega (arith, one));
        outer = λ x y. abs_weaken (abs-* (abs_self (pos s.edge)) (abs-- (h x) (h y))) (omega arith);
        inside = λ x y. abs_weaken (abs-* (abs-- (abs_self (pos s.inner)) (abs_self (pos s.edge))) (abs-- (h x) (h y))) (omega arith);
        between = λ n x y. abs_weaken (abs-+ (pass_at_size s h n) (abs-* (abs_self (pos s.edge)) (abs-- (h x) (h y)))) (omega arith);
        written = λ n. abs_weaken (pass_at_size s h n) (omega arith);
      }
