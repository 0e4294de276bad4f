-- Within reach the kernel is above 0, and what lies beyond does not count.
-- Laws: kernel_positive; convolved_local, convolved_positive.
use Rattle.std.specs.Prelude.{◌≡◌, List, ◌∷◌, ℕ, zero, suc, ◌-◌, ◌≤◌, ℤ, pos, negsuc, nat_abs, ◌-ℤ◌, ◌*ℤ◌, ◌≤ℤ◌, ◌<ℤ◌}
use Rattle.std.proofs.Common.{sym, ◌∙◌, ap, le_refl, arith}
use Rattle.std.proofs.Math.Decide.{dec_le}
use Rattle.algebra.specs.Difference.{sub_pos}
use Rattle.algebra.specs.Ring.{sub_back, *ℤ-zero_l}
use Rattle.algebra.specs.Order.{nonneg-*, positive_pos, positive-*}
use Rattle.algebra.specs.Within.{sum_within, within_ext, within_positive}
use Rattle.meaning.specs.Kernel.{Stage, tap, kernel, tap_reach, reach, pass_at}
use Rattle.meaning.specs.Smoothing.{convolved}
use Rattle.theory.specs.Kernel.{tap_reach_width, tap_nonneg, tap_positive, kernel_symmetric, kernel_nonneg, reach_width, kernel_outside}
use Rattle.theory.specs.Stages.{PositiveInner, none, ◌and◌}

-- at x the pass in front takes what it can, the others the rest
right : {ss : List Stage} → PositiveInner ss → (x : ℕ) → x ≤ reach ss → pos 0 <ℤ kernel ss (pos x)
unfolding kernel pass_at reach
right none zero h = positive_pos (omega arith)
right none (suc x) h = let no : ⊥ = omega arith in absurd no
right {ss = s ∷ ss} (b and p) x h = go (right p) (dec_le x (tap_reach s))
  where
    taking : (j : ℕ) → j ≤ tap_reach s → j ≤ x → pos 0 <ℤ kernel ss (pos (x - j)) → pos 0 <ℤ sum_within (suc s.radius) (λ j. tap s j *ℤ kernel ss (pos x -ℤ j))
    taking j l k t = within_positive _ (λ i q. nonneg-* (tap_nonneg s i) (kernel_nonneg ss (pos x -ℤ i))) (pos j) (omega (arith, tap_reach_width s)) (positive-* (tap_positive s b (pos j) l) (rw (sub_pos x j k) t))

    go : ((x : ℕ) → x ≤ reach ss → pos 0 <ℤ kernel ss (pos x)) → Dec (x ≤ tap_reach s) → pos 0 <ℤ sum_within (suc s.radius) (λ j. tap s j *ℤ kernel ss (pos x -ℤ j))
    go ih (yes l) = taking x l (le_refl x) (ih (x - x) (omega arith))
    go ih (no l) = taking (tap_reach s) (le_refl _) (omega arith) (ih (x - tap_reach s) (omega arith))

pub kernel_positive : {ss : List Stage} → PositiveInner ss → (m : ℤ) → nat_abs m ≤ reach ss → pos 0 <ℤ kernel ss m
kernel_positive p (pos x) l = right p x l
kernel_positive {ss} p (negsuc x) l = rw (kernel_symmetric ss (pos (suc x))) (right p (suc x) l)

-- ---- over a row
-- what e holds farther off than the reach does not count
pub convolved_local : (ss : List Stage) {e g : ℤ → ℤ} (n : ℤ) → ((x : ℤ) → nat_abs (n -ℤ x) ≤ reach ss → e x ≡ g x) → convolved ss e n ≡ convolved ss g n
unfolding convolved
convolved_local ss {e} {g} n h = within_ext _ (λ m l. go m (dec_le (nat_abs m) (reach ss)))
  where
    go : (m : ℤ) → Dec (nat_abs m ≤ reach ss) → kernel ss m *ℤ e (n -ℤ m) ≡ kernel ss m *ℤ g (n -ℤ m)
    go m (yes l) = ap (λ z. kernel ss m *ℤ z) (h (n -ℤ m) (rw (sub_back n m) l))
    go m (no l) = *ℤ-zero_l (e (n -ℤ m)) (kernel_outside ss m (omega arith)) ∙ sym (*ℤ-zero_l (g (n -ℤ m)) (kernel_outside ss m (omega arith)))

-- one number above 0 within reach, and none below
pub convolved_positive : {ss : List Stage} → PositiveInner ss → {e : ℤ → ℤ} → ((x : ℤ) → pos 0 ≤ℤ e x) → (n x : ℤ) → nat_abs (n -ℤ x) ≤ reach ss → pos 0 <ℤ e x → pos 0 <ℤ convolved ss e n
unfolding convolved
convolved_positive {ss} p h n x l t = within_positive _ (λ m k. nonneg-* (kernel_nonneg ss m) (h (n -ℤ m))) (n -ℤ x) (omega (arith, reach_width ss)) (positive-* (kernel_positive p (n -ℤ x) l) (rw (sub_back n x) t))
