-- The second moment of a kernel. A kernel's variance is its moment over its divisor, so in whole numbers:
--   moment_append      variances add: of stages one after the other, each one's moment times the other's divisor
--   moment_replicate   the variance of K equal stages is K times that of one
--   moment_stage       that of one stage, in its radius and weights: (r(r+1)(2r+1)b + 6(r+1)²a) / 3 over the sum of its taps
use Rattle.std.specs.Prelude.{◌≡◌, refl, List, [], ◌∷◌, ◌++◌, ℕ, zero, suc, ◌+◌, ◌*◌, replicate, ℤ, pos, ◌+ℤ◌, ◌-ℤ◌, ◌*ℤ◌}
use Rattle.std.proofs.Common.{sym, ◌∙◌, ap, ap₂, add-one, arith}
use Rattle.std.proofs.Math.Nat.{mul-one}
use Rattle.std.proofs.Math.IntN.{*ℤ_comm, *ℤ-zero, zero-*ℤ, +ℤ_idl, +ℤ_idr, +ℤ_invr}
use Rattle.algebra.specs.Ring.{ac, *ℤ-zero_r, *ℤ-+ℤ}
use Rattle.algebra.specs.Expression.{◌⊕◌, ◌⊝◌, ◌⊗◌, con}
use Rattle.algebra.specs.Solver.{ring, ◌≗◌}
use Rattle.algebra.specs.Within.{sum_within, within_ext, within-+, within-*}
use Rattle.meaning.specs.Kernel.{Stage, tap, kernel, width, tap_sum, divisor, moment, pass_at}
use Rattle.meaning.specs.Smoothing.{convolved}
use Rattle.theory.specs.Kernel.{tap_split}
use Rattle.theory.specs.Convolution.{pass_at_ext, convolved_ext, convolved_none, convolved_cons, convolved_append, convolved_const, convolved-+, convolved-*, kernel_sum, kernel_pairs}

-- ---- its first moment is 0
kernel_centred : (ss : List Stage) → sum_within (width ss) (λ m. kernel ss m *ℤ m) ≡ pos 0
kernel_centred ss = kernel_pairs ss (λ m. m) (pos 0) +ℤ_invr ∙ *ℤ-zero (pos (divisor ss))

-- ---- variances add
convolved_square : (ss : List Stage) (n : ℤ) → convolved ss (λ x. x *ℤ x) n ≡ moment ss +ℤ pos (divisor ss) *ℤ (n *ℤ n)
unfolding moment convolved
convolved_square ss n =
    within_ext _ (λ m l. square (kernel ss m) m n)
    ∙ within-+ _ (λ m. kernel ss m *ℤ (m *ℤ m)) (λ m. (pos 0 -ℤ n -ℤ n) *ℤ (kernel ss m *ℤ m) +ℤ n *ℤ n *ℤ kernel ss m)
    ∙ ap (λ z. moment ss +ℤ z) (
    within-+ _ _ (λ m. n *ℤ n *ℤ kernel ss m)
    ∙ ap₂ ◌+ℤ◌ (within-* _ (pos 0 -ℤ n -ℤ n) _ ∙ *ℤ-zero_r (pos 0 -ℤ n -ℤ n) (kernel_centred ss)) (within-* _ (n *ℤ n) (kernel ss) ∙ ap (λ z. n *ℤ n *ℤ z) (kernel_sum ss))
    ∙ +ℤ_idl (n *ℤ n *ℤ pos (divisor ss)) ∙ *ℤ_comm (n *ℤ n) (pos (divisor ss)))
  where
    square : (k m n : ℤ) → k *ℤ ((n -ℤ m) *ℤ (n -ℤ m)) ≡ k *ℤ (m *ℤ m) +ℤ ((pos 0 -ℤ n -ℤ n) *ℤ (k *ℤ m) +ℤ n *ℤ n *ℤ k)
    square = ring 3 (λ k m n. k ⊗ ((n ⊝ m) ⊗ (n ⊝ m)) ≗ k ⊗ (m ⊗ m) ⊕ ((con (pos 0) ⊝ n ⊝ n) ⊗ (k ⊗ m) ⊕ n ⊗ n ⊗ k)) refl

-- the squares' convolution at 0
centre : (ss : List Stage) → convolved ss (λ x. x *ℤ x) (pos 0) ≡ moment ss
centre ss = convolved_square ss (pos 0) ∙ ap (λ z. moment ss +ℤ z) (*ℤ-zero (pos (divisor ss))) ∙ +ℤ_idr (moment ss)

pub moment_append : (ss ts : List Stage) → moment (ss ++ ts) ≡ moment ss *ℤ pos (divisor ts) +ℤ pos (divisor ss) *ℤ moment ts
moment_append ss ts =
    sym (centre (ss ++ ts))
    ∙ convolved_append ss ts (λ x. x *ℤ x) (pos 0)
    ∙ convolved_ext ss (convolved_square ts) (pos 0)
    ∙ convolved-+ ss (λ x. moment ts) (λ x. pos (divisor ts) *ℤ (x *ℤ x)) (pos 0)
    ∙ ap₂ ◌+ℤ◌ (convolved_const ss (moment ts) (pos 0)) (convolved-* ss (pos (divisor ts)) (λ x. x *ℤ x) (pos 0) ∙ ap (λ z. pos (divisor ts) *ℤ z) (centre ss))
    ∙ regroup (pos (divisor ss)) (moment ts) (pos (divisor ts)) (moment ss)
  where
    regroup : (d v e u : ℤ) → d *ℤ v +ℤ e *ℤ u ≡ u *ℤ e +ℤ d *ℤ v
    regroup d v e u = simp ac

moment_cons : (s : Stage) (ss : List Stage) → moment (s ∷ ss) ≡ moment (s ∷ []) *ℤ pos (divisor ss) +ℤ pos (tap_sum s) *ℤ moment ss
moment_cons s ss = moment_append (s ∷ []) ss ∙ ap (λ d. moment (s ∷ []) *ℤ pos (divisor ss) +ℤ pos d *ℤ moment ss) (unfold divisor in mul-one (tap_sum s))

moment_none : moment [] ≡ pos 0
unfolding moment width sum_within kernel
moment_none = refl

pub moment_replicate : (K : ℕ) (s : Stage) → pos (tap_sum s) *ℤ moment (replicate K s) ≡ pos K *ℤ (moment (s ∷ []) *ℤ pos (divisor (replicate K s)))
unfolding divisor
moment_replicate zero s = ap (λ z. pos (tap_sum s) *ℤ z) moment_none ∙ *ℤ-zero (pos (tap_sum s)) ∙ sym (zero-*ℤ (moment (s ∷ []) *ℤ pos 1))
moment_replicate (suc K) s = rw (← add-one K) (ap (λ z. pos (tap_sum s) *ℤ z) (moment_cons s (replicate K s)) ∙ step (pos (tap_sum s)) (moment (s ∷ [])) (pos (divisor (replicate K s))) (moment (replicate K s)) (pos K) (moment_replicate K s))
  where
    step : (t v d x k : ℤ) → t *ℤ x ≡ k *ℤ (v *ℤ d) → t *ℤ (v *ℤ d +ℤ t *ℤ x) ≡ (k +ℤ pos 1) *ℤ (v *ℤ (t *ℤ d))
    step t v d x k e = rw e (ring 4 (λ t v d k. t ⊗ (v ⊗ d ⊕ k ⊗ (v ⊗ d)) ≗ (k ⊕ con (pos 1)) ⊗ (v ⊗ (t ⊗ d))) refl t v d k)

-- ---- one stage
squares : (R : ℕ) → pos 3 *ℤ sum_within R (λ m. m *ℤ m) ≡ pos (R * (R + 1) * (2 * R + 1))
unfolding sum_within
squares zero = refl
squares (suc R) = *ℤ-+ℤ (pos 3) (sum_within R (λ m. m *ℤ m)) _ ∙ rw (squares R) (ap pos (omega arith))

pub moment_stage : (s : Stage) → pos 3 *ℤ moment (s ∷ []) ≡ pos (s.radius * (s.radius + 1) * (2 * s.radius + 1) * s.inner + 6 * (suc s.radius * suc s.radius) * s.edge)
unfolding pass_at
moment_stage s =
    ap (λ z. pos 3 *ℤ z) (
    sym (centre (s ∷ [])) ∙ convolved_cons s [] (λ x. x *ℤ x) (pos 0) ∙ pass_at_ext s (convolved_none (λ x. x *ℤ x)) (pos 0)
    ∙ within_ext (suc r) (λ j l. ap (λ z. tap s j *ℤ z) (even j)) ∙ tap_split s (λ j. j *ℤ j))
    ∙ regroup (pos s.inner) (sum_within r (λ m. m *ℤ m)) (pos s.edge) (pos (suc r * suc r))
    ∙ rw (squares r) (ap pos (omega arith))
  where
    r : ℕ
    r = s.radius

    even : (j : ℤ) → (pos 0 -ℤ j) *ℤ (pos 0 -ℤ j) ≡ j *ℤ j
    even = ring 1 (λ j. (con (pos 0) ⊝ j) ⊗ (con (pos 0) ⊝ j) ≗ j ⊗ j) refl

    regroup : (b q a e : ℤ) → pos 3 *ℤ (b *ℤ q +ℤ a *ℤ (e +ℤ e)) ≡ b *ℤ (pos 3 *ℤ q) +ℤ pos 6 *ℤ e *ℤ a
    regroup = ring 4 (λ b q a e. con (pos 3) ⊗ (b ⊗ q ⊕ a ⊗ (e ⊕ e)) ≗ b ⊗ (con (pos 3) ⊗ q) ⊕ con (pos 6) ⊗ e ⊗ a) refl
