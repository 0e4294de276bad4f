-- The taps of a pass, and the kernel of all passes, over a row e without ends.
-- Laws: pass_at_ext, pass_at_const, pass_at_swap, tap_sum_lem (the taps of a pass); convolved_ext, convolved_none, convolved_cons (a stage in front is one pass more),
-- pass_at_one (one stage is one pass), convolved_append; convolved_const, convolved-+, convolved-*, convolved_sum, convolved_swap;
-- convolved_forward, convolved_backward (a row that goes on alike around n and p), convolved_nonneg;
-- kernel_append (of stages one after the other: the two kernels' convolution), kernel_sum, kernel_pairs (what pairs of opposite offsets weigh).
use Rattle.std.specs.Prelude.{◌≡◌, List, [], ◌∷◌, ◌++◌, ℕ, suc, ◌≤◌, ℤ, pos, neg_ℤ, nat_abs, ◌+ℤ◌, ◌-ℤ◌, ◌*ℤ◌, ◌≤ℤ◌}
use Rattle.std.proofs.Math.Path.{sym, ap}
use Rattle.std.proofs.Common.{◌∙◌, ap₂, arith}
use Rattle.std.proofs.Math.IntN.{*ℤ_comm, +ℤ_idr}
use Rattle.algebra.specs.Difference.{rep, diff, linear}
use Rattle.algebra.specs.Ring.{ac, *ℤ-idl, *ℤ-idr, *ℤ-assoc, *ℤ-left_comm, *ℤ-+ℤ}
use Rattle.algebra.specs.Order.{zarith, of+, nonneg-*}
use Rattle.algebra.specs.Sum.{sum, sum-*}
use Rattle.algebra.specs.Within.{sum_within, beyond-*, within_ext, within_const, within-+, within-*, within_swap, within_exchange, within_sum, within_neg, within_shift, within_nonneg}
use Rattle.meaning.specs.Kernel.{Stage, tap, kernel, width, tap_sum, divisor, pass_at}
use Rattle.meaning.specs.Smoothing.{convolved}
use Rattle.theory.specs.Kernel.{tap_split, kernel_cons, kernel_symmetric, kernel_nonneg, kernel_beyond}

-- ---- one pass
pub pass_at_ext : (s : Stage) {e g : ℤ → ℤ} → ((x : ℤ) → e x ≡ g x) → (n : ℤ) → pass_at s e n ≡ pass_at s g n
unfolding pass_at
pass_at_ext s h n = within_ext _ (λ j l. ap (λ z. tap s j *ℤ z) (h (n -ℤ j)))

pub pass_at_const : (s : Stage) (c n : ℤ) → pass_at s (λ x. c) n ≡ pos (tap_sum s) *ℤ c
unfolding pass_at tap_sum
pass_at_const s c n = tap_split s (λ j. c) ∙ ap (λ z. pos s.inner *ℤ z +ℤ pos s.edge *ℤ (c +ℤ c)) (within_const s.radius c) ∙ rw (rep c) (simp diff (omega linear))

pub tap_sum_lem : (s : Stage) → sum_within (suc s.radius) (tap s) ≡ pos (tap_sum s)
tap_sum_lem s = within_ext _ (λ j l. sym (*ℤ-idr (tap s j))) ∙ unfold pass_at in pass_at_const s (pos 1) (pos 0) ∙ *ℤ-idr (pos (tap_sum s))

pub pass_at_swap : (s t : Stage) (e : ℤ → ℤ) (n : ℤ) → pass_at s (pass_at t e) n ≡ pass_at t (pass_at s e) n
unfolding pass_at
pass_at_swap s t e n =
    within_exchange _ _ (tap s) (tap t) (λ i j. e (n -ℤ i -ℤ j))
    ∙ within_ext _ (λ j l. ap (λ z. tap t j *ℤ z) (within_ext _ (λ i k. ap (λ x. tap s i *ℤ e x) (sub_comm n i j))))
  where
    sub_comm : (n i j : ℤ) → n -ℤ i -ℤ j ≡ n -ℤ j -ℤ i
    sub_comm n i j = simp ac

-- ---- stages one after the other
pub convolved_ext : (ss : List Stage) {e g : ℤ → ℤ} → ((x : ℤ) → e x ≡ g x) → (n : ℤ) → convolved ss e n ≡ convolved ss g n
unfolding convolved
convolved_ext ss h n = within_ext _ (λ m l. ap (λ z. kernel ss m *ℤ z) (h (n -ℤ m)))

pub convolved_none : (e : ℤ → ℤ) (n : ℤ) → convolved [] e n ≡ e n
unfolding convolved width kernel sum_within
convolved_none e n = *ℤ-idl (e (n -ℤ pos 0)) ∙ ap e (+ℤ_idr n)

module _ (s : Stage) (ss : List Stage) (e : ℤ → ℤ) (n : ℤ) where
  inside : (m : ℤ) → kernel (s ∷ ss) m *ℤ e (n -ℤ m) ≡ sum_within (suc s.radius) (λ j. tap s j *ℤ (kernel ss (m -ℤ j) *ℤ e (n -ℤ m)))
  unfolding kernel pass_at
  inside m = *ℤ_comm (kernel (s ∷ ss) m) (e (n -ℤ m)) ∙ sym (within-* _ (e (n -ℤ m)) _) ∙ within_ext _ (λ j l. simp ac)

  moved : (j : ℤ) → nat_abs j ≤ suc s.radius → sum_within (width (s ∷ ss)) (λ m. kernel ss (m -ℤ j) *ℤ e (n -ℤ m)) ≡ convolved ss e (n -ℤ j)
  unfolding width convolved
  moved j l =
      within_ext _ (λ m t. ap (λ x. kernel ss (m -ℤ j) *ℤ e x) (back n m j))
      ∙ within_shift (width ss) _ (λ m. kernel ss m *ℤ e (n -ℤ j -ℤ m)) j (omega arith) (beyond-* (λ m. e (n -ℤ j -ℤ m)) (kernel_beyond ss))
    where
      back : (n m j : ℤ) → n -ℤ m ≡ n -ℤ j -ℤ (m -ℤ j)
      back n m j = rw (rep n, rep m, rep j) (simp diff (omega linear))

  pub convolved_cons : convolved (s ∷ ss) e n ≡ pass_at s (convolved ss e) n
  unfolding convolved pass_at
  convolved_cons =
      within_ext _ (λ m l. inside m)
      ∙ within_swap _ _ (λ m j. tap s j *ℤ (kernel ss (m -ℤ j) *ℤ e (n -ℤ m)))
      ∙ within_ext _ (λ j l. within-* _ (tap s j) (λ m. kernel ss (m -ℤ j) *ℤ e (n -ℤ m)) ∙ ap (λ z. tap s j *ℤ z) (moved j l))

pub pass_at_one : (s : Stage) (e : ℤ → ℤ) (n : ℤ) → convolved (s ∷ []) e n ≡ pass_at s e n
pass_at_one s e n = convolved_cons s [] e n ∙ pass_at_ext s (convolved_none e) n

pub convolved_append : (ss ts : List Stage) (e : ℤ → ℤ) (n : ℤ) → convolved (ss ++ ts) e n ≡ convolved ss (convolved ts e) n
convolved_append [] ts e n = sym (convolved_none (convolved ts e) n)
convolved_append (s ∷ ss) ts e n = convolved_cons s (ss ++ ts) e n ∙ pass_at_ext s (convolved_append ss ts e) n ∙ sym (convolved_cons s ss (convolved ts e) n)

pub kernel_append : (ss ts : List Stage) (m : ℤ) → kernel (ss ++ ts) m ≡ convolved ss (kernel ts) m
kernel_append [] ts m = sym (convolved_none (kernel ts) m)
kernel_append (s ∷ ss) ts m = kernel_cons s (ss ++ ts) m ∙ pass_at_ext s (kernel_append ss ts) m ∙ sym (convolved_cons s ss (kernel ts) m)

-- ---- linear
pub convolved_const : (ss : List Stage) (c n : ℤ) → convolved ss (λ x. c) n ≡ pos (divisor ss) *ℤ c
unfolding divisor
convolved_const [] c n = convolved_none (λ x. c) n ∙ sym (*ℤ-idl c)
convolved_const (s ∷ ss) c n =
    convolved_cons s ss (λ x. c) n ∙ pass_at_ext s (convolved_const ss c) n ∙ pass_at_const s (pos (divisor ss) *ℤ c) n
    ∙ sym (*ℤ-assoc (pos (tap_sum s)) (pos (divisor ss)) c)

pub kernel_sum : (ss : List Stage) → sum_within (width ss) (kernel ss) ≡ pos (divisor ss)
kernel_sum ss = within_ext _ (λ m l. sym (*ℤ-idr (kernel ss m))) ∙ unfold convolved in convolved_const ss (pos 1) (pos 0) ∙ *ℤ-idr (pos (divisor ss))

-- numbers that with their opposites are twice c weigh as c does
pub kernel_pairs : (ss : List Stage) (u : ℤ → ℤ) (c : ℤ) → ((m : ℤ) → u m +ℤ u (neg_ℤ m) ≡ c +ℤ c) → sum_within (width ss) (λ m. kernel ss m *ℤ u m) ≡ pos (divisor ss) *ℤ c
kernel_pairs ss u c h = half _ _ (
    ap (λ z. sum_within (width ss) (λ m. kernel ss m *ℤ u m) +ℤ z) (sym (within_neg (width ss) (λ m. kernel ss m *ℤ u m)))
    ∙ sym (within-+ (width ss) _ _)
    ∙ within_ext _ (λ m l. ap (λ z. kernel ss m *ℤ u m +ℤ z *ℤ u (neg_ℤ m)) (kernel_symmetric ss m) ∙ sym (*ℤ-+ℤ (kernel ss m) (u m) (u (neg_ℤ m))) ∙ ap (λ z. kernel ss m *ℤ z) (h m))
    ∙ unfold convolved in convolved_const ss (c +ℤ c) (pos 0)
    ∙ *ℤ-+ℤ (pos (divisor ss)) c c)
  where
    half : (x y : ℤ) → x +ℤ x ≡ y +ℤ y → x ≡ y
    half x y e = omega (zarith, of+ x x, of+ y y)

pub convolved-+ : (ss : List Stage) (e g : ℤ → ℤ) (n : ℤ) → convolved ss (λ x. e x +ℤ g x) n ≡ convolved ss e n +ℤ convolved ss g n
unfolding convolved
convolved-+ ss e g n = within_ext _ (λ m l. *ℤ-+ℤ (kernel ss m) (e (n -ℤ m)) (g (n -ℤ m))) ∙ within-+ _ _ _

pub convolved-* : (ss : List Stage) (c : ℤ) (e : ℤ → ℤ) (n : ℤ) → convolved ss (λ x. c *ℤ e x) n ≡ c *ℤ convolved ss e n
unfolding convolved
convolved-* ss c e n = within_ext _ (λ m l. *ℤ-left_comm (kernel ss m) c (e (n -ℤ m))) ∙ within-* _ c _

pub convolved_sum : (ss : List Stage) (N : ℕ) (g : ℕ → ℤ → ℤ) (n : ℤ) → convolved ss (λ x. sum N (λ p. g p x)) n ≡ sum N (λ p. convolved ss (g p) n)
unfolding convolved
convolved_sum ss N g n = within_ext _ (λ m l. sym (sum-* N (kernel ss m) (λ p. g p (n -ℤ m)))) ∙ within_sum _ N (λ m p. kernel ss m *ℤ g p (n -ℤ m))

-- a row of rows, along either first
pub convolved_swap : (ss ts : List Stage) (g : ℤ → ℤ → ℤ) (n m : ℤ) → convolved ss (λ x. convolved ts (g x) m) n ≡ convolved ts (λ y. convolved ss (λ x. g x y) n) m
unfolding convolved
convolved_swap ss ts g n m = within_exchange _ _ (kernel ss) (kernel ts) (λ i j. g (n -ℤ i) (m -ℤ j))

-- ---- where a row goes on alike around n and p, forward or backward
pub convolved_forward : (ss : List Stage) (e : ℤ → ℤ) (n p : ℤ) → ((d : ℤ) → e (n +ℤ d) ≡ e (p +ℤ d)) → convolved ss e n ≡ convolved ss e p
unfolding convolved
convolved_forward ss e n p h = within_ext _ (λ m l. ap (λ z. kernel ss m *ℤ z) (h (neg_ℤ m)))

pub convolved_backward : (ss : List Stage) (e : ℤ → ℤ) (n p : ℤ) → ((d : ℤ) → e (n +ℤ d) ≡ e (p -ℤ d)) → convolved ss e n ≡ convolved ss e p
unfolding convolved
convolved_backward ss e n p h = within_ext _ (λ m l. ap₂ ◌*ℤ◌ (sym (kernel_symmetric ss m)) (h (neg_ℤ m))) ∙ within_neg _ (λ m. kernel ss m *ℤ e (p -ℤ m))

-- ---- a row without negative numbers
pub convolved_nonneg : (ss : List Stage) {e : ℤ → ℤ} → ((x : ℤ) → pos 0 ≤ℤ e x) → (n : ℤ) → pos 0 ≤ℤ convolved ss e n
unfolding convolved
convolved_nonneg ss h n = within_nonneg _ (λ m l. nonneg-* (kernel_nonneg ss m) (h (n -ℤ m)))
