-- Sums from the centre outward.
--   sum_within R f  f summed over every whole m with |m| ≤ R
--   Beyond w f     f is 0 farther out than w
-- Laws: within_ext, within_halves, within_none, within_const, within-+, within-*, within_swap, within_exchange, within_sum, within_neg;
-- beyond-*, within_wide, within_step, within_shift;
-- within_abs, within_weighted, within_nonneg, within_positive.
use Rattle.std.specs.Prelude.{◌≡◌, refl, ℕ, zero, suc, ◌+◌, ◌*◌, ◌≤◌, ◌<◌, ℤ, pos, negsuc, neg_ℤ, nat_abs, ◌+ℤ◌, ◌-ℤ◌, ◌*ℤ◌, ◌≤ℤ◌, ◌<ℤ◌}
use Rattle.std.proofs.Common.{sym, ◌∙◌, ap, ap₂, le_refl, arith}
use Rattle.std.proofs.Math.IntN.{pred_ℤ, +ℤ_idl, +ℤ_idr, +ℤ_assoc, +ℤ_comm, +ℤ-pred_ℤ, neg_ℤ-+ℤ}
use Rattle.algebra.specs.Difference.{rep, diff, linear}
use Rattle.algebra.specs.Ring.{ac, *ℤ-left_comm, *ℤ-idl, *ℤ-zero_l, *ℤ-+ℤ}
use Rattle.algebra.specs.Order.{nonneg-+, positive-+-l, positive-+-r}
use Rattle.algebra.specs.Size.{Abs, abs_self, abs_weaken, abs-+, abs-*, nat_abs_neg, nat_abs_nonneg}
use Rattle.algebra.specs.Sum.{sum, sum_none, sum_wide, sum_abs, sum_nonneg, sum_positive}

unfoldable pub sum_within : ℕ → (ℤ → ℤ) → ℤ
sum_within zero f = f (pos 0)
sum_within (suc R) f = sum_within R f +ℤ (f (pos (suc R)) +ℤ f (negsuc R))

abbrev pub Beyond : ℕ → (ℤ → ℤ) → Type 0
Beyond w f = (m : ℤ) → w < nat_abs m → f m ≡ pos 0

-- ---- its terms
pub within_ext : (R : ℕ) {f g : ℤ → ℤ} → ((m : ℤ) → nat_abs m ≤ R → f m ≡ g m) → sum_within R f ≡ sum_within R g
unfolding sum_within
within_ext zero h = h (pos 0) (omega arith)
within_ext (suc R) h = ap₂ ◌+ℤ◌ (within_ext R (λ m l. h m (omega arith))) (ap₂ ◌+ℤ◌ (h (pos (suc R)) (le_refl _)) (h (negsuc R) (le_refl _)))

pub within_halves : (R : ℕ) (f : ℤ → ℤ) → sum_within R f ≡ sum (suc R) (λ i. f (pos i)) +ℤ sum R (λ i. f (negsuc i))
unfolding sum_within sum
within_halves zero f = sym (+ℤ_idr _ ∙ +ℤ_idl _)
within_halves (suc R) f = rw (within_halves R f) (simp ac)

pub within_none : (R : ℕ) {f : ℤ → ℤ} → ((m : ℤ) → nat_abs m ≤ R → f m ≡ pos 0) → sum_within R f ≡ pos 0
within_none R {f} h = rw (within_halves R f) (ap₂ ◌+ℤ◌ (sum_none (suc R) (λ i l. h (pos i) (omega arith))) (sum_none R (λ i l. h (negsuc i) l)))

-- ---- linear
pub within_const : (R : ℕ) (c : ℤ) → sum_within R (λ m. c) ≡ pos (2 * R + 1) *ℤ c
unfolding sum_within
within_const zero c = sym (*ℤ-idl c)
within_const (suc R) c = rw (within_const R c, rep c) (simp diff (omega linear))

pub within-+ : (R : ℕ) (f g : ℤ → ℤ) → sum_within R (λ m. f m +ℤ g m) ≡ sum_within R f +ℤ sum_within R g
unfolding sum_within
within-+ zero f g = refl
within-+ (suc R) f g = rw (within-+ R f g) (simp ac)

pub within-* : (R : ℕ) (c : ℤ) (f : ℤ → ℤ) → sum_within R (λ m. c *ℤ f m) ≡ c *ℤ sum_within R f
unfolding sum_within
within-* zero c f = refl
within-* (suc R) c f = rw (within-* R c f) (simp *ℤ-+ℤ)

pub within_swap : (R Q : ℕ) (f : ℤ → ℤ → ℤ) → sum_within R (λ m. sum_within Q (λ j. f m j)) ≡ sum_within Q (λ j. sum_within R (λ m. f m j))
unfolding sum_within
within_swap zero Q f = refl
within_swap (suc R) Q f = rw (within_swap R Q f, ← within-+ Q (f (pos (suc R))) (f (negsuc R))) (sym (within-+ Q _ _))

-- two weighted sums, one inside the other
pub within_exchange : (R Q : ℕ) (a b : ℤ → ℤ) (f : ℤ → ℤ → ℤ) → sum_within R (λ m. a m *ℤ sum_within Q (λ j. b j *ℤ f m j)) ≡ sum_within Q (λ j. b j *ℤ sum_within R (λ m. a m *ℤ f m j))
within_exchange R Q a b f =
    within_ext R (λ m l. sym (within-* Q (a m) _))
    ∙ within_swap R Q (λ m j. a m *ℤ (b j *ℤ f m j))
    ∙ within_ext Q (λ j l. within_ext R (λ m k. *ℤ-left_comm (a m) (b j) (f m j)) ∙ within-* R (b j) _)

pub within_sum : (R n : ℕ) (f : ℤ → ℕ → ℤ) → sum_within R (λ m. sum n (λ i. f m i)) ≡ sum n (λ i. sum_within R (λ m. f m i))
unfolding sum
within_sum R zero f = within_none R (λ m l. refl)
within_sum R (suc n) f = within-+ R (λ m. sum n (λ i. f m i)) (λ m. f m n) ∙ ap (λ z. z +ℤ sum_within R (λ m. f m n)) (within_sum R n f)

-- counted from the other end
pub within_neg : (R : ℕ) (f : ℤ → ℤ) → sum_within R (λ m. f (neg_ℤ m)) ≡ sum_within R f
unfolding sum_within
within_neg zero f = refl
within_neg (suc R) f = ap₂ ◌+ℤ◌ (within_neg R f) (+ℤ_comm (f (negsuc R)) (f (pos (suc R))))

-- ---- where f is 0 far out
pub beyond-* : {w : ℕ} {f : ℤ → ℤ} (g : ℤ → ℤ) → Beyond w f → Beyond w (λ m. f m *ℤ g m)
beyond-* g h m l = *ℤ-zero_l (g m) (h m l)

pub within_wide : (w R : ℕ) (f : ℤ → ℤ) → w ≤ R → Beyond w f → sum_within R f ≡ sum_within w f
within_wide w R f l h =
    within_halves R f
    ∙ ap₂ ◌+ℤ◌ (sum_wide (suc w) (suc R) (λ i. f (pos i)) (omega arith) (λ i t. h (pos i) t)) (sum_wide w R (λ i. f (negsuc i)) l (λ i t. h (negsuc i) (omega arith)))
    ∙ sym (within_halves w f)

-- one step on: what leaves and what enters
pub within_step : (R : ℕ) (f : ℤ → ℤ) → sum_within R (λ m. f (pred_ℤ m)) +ℤ f (pos R) ≡ sum_within R f +ℤ f (negsuc R)
unfolding sum_within
within_step zero f = +ℤ_comm (f (negsuc 0)) (f (pos 0))
within_step (suc R) f = step (sum_within R (λ m. f (pred_ℤ m))) (f (pos R)) (sum_within R f) (f (negsuc R)) (f (pos (suc R))) (f (negsuc (suc R))) (within_step R f)
  where
    step : (x a s b c d : ℤ) → x +ℤ a ≡ s +ℤ b → x +ℤ (a +ℤ d) +ℤ c ≡ s +ℤ (c +ℤ b) +ℤ d
    step x a s b c d h = ap (λ z. z +ℤ c) (sym (+ℤ_assoc x a d)) ∙ ap (λ z. z +ℤ d +ℤ c) h ∙ simp ac

module _ (f : ℤ → ℤ) where
  same_pred : (w R : ℕ) → w < R → Beyond w f → sum_within R (λ m. f (pred_ℤ m)) ≡ sum_within R f
  same_pred w R l h = sym (+ℤ_idr _) ∙ (rw (h (pos R) l, h (negsuc R) (omega arith)) at (within_step R f)) ∙ +ℤ_idr _

  beyond_pred : (w : ℕ) → Beyond w f → Beyond (suc w) (λ m. f (pred_ℤ m))
  beyond_pred w h (pos zero) l = absurd (omega arith)
  beyond_pred w h (pos (suc n)) l = h (pos n) (omega arith)
  beyond_pred w h (negsuc n) l = h (negsuc (suc n)) (omega arith)

less_suc : (m : ℤ) (j : ℕ) → m -ℤ pos (suc j) ≡ pred_ℤ (m -ℤ pos j)
less_suc m zero = +ℤ-pred_ℤ m (pos 0)
less_suc m (suc j) = +ℤ-pred_ℤ m (negsuc j)

right : (j w R : ℕ) (f : ℤ → ℤ) → w + j ≤ R → Beyond w f → sum_within R (λ m. f (m -ℤ pos j)) ≡ sum_within R f
right zero w R f l h = within_ext R (λ m t. ap f (+ℤ_idr m))
right (suc j) w R f l h = within_ext R (λ m t. ap f (less_suc m j)) ∙ right j (suc w) R (λ m. f (pred_ℤ m)) (omega arith) (beyond_pred f w h) ∙ same_pred f w R (omega arith) h

-- a sum that has all of f is the same wherever f is moved
pub within_shift : (w R : ℕ) (f : ℤ → ℤ) (j : ℤ) → w + nat_abs j ≤ R → Beyond w f → sum_within R (λ m. f (m -ℤ j)) ≡ sum_within w f
within_shift w R f (pos j) l h = right j w R f l h ∙ within_wide w R f (omega arith) h
within_shift w R f (negsuc j) l h =
    sym (within_neg R (λ m. f (m -ℤ negsuc j)))
    ∙ within_ext R (λ m t. ap f (sym (neg_ℤ-+ℤ m (negsuc j))))
    ∙ right (suc j) w R (λ m. f (neg_ℤ m)) l (λ m t. h (neg_ℤ m) (rw (nat_abs_neg m) t))
    ∙ within_neg R f ∙ within_wide w R f (omega arith) h

-- ---- bounds
pub within_abs : (R b : ℕ) {f : ℤ → ℤ} → ((m : ℤ) → nat_abs m ≤ R → Abs (f m) b) → Abs (sum_within R f) ((2 * R + 1) * b)
within_abs R b {f} h =
    let q = abs-+ (sum_abs (suc R) b (λ i l. h (pos i) (omega arith))) (sum_abs R b (λ i l. h (negsuc i) l)) in
    rw (within_halves R f) (abs_weaken q (omega arith))

pub within_nonneg : (R : ℕ) {f : ℤ → ℤ} → ((m : ℤ) → nat_abs m ≤ R → pos 0 ≤ℤ f m) → pos 0 ≤ℤ sum_within R f
within_nonneg R {f} h = rw (within_halves R f) (nonneg-+ (sum_nonneg (suc R) (λ i l. h (pos i) (omega arith))) (sum_nonneg R (λ i l. h (negsuc i) l)))

pub within_positive : (R : ℕ) {f : ℤ → ℤ} → ((m : ℤ) → nat_abs m ≤ R → pos 0 ≤ℤ f m) → (m : ℤ) → nat_abs m ≤ R → pos 0 <ℤ f m → pos 0 <ℤ sum_within R f
within_positive R {f} h m l t = rw (within_halves R f) (go m l t)
  where
    go : (m : ℤ) → nat_abs m ≤ R → pos 0 <ℤ f m → pos 0 <ℤ (sum (suc R) (λ i. f (pos i)) +ℤ sum R (λ i. f (negsuc i)))
    go (pos p) l t = positive-+-l (sum_positive (suc R) (λ i k. h (pos i) (omega arith)) p (omega arith) t) (sum_nonneg R (λ i k. h (negsuc i) k))
    go (negsuc p) l t = positive-+-r (sum_nonneg (suc R) (λ i k. h (pos i) (omega arith))) (sum_positive R (λ i k. h (negsuc i) k) p l t)

-- numbers of size up to b, weighed by c
pub within_weighted : (R b : ℕ) (c f : ℤ → ℤ) → ((m : ℤ) → nat_abs m ≤ R → pos 0 ≤ℤ c m) → ((m : ℤ) → nat_abs m ≤ R → Abs (f m) b) → Abs (sum_within R (λ m. c m *ℤ f m)) (nat_abs (sum_within R c) * b)
unfolding sum_within
within_weighted zero b c f h k = abs-* (abs_self (c (pos 0))) (k (pos 0) (le_refl 0))
within_weighted (suc R) b c f h k =
    let lo = within_weighted R b c f (λ m l. h m (omega arith)) (λ m l. k m (omega arith)) in
    let hi = abs-+ (abs-* (abs_self (c (pos (suc R)))) (k (pos (suc R)) (le_refl _))) (abs-* (abs_self (c (negsuc R))) (k (negsuc R) (le_refl _))) in
    let up = h (pos (suc R)) (le_refl _) in
    let down = h (negsuc R) (le_refl _) in
    record { bound = rw (nat_abs_nonneg (within_nonneg R (λ m l. h m (omega arith))) (nonneg-+ up down), nat_abs_nonneg up down) (omega (arith, (abs-+ lo hi).bound)) }
