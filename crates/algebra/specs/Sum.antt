-- Finite sums.
--   sum n f   f 0 + .. + f (n − 1); 0 where n is 0
-- Laws: sum_ext, sum_none, sum-+, sum-*; sum_first, sum_split, sum_blocks, sum_next; sum_wide, sum_same, sum_where;
-- sum_abs, sum_nonneg, sum_positive, sum_part, sum_weighted.
use Rattle.std.specs.Prelude.{◌≡◌, refl, ◌≢◌, Bool, true, false, cond, ℕ, zero, suc, ◌+◌, ◌*◌, ◌-◌, ◌≤◌, ◌<◌, ℤ, pos, nat_abs, ◌+ℤ◌, ◌*ℤ◌, ◌≤ℤ◌, ◌<ℤ◌}
use Rattle.std.proofs.Common.{sym, ◌∙◌, ap, ap₂, add-zero, add-suc, zero-mul, suc-mul, arith}
use Rattle.std.proofs.Math.Decide.{ℕ_discrete, dec_le}
use Rattle.std.proofs.Math.IntN.{+ℤ_idr, +ℤ_idl, +ℤ_assoc, +ℤ_comm, *ℤ-zero}
use Rattle.algebra.specs.Ring.{ac, *ℤ-idr, *ℤ-+ℤ}
use Rattle.algebra.specs.Order.{nonneg_pos, nonneg-+, positive-+-l, positive-+-r}
use Rattle.algebra.specs.Size.{Abs, abs-+, abs_part, nat_abs_nonneg}

unfoldable pub sum : ℕ → (ℕ → ℤ) → ℤ
sum zero f = pos 0
sum (suc n) f = sum n f +ℤ f n

-- ---- linear
pub sum_ext : (n : ℕ) {f g : ℕ → ℤ} → ((i : ℕ) → i < n → f i ≡ g i) → sum n f ≡ sum n g
unfolding sum
sum_ext zero h = refl
sum_ext (suc n) h = ap₂ ◌+ℤ◌ (sum_ext n (λ i l. h i (omega arith))) (h n (omega arith))

pub sum_none : (n : ℕ) {f : ℕ → ℤ} → ((i : ℕ) → i < n → f i ≡ pos 0) → sum n f ≡ pos 0
unfolding sum
sum_none zero h = refl
sum_none (suc n) h = ap₂ ◌+ℤ◌ (sum_none n (λ i l. h i (omega arith))) (h n (omega arith))

pub sum-+ : (n : ℕ) (f g : ℕ → ℤ) → sum n (λ i. f i +ℤ g i) ≡ sum n f +ℤ sum n g
unfolding sum
sum-+ zero f g = refl
sum-+ (suc n) f g = rw (sum-+ n f g) (simp ac)

pub sum-* : (n : ℕ) (c : ℤ) (f : ℕ → ℤ) → sum n (λ i. c *ℤ f i) ≡ c *ℤ sum n f
unfolding sum
sum-* zero c f = sym (*ℤ-zero c)
sum-* (suc n) c f = rw (sum-* n c f) (sym (*ℤ-+ℤ c (sum n f) (f n)))

-- ---- the range taken apart
pub sum_first : (n : ℕ) (f : ℕ → ℤ) → sum (suc n) f ≡ f 0 +ℤ sum n (λ i. f (suc i))
unfolding sum
sum_first zero f = +ℤ_comm (pos 0) (f 0)
sum_first (suc n) f = ap (λ z. z +ℤ f (suc n)) (sum_first n f) ∙ +ℤ_assoc (f 0) (sum n (λ i. f (suc i))) (f (suc n))

pub sum_split : (m n : ℕ) (f : ℕ → ℤ) → sum (m + n) f ≡ sum m f +ℤ sum n (λ i. f (m + i))
unfolding sum
sum_split m zero f = rw add-zero (sym (+ℤ_idr (sum m f)))
sum_split m (suc n) f = rw (add-suc, sum_split m n f) (+ℤ_assoc (sum m f) (sum n (λ i. f (m + i))) (f (m + n)))

sum_rest : (m n : ℕ) (f : ℕ → ℤ) → m ≤ n → sum n f ≡ sum m f +ℤ sum (n - m) (λ i. f (m + i))
sum_rest m n f l = let e : n ≡ m + (n - m) = omega arith in ap (λ k. sum k f) e ∙ sum_split m (n - m) f

-- k stretches of p terms
pub sum_blocks : (k p : ℕ) (f : ℕ → ℤ) → sum (k * p) f ≡ sum k (λ i. sum p (λ j. f (i * p + j)))
unfolding sum
sum_blocks zero p f = rw (zero-mul p)
sum_blocks (suc k) p f = rw (suc-mul k p, sum_split (k * p) p f, sum_blocks k p f)

-- where the last term is 0, all may move on by one
pub sum_next : (n : ℕ) (f : ℕ → ℤ) → f n ≡ pos 0 → sum n f ≡ f 0 +ℤ sum n (λ i. f (suc i))
unfolding sum
sum_next n f e = sym (ap (λ z. sum n f +ℤ z) e ∙ +ℤ_idr (sum n f)) ∙ sum_first n f

-- ---- where most terms are 0
pub sum_wide : (m n : ℕ) (f : ℕ → ℤ) → m ≤ n → ((i : ℕ) → m ≤ i → f i ≡ pos 0) → sum n f ≡ sum m f
sum_wide m n f l h = sum_rest m n f l ∙ ap (λ z. sum m f +ℤ z) (sum_none (n - m) (λ i t. h (m + i) (omega arith))) ∙ +ℤ_idr (sum m f)

pub sum_same : (m n : ℕ) (f : ℕ → ℤ) → ((i : ℕ) → m ≤ i → f i ≡ pos 0) → ((i : ℕ) → n ≤ i → f i ≡ pos 0) → sum m f ≡ sum n f
sum_same m n f h k = go (dec_le m n)
  where
    go : Dec (m ≤ n) → sum m f ≡ sum n f
    go (yes l) = sym (sum_wide m n f l h)
    go (no l) = sum_wide n m f (omega arith) k

sum_only : (n p : ℕ) (f : ℕ → ℤ) → p < n → ((i : ℕ) → i < n → i ≢ p → f i ≡ pos 0) → sum n f ≡ f p
unfolding sum
sum_only zero p f l h = absurd (omega arith)
sum_only (suc n) p f l h = go (ℕ_discrete p n) (sum_only n p f)
  where
    go : Dec (p ≡ n) → (p < n → ((i : ℕ) → i < n → i ≢ p → f i ≡ pos 0) → sum n f ≡ f p) → sum n f +ℤ f n ≡ f p
    go (yes e) ih = ap₂ ◌+ℤ◌ (sum_none n (λ i t. h i (omega arith) (omega arith))) (ap f (sym e)) ∙ +ℤ_idl (f p)
    go (no e) ih = ap₂ ◌+ℤ◌ (ih (omega arith) (λ i t. h i (omega arith))) (h n (omega arith) (omega arith)) ∙ +ℤ_idr (f p)

-- where a test that only q passes picks the terms
pub sum_where : (n q : ℕ) (f : ℕ → ℤ) (test : ℕ → Bool) → q < n → test q ≡ true → ((i : ℕ) → i < n → i ≢ q → test i ≡ false) → sum n (λ i. f i *ℤ pos (cond (test i) 1 0)) ≡ f q
sum_where n q f test l e h = sum_only n q _ l (λ i k d. rw (h i k d) (*ℤ-zero (f i))) ∙ rw e (*ℤ-idr (f q))

-- ---- bounds
pub sum_abs : (n b : ℕ) {f : ℕ → ℤ} → ((i : ℕ) → i < n → Abs (f i) b) → Abs (sum n f) (n * b)
unfolding sum
sum_abs zero b h = omega arith
sum_abs (suc n) b h = let q = abs-+ (sum_abs n b (λ i l. h i (omega arith))) (h n (omega arith)) in omega arith

pub sum_nonneg : (n : ℕ) {f : ℕ → ℤ} → ((i : ℕ) → i < n → pos 0 ≤ℤ f i) → pos 0 ≤ℤ sum n f
unfolding sum
sum_nonneg zero h = nonneg_pos
sum_nonneg (suc n) h = nonneg-+ (sum_nonneg n (λ i l. h i (omega arith))) (h n (omega arith))

pub sum_positive : (n : ℕ) {f : ℕ → ℤ} → ((i : ℕ) → i < n → pos 0 ≤ℤ f i) → (p : ℕ) → p < n → pos 0 <ℤ f p → pos 0 <ℤ sum n f
unfolding sum
sum_positive zero h p l t = absurd (omega arith)
sum_positive (suc n) {f} h p l t = go (ℕ_discrete p n) (sum_positive n (λ i k. h i (omega arith)) p)
  where
    go : Dec (p ≡ n) → (p < n → pos 0 <ℤ f p → pos 0 <ℤ sum n f) → pos 0 <ℤ (sum n f +ℤ f n)
    go (yes e) ih = positive-+-r (sum_nonneg n (λ i k. h i (omega arith))) (rw e at t)
    go (no e) ih = positive-+-l (ih (omega arith) t) (h n (omega arith))

-- the first of numbers that are not negative sum to no more than all of them
pub sum_part : (m n : ℕ) {b : ℕ} {f : ℕ → ℤ} → m ≤ n → ((i : ℕ) → pos 0 ≤ℤ f i) → Abs (sum n f) b → Abs (sum m f) b
sum_part m n {f = f} l h s = abs_part (sum_nonneg m (λ i k. h i)) (sum_nonneg (n - m) (λ i k. h (m + i))) (rw (sum_rest m n f l) at s)

-- each f i at most b times its weight
pub sum_weighted : (n b : ℕ) {w f : ℕ → ℤ} → ((i : ℕ) → pos 0 ≤ℤ w i) → ((i : ℕ) → i < n → Abs (f i) (b * nat_abs (w i))) → Abs (sum n f) (b * nat_abs (sum n w))
unfolding sum
sum_weighted zero b h k = omega arith
sum_weighted (suc n) b h k = record { bound = rw (nat_abs_nonneg (sum_nonneg n (λ i l. h i)) (h n)) (omega (arith, (abs-+ (sum_weighted n b h (λ i l. k i (omega arith))) (k n (omega arith))).bound)) }
