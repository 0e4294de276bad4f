-- Whole numbers as differences of natural numbers: the bridge from ℤ to `omega`.
--   a ⊖ b        a − b, shut: only the laws below see through it
--   plus z       z where it is above 0, else 0
--   minus z      −z where it is below 0, else 0
--   diff         rules for simp: sums, products and negations of differences become one difference
--   linear       rules for omega: what `diff` leaves, an equation of two differences
-- An identity without cases: rw (rep a, rep b) (simp diff (omega linear)). Where constructors have met and computed, as in
-- negsuc a -ℤ negsuc b, `diff` sees nothing: state the identity over variables, or use Order's of- and zarith.
-- Laws: +ℤ-left-comm; ⊖-is, ⊖-neg, ⊖-negsuc, ⊖-eq, ⊖-halves, ⊖-+, ⊖-*; rep, rep_pos, rep_negsuc, rep_neg; sub_pos.
use Rattle.std.specs.Prelude.{◌≡◌, refl, ℕ, zero, suc, ◌+◌, ◌*◌, ◌-◌, ◌≤◌, ℤ, pos, negsuc, neg_ℤ, ◌+ℤ◌, ◌-ℤ◌, ◌*ℤ◌}
use Rattle.std.proofs.Common.{sym, ◌∙◌, ap, add_comm, arith}
use Rattle.std.proofs.Math.IntN.{neg_ℤ-neg_ℤ, neg_ℤ-+ℤ, +ℤ-neg_ℤ_cancel, +ℤ_comm, +ℤ_assoc}

infixl 6 ◌⊖◌
pub ◌⊖◌ : ℕ → ℕ → ℤ
a ⊖ b = pos a -ℤ pos b

abbrev pub plus : ℤ → ℕ
plus (pos n) = n
plus (negsuc n) = 0

abbrev pub minus : ℤ → ℕ
minus (pos n) = 0
minus (negsuc n) = suc n

data Compared (a b : ℕ) : Type 0 where
  ge : (k : ℕ) → a ≡ b + k → Compared a b
  lt : (k : ℕ) → b ≡ a + suc k → Compared a b

compare : (a b : ℕ) → Compared a b
compare a zero = ge a (omega arith)
compare zero (suc b) = lt b (omega arith)
compare (suc a) (suc b) = step (compare a b)
  where
    step : Compared a b → Compared (suc a) (suc b)
    step (ge k e) = ge k (omega arith)
    step (lt k e) = lt k (omega arith)

-- ---- a difference and its sign
pub ⊖-is : (a b : ℕ) → pos a -ℤ pos b ≡ a ⊖ b
unfolding ◌⊖◌
⊖-is a b = refl

pub ⊖-neg : (a b : ℕ) → neg_ℤ (a ⊖ b) ≡ b ⊖ a
unfolding ◌⊖◌
⊖-neg a b = neg_ℤ-+ℤ (pos a) (neg_ℤ (pos b)) ∙ ap (λ z. neg_ℤ (pos a) +ℤ z) (neg_ℤ-neg_ℤ (pos b)) ∙ +ℤ_comm (neg_ℤ (pos a)) (pos b)

⊖-pos : (a b k : ℕ) → a ≡ b + k → a ⊖ b ≡ pos k
unfolding ◌⊖◌
⊖-pos a b k e = ap (λ (n : ℕ). pos n -ℤ pos b) (e ∙ add_comm b k) ∙ +ℤ-neg_ℤ_cancel (pos k) (pos b)

⊖-negpos : (a b k : ℕ) → b ≡ a + k → a ⊖ b ≡ neg_ℤ (pos k)
⊖-negpos a b k e = sym (⊖-neg b a) ∙ ap neg_ℤ (⊖-pos b a k e)

pub ⊖-negsuc : (a b k : ℕ) → b ≡ a + suc k → a ⊖ b ≡ negsuc k
⊖-negsuc a b k e = ⊖-negpos a b (suc k) e

pub ⊖-eq : (a b c d : ℕ) → a + d ≡ c + b → a ⊖ b ≡ c ⊖ d
⊖-eq a b c d h = go (compare c d)
  where
    go : Compared c d → a ⊖ b ≡ c ⊖ d
    go (ge k e) = ⊖-pos a b k (omega arith) ∙ sym (⊖-pos c d k e)
    go (lt k e) = ⊖-negsuc a b k (omega arith) ∙ sym (⊖-negsuc c d k e)

pub ⊖-halves : (a b : ℕ) → plus (a ⊖ b) + b ≡ a + minus (a ⊖ b)
⊖-halves a b = go (compare a b)
  where
    go : Compared a b → plus (a ⊖ b) + b ≡ a + minus (a ⊖ b)
    go (ge k e) = rw (⊖-pos a b k e) (omega arith)
    go (lt k e) = rw (⊖-negsuc a b k e) (omega arith)

-- ---- sums and products of differences
pub +ℤ-left-comm : (a b c : ℤ) → a +ℤ (b +ℤ c) ≡ b +ℤ (a +ℤ c)
+ℤ-left-comm a b c = sym (+ℤ_assoc a b c) ∙ ap (λ z. z +ℤ c) (+ℤ_comm a b) ∙ +ℤ_assoc b a c

pub ⊖-+ : (a b c d : ℕ) → (a ⊖ b) +ℤ (c ⊖ d) ≡ (a + c) ⊖ (b + d)
unfolding ◌⊖◌
⊖-+ a b c d = regroup (pos a) (pos c) (pos b) (pos d)
  where
    regroup : (w x y z : ℤ) → (w -ℤ y) +ℤ (x -ℤ z) ≡ (w +ℤ x) -ℤ (y +ℤ z)
    regroup w x y z = simp (+ℤ_assoc, neg_ℤ-+ℤ, +ℤ-left-comm)

pub ⊖-* : (a b c d : ℕ) → (a ⊖ b) *ℤ (c ⊖ d) ≡ (a * c + b * d) ⊖ (a * d + b * c)
⊖-* a b c d = go (compare a b) (compare c d)
  where
    go : Compared a b → Compared c d → (a ⊖ b) *ℤ (c ⊖ d) ≡ (a * c + b * d) ⊖ (a * d + b * c)
    go (ge k e) (ge l f) = rw (⊖-pos a b k e, ⊖-pos c d l f) (sym (⊖-pos _ _ (k * l) (rw (e, f) (omega arith))))
    go (ge k e) (lt l f) = rw (⊖-pos a b k e, ⊖-negsuc c d l f) (sym (⊖-negpos _ _ (k * suc l) (rw (e, f) (omega arith))))
    go (lt k e) (ge l f) = rw (⊖-negsuc a b k e, ⊖-pos c d l f) (sym (⊖-negpos _ _ (suc k * l) (rw (e, f) (omega arith))))
    go (lt k e) (lt l f) = rw (⊖-negsuc a b k e, ⊖-negsuc c d l f) (sym (⊖-pos _ _ (suc k * suc l) (rw (e, f) (omega arith))))

-- ---- every whole number is a difference
pub rep_pos : (n : ℕ) → pos n ≡ n ⊖ 0
rep_pos n = sym (⊖-pos n 0 n (omega arith))

pub rep_negsuc : (n : ℕ) → negsuc n ≡ 0 ⊖ suc n
rep_negsuc n = sym (⊖-negsuc 0 (suc n) n (omega arith))

pub rep_neg : (n : ℕ) → neg_ℤ (pos n) ≡ 0 ⊖ n
rep_neg n = ap neg_ℤ (rep_pos n) ∙ ⊖-neg n 0

pub rep : (z : ℤ) → z ≡ plus z ⊖ minus z
rep (pos n) = rep_pos n
rep (negsuc n) = rep_negsuc n

pub ruleset linear = (arith, ⊖-eq)

pub ruleset diff = (⊖-+, ⊖-*, ⊖-neg, rep_pos, rep_negsuc, rep_neg)

-- ---- the difference of two naturals
pub sub_pos : (a b : ℕ) → b ≤ a → pos a -ℤ pos b ≡ pos (a - b)
sub_pos a b h = ⊖-is a b ∙ ⊖-pos a b (a - b) (omega arith)
