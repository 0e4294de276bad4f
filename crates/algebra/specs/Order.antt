-- The order of whole numbers, lib.Signed's _≤ℤ_ and _<ℤ_.
--   zarith              rules by which `omega` reads and proves ≤ℤ, <ℤ and ≡ of whole numbers
--   of+ a b, of- a b    what a sum or a difference is, for omega's list: omega (zarith, of+ a b)
--   of_neg a, of* a b   the same of a negation and of a product, whose parts' products are unknowns
--   nonneg-…            0 ≤ a number of that shape; nonneg_pos: of pos n
--   positive-…          0 < a number of that shape; -l, -r: the summand that is above 0
-- Laws: le_in, le_out, lt_in, lt_out, eq_in, eq_out; ≤ℤ-<ℤ-trans, <ℤ-weaken, ≤ℤ-antisym; +ℤ-mono, *ℤ-mono, *ℤ-cancel_r;
-- nonneg_pos, nonneg-+, nonneg-*; positive_pos, positive-*, positive-+-l, positive-+-r.
use Rattle.std.specs.Prelude.{◌≡◌, refl, ℕ, zero, suc, ◌+◌, ◌*◌, ◌≤◌, ◌<◌, ℤ, pos, negsuc, neg_ℤ, ◌+ℤ◌, ◌-ℤ◌, ◌*ℤ◌, ◌≤ℤ◌, ◌<ℤ◌}
use Rattle.std.proofs.Common.{sym, ◌∙◌, ap₂, mul-le-mul_left, arith, leb→le, le→leb, ltb→lt, lt→ltb}
use Rattle.std.proofs.Math.Nat.{eq_of_mul-eq-mul_right}
use Rattle.algebra.specs.Difference.{plus, minus, rep, ⊖-eq, ⊖-halves, ⊖-+, ⊖-*}

-- ---- to and from the natural numbers
pub le_out : {a b : ℤ} → a ≤ℤ b → plus a + minus b ≤ plus b + minus a
le_out {a = pos a} {b = pos b} h = omega (arith, leb→le)
le_out {a = pos a} {b = negsuc b} h = absurd h.le
le_out {a = negsuc a} {b = pos b} h = omega arith
le_out {a = negsuc a} {b = negsuc b} h = omega (arith, leb→le)

pub le_in : {a b : ℤ} → plus a + minus b ≤ plus b + minus a → a ≤ℤ b
le_in {a = pos a} {b = pos b} h = omega (arith, le→leb)
le_in {a = pos a} {b = negsuc b} h = absurd (omega arith)
le_in {a = negsuc a} {b = pos b} h = record { le = tt }
le_in {a = negsuc a} {b = negsuc b} h = omega (arith, le→leb)

pub lt_out : {a b : ℤ} → a <ℤ b → plus a + minus b < plus b + minus a
lt_out {a = pos a} {b = pos b} h = omega (arith, ltb→lt)
lt_out {a = pos a} {b = negsuc b} h = absurd h.lt
lt_out {a = negsuc a} {b = pos b} h = omega arith
lt_out {a = negsuc a} {b = negsuc b} h = omega (arith, ltb→lt)

pub lt_in : {a b : ℤ} → plus a + minus b < plus b + minus a → a <ℤ b
lt_in {a = pos a} {b = pos b} h = omega (arith, lt→ltb)
lt_in {a = pos a} {b = negsuc b} h = absurd (omega arith)
lt_in {a = negsuc a} {b = pos b} h = record { lt = tt }
lt_in {a = negsuc a} {b = negsuc b} h = omega (arith, lt→ltb)

pub eq_out : {a b : ℤ} → a ≡ b → plus a + minus b ≡ plus b + minus a
eq_out e = rw e

pub eq_in : {a b : ℤ} → plus a + minus b ≡ plus b + minus a → a ≡ b
eq_in {a} {b} h = rep a ∙ ⊖-eq _ _ _ _ h ∙ sym (rep b)

pub ruleset zarith = (arith, le_out, le_in, lt_out, lt_in, eq_out, eq_in)

pub of+ : (a b : ℤ) → plus (a +ℤ b) + (minus a + minus b) ≡ (plus a + plus b) + minus (a +ℤ b)
of+ a b = rw (ap₂ ◌+ℤ◌ (rep a) (rep b) ∙ ⊖-+ _ _ _ _) (⊖-halves _ _)

pub of_neg : (a : ℤ) → (plus (neg_ℤ a) ≡ minus a) × (minus (neg_ℤ a) ≡ plus a)
of_neg (pos zero) = (refl, refl)
of_neg (pos (suc n)) = (refl, refl)
of_neg (negsuc n) = (refl, refl)

pub of- : (a b : ℤ) → plus (a -ℤ b) + (minus a + plus b) ≡ (plus a + minus b) + minus (a -ℤ b)
of- a b = omega (arith, of+ a (neg_ℤ b), of_neg b)

pub of* : (a b : ℤ) → plus (a *ℤ b) + (plus a * minus b + minus a * plus b) ≡ (plus a * plus b + minus a * minus b) + minus (a *ℤ b)
of* a b = rw (ap₂ ◌*ℤ◌ (rep a) (rep b) ∙ ⊖-* _ _ _ _) (⊖-halves _ _)

-- ---- the order
pub ≤ℤ-<ℤ-trans : {a b c : ℤ} → a ≤ℤ b → b <ℤ c → a <ℤ c
≤ℤ-<ℤ-trans h k = omega zarith

pub <ℤ-weaken : {a b : ℤ} → a <ℤ b → a ≤ℤ b
<ℤ-weaken h = omega zarith

pub ≤ℤ-antisym : {a b : ℤ} → a ≤ℤ b → b ≤ℤ a → a ≡ b
≤ℤ-antisym h k = omega zarith

-- ---- monotone
pub +ℤ-mono : {a b c d : ℤ} → a ≤ℤ b → c ≤ℤ d → (a +ℤ c) ≤ℤ (b +ℤ d)
+ℤ-mono {a} {b} {c} {d} h k = omega (zarith, of+ a c, of+ b d)

pub *ℤ-mono : {a b c : ℤ} → pos 0 ≤ℤ c → a ≤ℤ b → (c *ℤ a) ≤ℤ (c *ℤ b)
*ℤ-mono {a} {b} {c = pos n} h k = omega (zarith, of* (pos n) a, of* (pos n) b, mul-le-mul_left n (le_out k))
*ℤ-mono {c = negsuc n} h k = absurd h.le

pub *ℤ-cancel_r : {a b c : ℤ} → pos 0 <ℤ c → a *ℤ c ≡ b *ℤ c → a ≡ b
*ℤ-cancel_r {a} {b} {c = pos n} h e = eq_in (eq_of_mul-eq-mul_right n (omega zarith) _ _ (omega (zarith, of* a (pos n), of* b (pos n))))
*ℤ-cancel_r {c = negsuc n} h e = absurd h.lt

-- ---- not negative
pub nonneg_pos : {n : ℕ} → pos 0 ≤ℤ pos n
nonneg_pos = omega zarith

pub nonneg-+ : {a b : ℤ} → pos 0 ≤ℤ a → pos 0 ≤ℤ b → pos 0 ≤ℤ (a +ℤ b)
nonneg-+ {a} {b} h k = omega (zarith, of+ a b)

pub nonneg-* : {a b : ℤ} → pos 0 ≤ℤ a → pos 0 ≤ℤ b → pos 0 ≤ℤ (a *ℤ b)
nonneg-* {a = pos a} {b = pos b} h k = nonneg_pos
nonneg-* {a = pos a} {b = negsuc b} h k = absurd k.le
nonneg-* {a = negsuc a} {b} h k = absurd h.le

-- ---- positive
pub positive_pos : {n : ℕ} → 0 < n → pos 0 <ℤ pos n
positive_pos h = omega zarith

pub positive-* : {a b : ℤ} → pos 0 <ℤ a → pos 0 <ℤ b → pos 0 <ℤ (a *ℤ b)
positive-* {a = pos zero} {b} h k = absurd h.lt
positive-* {a = pos (suc a)} {b = pos zero} h k = absurd k.lt
positive-* {a = pos (suc a)} {b = pos (suc b)} h k = positive_pos (omega arith)
positive-* {a = pos (suc a)} {b = negsuc b} h k = absurd k.lt
positive-* {a = negsuc a} {b} h k = absurd h.lt

pub positive-+-l : {a b : ℤ} → pos 0 <ℤ a → pos 0 ≤ℤ b → pos 0 <ℤ (a +ℤ b)
positive-+-l {a} {b} h k = omega (zarith, of+ a b)

pub positive-+-r : {a b : ℤ} → pos 0 ≤ℤ a → pos 0 <ℤ b → pos 0 <ℤ (a +ℤ b)
positive-+-r {a} {b} h k = omega (zarith, of+ a b)
