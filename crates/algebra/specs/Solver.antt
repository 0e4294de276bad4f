-- The ring solver: an identity of whole numbers, by computing the two normal forms.
--   e ≗ f          the equation of two expressions, a record Equation
--   EquationIn n   an equation in n variables, each under its own name
--   from n k q     that equation, of the variables numbered k, k + 1, ..
--   Every n P      P of every n numbers, given one after another
--   Solved n       where both sides of an equation in n variables have one normal form, it holds of every n numbers
--   ring n         what makes it so, for any number of variables
-- In use: ring 3 (λ a b c. a ⊗ (b ⊕ c) ≗ a ⊗ b ⊕ a ⊗ c) refl x y z.
-- Keep an identity a lemma over plain variables, and apply it: a number left as `_` is not inferred.
use Rattle.std.specs.Prelude.{◌≡◌, Bool, ℕ, zero, suc, T, leb, ltb, eqb, ℤ, pos, negsuc}
use Rattle.std.proofs.Math.Path.{refl, sym, ap, ap₂}
use Rattle.std.proofs.Common.{◌∙◌, arith, eqb→eq}
use Rattle.std.proofs.Math.Bool.{true, false}
use mathlib.Core.List.{List, [], ◌∷◌}
use Rattle.std.proofs.Math.ListN.{get_or}
use Rattle.std.proofs.Math.IntN.{neg_ℤ, ◌+ℤ◌, ◌*ℤ◌, +ℤ_idr, +ℤ_idl, +ℤ_assoc, *ℤ-zero, zero-*ℤ, neg_ℤ-+ℤ}
use Rattle.algebra.specs.Difference.{+ℤ-left-comm}
use Rattle.algebra.specs.Ring.{*ℤ-assoc, *ℤ-left_comm, *ℤ-idl, *ℤ-idr, *ℤ-+ℤ, +ℤ-*ℤ, negℤ-*ℤ}
use Rattle.algebra.specs.Expression.{Expr, var, con, ◌⊕◌, ◌⊝◌, ◌⊗◌, neg, value}
use Rattle.algebra.specs.Polynomial.{Mono, insert_if, insert, times, Place, before, same, after, rank_by, rank, Poly, none, term, term_unless0, add_term_by, add_term, add, mul_term, mul, negate, normal}

rank_same : (m n : Mono) → rank m n ≡ same → m ≡ n
rank_same [] [] e = refl
rank_same [] (j ∷ n) e = let z : ◌≡◌ {A = ℕ} 0 1 = cc in absurd (omega arith)
rank_same (i ∷ m) [] e = let z : ◌≡◌ {A = ℕ} 0 1 = cc in absurd (omega arith)
rank_same (i ∷ m) (j ∷ n) e = go (ltb i j) (eqb i j) (eqb→eq i j) (rank_same m n) e
  where
    go : (l b : Bool) → (T b → i ≡ j) → (rank m n ≡ same → m ≡ n) → rank_by l b (rank m n) ≡ same → ◌≡◌ {A = Mono} (i ∷ m) (j ∷ n)
    go true b f g s = let z : ◌≡◌ {A = ℕ} 0 1 = cc in absurd (omega arith)
    go false true f g s = ap₂ ◌∷◌ (f tt) (g s)
    go false false f g s = let z : ◌≡◌ {A = ℕ} 0 1 = cc in absurd (omega arith)

-- ---- what a normal form means, and that it means what its expression does
module _ (ρ : List ℤ) where
  value_m : Mono → ℤ
  value_m [] = pos 1
  value_m (i ∷ m) = get_or ρ i (pos 0) *ℤ value_m m

  value_p : Poly → ℤ
  value_p none = pos 0
  value_p (term c m p) = c *ℤ value_m m +ℤ value_p p

  insert_is : (i : ℕ) (m : Mono) → value_m (insert i m) ≡ get_or ρ i (pos 0) *ℤ value_m m
  unfolding value_m
  insert_is i [] = refl
  insert_is i (j ∷ m) = go (leb i j) (insert_is i m)
    where
      go : (b : Bool) → value_m (insert i m) ≡ get_or ρ i (pos 0) *ℤ value_m m → value_m (insert_if b i j m (insert i m)) ≡ get_or ρ i (pos 0) *ℤ (get_or ρ j (pos 0) *ℤ value_m m)
      go true h = refl
      go false h = rw h (*ℤ-left_comm (get_or ρ j (pos 0)) (get_or ρ i (pos 0)) (value_m m))

  times_is : (m n : Mono) → value_m (times m n) ≡ value_m m *ℤ value_m n
  unfolding value_m
  times_is [] n = sym (*ℤ-idl (value_m n))
  times_is (i ∷ m) n = insert_is i (times m n) ∙ ap (λ z. get_or ρ i (pos 0) *ℤ z) (times_is m n) ∙ sym (*ℤ-assoc (get_or ρ i (pos 0)) (value_m m) (value_m n))

  unless0_is : (c : ℤ) (m : Mono) (p : Poly) → value_p (term_unless0 c m p) ≡ c *ℤ value_m m +ℤ value_p p
  unfolding value_p
  unless0_is (pos zero) m p = rw (zero-*ℤ (value_m m)) (sym (+ℤ_idl (value_p p)))
  unless0_is (pos (suc n)) m p = refl
  unless0_is (negsuc n) m p = refl

  add_term_is : (c : ℤ) (m : Mono) (p : Poly) → value_p (add_term c m p) ≡ c *ℤ value_m m +ℤ value_p p
  unfolding value_p
  add_term_is c m none = refl
  add_term_is c m (term d n p) = go (rank m n) (rank_same m n) (add_term_is c m p)
    where
      go : (r : Place) → (r ≡ same → m ≡ n) → value_p (add_term c m p) ≡ c *ℤ value_m m +ℤ value_p p → value_p (add_term_by r c m d n p (add_term c m p)) ≡ c *ℤ value_m m +ℤ (d *ℤ value_m n +ℤ value_p p)
      go before f h = refl
      go same f h = rw (f refl, unless0_is (c +ℤ d) n p, +ℤ-*ℤ c d (value_m n)) (+ℤ_assoc (c *ℤ value_m n) (d *ℤ value_m n) (value_p p))
      go after f h = rw h (+ℤ-left-comm (d *ℤ value_m n) (c *ℤ value_m m) (value_p p))

  add_is : (p q : Poly) → value_p (add p q) ≡ value_p p +ℤ value_p q
  unfolding value_p
  add_is none q = sym (+ℤ_idl (value_p q))
  add_is (term c m p) q = add_term_is c m (add p q) ∙ ap (λ z. c *ℤ value_m m +ℤ z) (add_is p q) ∙ sym (+ℤ_assoc (c *ℤ value_m m) (value_p p) (value_p q))

  mul_term_is : (c : ℤ) (m : Mono) (p : Poly) → value_p (mul_term c m p) ≡ (c *ℤ value_m m) *ℤ value_p p
  unfolding value_p
  mul_term_is c m none = sym (*ℤ-zero (c *ℤ value_m m))
  mul_term_is c m (term d n p) = rw (add_term_is (c *ℤ d) (times m n) (mul_term c m p), times_is m n, mul_term_is c m p) (regroup c d (value_m m) (value_m n) (value_p p))
    where
      regroup : (c d x y z : ℤ) → (c *ℤ d) *ℤ (x *ℤ y) +ℤ (c *ℤ x) *ℤ z ≡ (c *ℤ x) *ℤ (d *ℤ y +ℤ z)
      regroup c d x y z = simp (*ℤ-+ℤ, *ℤ-assoc, *ℤ-left_comm)

  mul_is : (p q : Poly) → value_p (mul p q) ≡ value_p p *ℤ value_p q
  unfolding value_p
  mul_is none q = sym (zero-*ℤ (value_p q))
  mul_is (term c m p) q = rw (add_is (mul_term c m q) (mul p q), mul_term_is c m q, mul_is p q) (sym (+ℤ-*ℤ (c *ℤ value_m m) (value_p p) (value_p q)))

  negate_is : (p : Poly) → value_p (negate p) ≡ neg_ℤ (value_p p)
  unfolding value_p
  negate_is none = refl
  negate_is (term c m p) = rw (negate_is p, negℤ-*ℤ c (value_m m)) (sym (neg_ℤ-+ℤ (c *ℤ value_m m) (value_p p)))

  normal_is : (e : Expr) → value_p (normal e) ≡ value ρ e
  unfolding value_p value_m
  normal_is (var i) = rw (*ℤ-idr (get_or ρ i (pos 0)), *ℤ-idl (get_or ρ i (pos 0))) (+ℤ_idr (get_or ρ i (pos 0)))
  normal_is (con z) = unless0_is z [] none ∙ rw (*ℤ-idr z) (+ℤ_idr z)
  normal_is (e ⊕ f) = add_is (normal e) (normal f) ∙ ap₂ ◌+ℤ◌ (normal_is e) (normal_is f)
  normal_is (e ⊝ f) = add_is (normal e) (negate (normal f)) ∙ ap₂ ◌+ℤ◌ (normal_is e) (negate_is (normal f) ∙ ap neg_ℤ (normal_is f))
  normal_is (e ⊗ f) = mul_is (normal e) (normal f) ∙ ap₂ ◌*ℤ◌ (normal_is e) (normal_is f)
  normal_is (neg e) = negate_is (normal e) ∙ ap neg_ℤ (normal_is e)

  sound : (e f : Expr) → normal e ≡ normal f → value ρ e ≡ value ρ f
  sound e f h = sym (normal_is e) ∙ ap value_p h ∙ normal_is f

-- ---- with the variables' own names
infix 4 ◌≗◌
pub record Equation : Type 0 where
  pub lhs : Expr
  pub rhs : Expr

abbrev pub ◌≗◌ : Expr → Expr → Equation
e ≗ f = record { lhs = e; rhs = f }

abbrev pub EquationIn : ℕ → Type 0
EquationIn zero = Equation
EquationIn (suc n) = Expr → EquationIn n

abbrev pub from : (n k : ℕ) → EquationIn n → Equation
from zero k q = q
from (suc n) k q = from n (suc k) (q (var k))

abbrev pub Every : (n : ℕ) → (List ℤ → Type 0) → Type 0
Every zero P = P []
Every (suc n) P = (x : ℤ) → Every n (λ ρ. P (x ∷ ρ))

for_all : (n : ℕ) (P : List ℤ → Type 0) → ((ρ : List ℤ) → P ρ) → Every n P
for_all zero P f = f []
for_all (suc n) P f = λ x. for_all n (λ ρ. P (x ∷ ρ)) (λ ρ. f (x ∷ ρ))

abbrev pub Solved : ℕ → Type 0
Solved n = (q : EquationIn n) → normal (from n 0 q).lhs ≡ normal (from n 0 q).rhs → Every n (λ ρ. value ρ (from n 0 q).lhs ≡ value ρ (from n 0 q).rhs)

pub ring : (n : ℕ) → Solved n
ring n q h = for_all n _ (λ ρ. sound ρ (from n 0 q).lhs (from n 0 q).rhs h)
