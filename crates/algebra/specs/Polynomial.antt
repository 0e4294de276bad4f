-- The normal form of an expression: a sum of terms in rising order, no coefficient 0.
--   Mono             a product of variables: their numbers in rising order; [] is 1
--   insert i m       m with one more factor i
--   times m n        the product of two
--   Place, rank m n  whether m stands before n, is the same, or stands after it
--   Poly             `none` is 0, `term c m p` is c m + p
--   add_term c m p    c m + p, in order
--   mul_term c m p    c m times p
--   add, mul, negate
--   normal e         the normal form of e
-- Names in If, By and Unless0 are the same step with its test's outcome known.
-- Laws: in Solver, that a normal form has its expression's value.
use Rattle.std.specs.Prelude.{Bool, true, false, List, [], ◌∷◌, ℕ, zero, suc, leb, ltb, eqb, ℤ, pos, negsuc, neg_ℤ, ◌+ℤ◌, ◌*ℤ◌}
use Rattle.algebra.specs.Expression.{Expr, var, con, ◌⊕◌, ◌⊝◌, ◌⊗◌, neg}

-- ---- monomials
abbrev pub Mono : Type 0
Mono = List ℕ

abbrev pub insert_if : Bool → ℕ → ℕ → Mono → Mono → Mono
insert_if true i j m rest = i ∷ j ∷ m
insert_if false i j m rest = j ∷ rest

abbrev pub insert : ℕ → Mono → Mono
insert i [] = i ∷ []
insert i (j ∷ m) = insert_if (leb i j) i j m (insert i m)

abbrev pub times : Mono → Mono → Mono
times [] n = n
times (i ∷ m) n = insert i (times m n)

pub data Place : Type 0 where
  before same after : Place

-- whether the first numbers are below, whether they are equal, and what the others say
abbrev pub rank_by : Bool → Bool → Place → Place
rank_by true e r = before
rank_by false true r = r
rank_by false false r = after

abbrev pub rank : Mono → Mono → Place
rank [] [] = same
rank [] (j ∷ n) = before
rank (i ∷ m) [] = after
rank (i ∷ m) (j ∷ n) = rank_by (ltb i j) (eqb i j) (rank m n)

-- ---- polynomials
pub data Poly : Type 0 where
  none : Poly
  term : ℤ → Mono → Poly → Poly

abbrev pub term_unless0 : ℤ → Mono → Poly → Poly
term_unless0 (pos zero) m p = p
term_unless0 (pos (suc n)) m p = term (pos (suc n)) m p
term_unless0 (negsuc n) m p = term (negsuc n) m p

abbrev pub add_term_by : Place → ℤ → Mono → ℤ → Mono → Poly → Poly → Poly
add_term_by before c m d n p rest = term c m (term d n p)
add_term_by same c m d n p rest = term_unless0 (c +ℤ d) n p
add_term_by after c m d n p rest = term d n rest

abbrev pub add_term : ℤ → Mono → Poly → Poly
add_term c m none = term c m none
add_term c m (term d n p) = add_term_by (rank m n) c m d n p (add_term c m p)

abbrev pub add : Poly → Poly → Poly
add none q = q
add (term c m p) q = add_term c m (add p q)

abbrev pub mul_term : ℤ → Mono → Poly → Poly
mul_term c m none = none
mul_term c m (term d n p) = add_term (c *ℤ d) (times m n) (mul_term c m p)

abbrev pub mul : Poly → Poly → Poly
mul none q = none
mul (term c m p) q = add (mul_term c m q) (mul p q)

abbrev pub negate : Poly → Poly
negate none = none
negate (term c m p) = term (neg_ℤ c) m (negate p)

abbrev pub normal : Expr → Poly
normal (var i) = term (pos 1) (i ∷ []) none
normal (con z) = term_unless0 z [] none
normal (e ⊕ f) = add (normal e) (normal f)
normal (e ⊝ f) = add (normal e) (negate (normal f))
normal (e ⊗ f) = mul (normal e) (normal f)
normal (neg e) = negate (normal e)
