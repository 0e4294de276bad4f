-- Expressions over whole numbers, as the ring solver reads them.
--   Expr        var i, the variable numbered i; con z, the number z; e ⊕ f, e ⊝ f, e ⊗ f, neg e
--   value ρ e   what e is where variable i is element i of ρ; a variable past the end of ρ is 0
-- Laws: in Solver.
use Rattle.std.specs.Prelude.{List, ℕ, get_or, ℤ, pos, neg_ℤ, ◌+ℤ◌, ◌-ℤ◌, ◌*ℤ◌}

infixl 6 ◌⊕◌ ◌⊝◌
infixl 7 ◌⊗◌
pub data Expr : Type 0 where
  var : ℕ → Expr
  con : ℤ → Expr
  ◌⊕◌ : Expr → Expr → Expr
  ◌⊝◌ : Expr → Expr → Expr
  ◌⊗◌ : Expr → Expr → Expr
  neg : Expr → Expr

abbrev pub value : List ℤ → Expr → ℤ
value ρ (var i) = get_or ρ i (pos 0)
value ρ (con z) = z
value ρ (e ⊕ f) = value ρ e +ℤ value ρ f
value ρ (e ⊝ f) = value ρ e -ℤ value ρ f
value ρ (e ⊗ f) = value ρ e *ℤ value ρ f
value ρ (neg e) = neg_ℤ (value ρ e)
