-- The code's carry, as the definitions have it.
--   carry_of r   what the last cell leaves, 0 where the call is refused
use Rattle.std.specs.Prelude.{ℕ, Result}
use Rattle.plan.specs.declared.Refusal.{Refusal}
use Rattle.plan.specs.Structs.{value_or}

abbrev pub carry_of : Result ℕ Refusal → ℕ
carry_of = value_or 0
