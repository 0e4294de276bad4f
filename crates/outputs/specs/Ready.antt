-- What the steps of an output ask, and what its test leaves.
--   PutOut z d         a result z that may be put out over the divisor d
--   Passed s r n q d   of the results r of the shape s, over n cells: they are q, and their divisor is d
-- Laws: quotient_bounds.
use Rattle.std.specs.Prelude.{ℕ, ◌*◌, ◌≤◌, ◌≡◌, List, length, ℤ, nat_abs}
use Rattle.meaning.specs.Limits.{least, max_bound, max_result}
use Rattle.meaning.specs.Refusals.{Shape}

pub record PutOut (z : ℤ) (d : ℕ) : Type 0 where
  pub divisor : (least ≤ d) × (d ≤ max_result)
  pub size : nat_abs z ≤ max_bound * d
  pub small : nat_abs z ≤ max_result

pub quotient_bounds : {z : ℤ} {d : ℕ} → PutOut z d → (nat_abs z ≤ max_result) × ((least ≤ d) × (d ≤ max_result))
quotient_bounds q = (q.small, q.divisor)

pub record Passed (s : Shape) (r : List ℤ) (n : ℕ) (q : List ℤ) (d : ℕ) : Type 0 where
  pub results : q ≡ r
  pub divides : d ≡ s.divisor
  pub some : least ≤ length q
  pub cells : n ≡ length q
