-- What a call promises.
--   Gives o a k left   the answer a, the last carry k, and the cells left by the call, are those of the outcome o
use Rattle.std.specs.Prelude.{ℕ, ◌≡◌, List, ℤ}
use Rattle.meaning.specs.Refusals.{Answer}
use Rattle.meaning.specs.Carry.{Carried}

pub record Gives (o : Carried) (a : Answer) (k : ℕ) (left : List ℤ) : Type 0 where
  pub answer : a ≡ o.answer
  pub carry : k ≡ o.carry
  pub cells : left ≡ o.cells
