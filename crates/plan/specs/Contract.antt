-- What a conversion promises.
--   Gives o a left   the answer a, and the cells left by the call, are those of the outcome o
use Rattle.std.specs.Prelude.{◌≡◌, List}
use Rattle.meaning.specs.Refusals.{Answer}
use Rattle.meaning.specs.Values.{Converted}

pub record Gives {A : Type 0} (o : Converted A) (a : Answer) (left : List A) : Type 0 where
  pub answer : a ≡ o.answer
  pub cells : left ≡ o.cells
