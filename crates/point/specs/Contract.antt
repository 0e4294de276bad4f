-- What a point promises.
--   Tells o q     the end q is that of the outcome o: its answer, and its value, plus zero where it is refused
--   Gives o q w   and the work w that the call leaves is too
use Rattle.std.specs.Prelude.{◌≡◌, List, ℤ, Float, Result}
use Rattle.meaning.specs.Values.{plus_zero}
use Rattle.meaning.specs.Calls.{Pointed}
use Rattle.plan.specs.declared.Refusal.{Refusal}
use Rattle.plan.specs.Structs.{answer_of, value_or}

pub record Tells (o : Pointed) (q : Result Float Refusal) : Type 0 where
  pub answer : answer_of q ≡ o.answer
  pub value : value_or plus_zero q ≡ o.value

pub record Gives (o : Pointed) (q : Result Float Refusal) (w : List ℤ) : Type 0 where
  pub answer : answer_of q ≡ o.answer
  pub value : value_or plus_zero q ≡ o.value
  pub work : w ≡ o.work
