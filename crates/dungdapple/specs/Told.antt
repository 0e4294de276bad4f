-- What a host is told besides.
--   Points o a x      the answer a and the value x of a point are those of the outcome o
--   Carries o a x left   the answer a, the last carry as the double x, and the cells left, are those of the outcome o
use Rattle.std.specs.Prelude.{◌≡◌, List, ℤ, pos, Float}
use Rattle.std.specs.Float.{binary64}
use Rattle.std.specs.Float.Ieee.{of_int}
use Rattle.meaning.specs.Refusals.{Answer}
use Rattle.meaning.specs.Calls.{Pointed}
use Rattle.meaning.specs.Carry.{Carried}

pub record Points (o : Pointed) (a : Answer) (x : Float) : Type 0 where
  pub answer : a ≡ o.answer
  pub value : x ≡ o.value

pub record Carries (o : Carried) (a : Answer) (x : Float) (left : List ℤ) : Type 0 where
  pub answer : a ≡ o.answer
  pub carry : x ≡ of_int binary64 (pos o.carry)
  pub cells : left ≡ o.cells
