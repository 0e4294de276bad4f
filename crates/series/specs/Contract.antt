-- What a smoothing call promises.
--   Gives o a r w   the answer a, and the results r and work w that the call leaves, are those of the outcome o
use Rattle.std.specs.Prelude.{◌≡◌, List, ℤ}
use Rattle.meaning.specs.Refusals.{Answer}
use Rattle.meaning.specs.Calls.{Smoothed}

pub record Gives (o : Smoothed) (a : Answer) (r w : List ℤ) : Type 0 where
  pub answer : a ≡ o.answer
  pub results : r ≡ o.results
  pub work : w ≡ o.work
