-- What an edit promises.
--   GivesAlone o a k f r   the answer a, the count k, and the samples f and results r that an edit leaves, are those of the outcome o
--   Gives o a k f r w      and the work w
use Rattle.std.specs.Prelude.{ℕ, ◌≡◌, List, ℤ}
use Rattle.meaning.specs.Refusals.{Answer}
use Rattle.meaning.specs.Calls.{Edited}

pub record GivesAlone (o : Edited) (a : Answer) (k : ℕ) (f r : List ℤ) : Type 0 where
  pub answer : a ≡ o.answer
  pub count : k ≡ o.count
  pub samples : f ≡ o.samples
  pub results : r ≡ o.results

pub record Gives (o : Edited) (a : Answer) (k : ℕ) (f r w : List ℤ) : Type 0 where
  pub answer : a ≡ o.answer
  pub count : k ≡ o.count
  pub samples : f ≡ o.samples
  pub results : r ≡ o.results
  pub work : w ≡ o.work
