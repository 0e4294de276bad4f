-- The taps of a plan, as they are lent to a call.
--   Whole ss xs   xs holds the kernel of ss from the centre outward, and no more cells
use Rattle.std.specs.Prelude.{◌+◌, ◌≡◌, List, length, ℤ}
use Rattle.meaning.specs.Kernel.{Stage, reach}
use Rattle.taps.specs.Taps.{Held}

pub record Whole (ss : List Stage) (xs : List ℤ) : Type 0 where
  pub held : Held ss xs
  pub count : length xs ≡ reach ss + 1
