-- What a host is told.
--   said n p b   the answer of number n, position p and b bad samples
use Rattle.std.specs.Prelude.{ℕ}
use Rattle.meaning.specs.Refusals.{Answer}

abbrev pub said : ℕ → ℕ → ℕ → Answer
said n p b = record { number = n; position = p; bad = b }
