-- Each cell is what the closure makes of its result.
use Rattle.std.proofs.Common.{rules}
use Rattle.cells.specs.Mapped.{mapped}
use Rattle.doubles.proofs.converting.doubles_into.Goals as goal

pub returns : goal.returns
returns c = mapped _ _ _ (λ x y k. search rules) c.map_into.ensures
