-- Each cell is what the call makes of its own.
use Rattle.std.proofs.Common.{rules}
use Rattle.cells.specs.Mapped.{mapped}
use Rattle.samples.proofs.taking.take_into.Goals as goal

pub returns : goal.returns
returns c = mapped _ _ _ (λ x y k. search rules) c.map_into.ensures
