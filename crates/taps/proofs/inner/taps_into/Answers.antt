-- As many taps as the plan reaches, or more, hold its kernel.
use Rattle.taps.specs.Taps.{taps_of_held}
use Rattle.taps.proofs.inner.taps_into.Goals as goal

pub returns : goal.returns
returns c = taps_of_held c.requires.enough c.stages_into.ensures
