-- Both numbers are below 2^53, so a double holds either.
use mir.Facts.{to_z-of_z}
use Rattle.meaning.specs.Values as meant
use Rattle.doubles.proofs.inner.ratio.Goals as goal

pub returns : goal.returns
unfolding meant.ratio
returns c = rw (to_z-of_z c.ranges.res)
