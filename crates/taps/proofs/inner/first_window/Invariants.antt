-- At radius j, s is the window; on either side stands the tap at j + 1.
use mathlib.Core.Path.{◌≡◌}
use lib.IntN.{pos}
use Rattle.theory.specs.Slide.{window}
use Rattle.taps.specs.Taps.{mirrored}
use Rattle.taps.proofs.inner.first_window.Given as goal

abbrev pub invariant-loop-j : goal.invariant-loop-j
invariant-loop-j l = l.s ≡ window (mirrored l.taps) l.j (pos 0)
