-- Before turn i the first i cells hold their samples.
use mathlib.Core.Path.{◌≡◌}
use lib.ListN.{length, take}
use Rattle.meaning.specs.Smoothing.{list_of}
use Rattle.meaning.specs.Record.{sample_at}
use Rattle.record.proofs.inner.load.Given as goal

abbrev pub invariant-loop-i : goal.invariant-loop-i
invariant-loop-i l = take l.i l.samples ≡ take l.i (list_of (length l.initial.samples) (sample_at l.stretch))
