-- Below the period's end a place stands at itself; the end is the start.
use native.Mathlib.Omega.{arith}
use Rattle.theory.specs.Walk.{stands_here, stands_periods}
use Rattle.extension.proofs.inner.next.Goals as goal

pub returns-then-on-len : goal.returns-then-on-len
returns-then-on-len c = stands_periods 1 (omega arith) (omega arith)

pub returns-else-on-len : goal.returns-else-on-len
returns-else-on-len c = stands_here (omega arith)
