-- Before turn i, s is the sum up to i.
use mathlib.Core.Path.{◌≡◌}
use Rattle.meaning.specs.Extension.{fold, ext}
use Rattle.theory.specs.Period.{up_to}
use Rattle.pass.proofs.window.sum_to.Given as goal

abbrev pub invariant-loop-i : goal.invariant-loop-i
invariant-loop-i l = l.s ≡ up_to (ext fold l.src) l.i
