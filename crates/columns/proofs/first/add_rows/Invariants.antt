-- Before turn k, the first k rows are added.
use mathlib.Core.Path.{◌≡◌}
use Rattle.meaning.specs.Smoothing.{list_of}
use Rattle.columns.specs.Ready.{rows_added}
use Rattle.columns.proofs.first.add_rows.Given as goal

abbrev pub invariant-loop-k : goal.invariant-loop-k
invariant-loop-k l = l.row ≡ list_of l.sides.width (rows_added l.weight l.sides.width l.sides.height l.k l.src l.initial.row)
