-- Before turn x the first x cells are added to, the others as they were.
use lib.ListN.{length}
use Rattle.meaning.specs.Smoothing.{list_of}
use Rattle.theory.specs.Fill.{Filled}
use Rattle.columns.specs.Ready.{added}
use Rattle.columns.proofs.first.add_row.Given as goal

abbrev pub invariant-loop-x : goal.invariant-loop-x
invariant-loop-x l = Filled (list_of (length l.initial.row) (added l.weight l.src l.start l.initial.row)) l.initial.row l.row l.x
