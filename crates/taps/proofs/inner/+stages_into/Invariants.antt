-- By induction on k: the taps of one stage less stand in the other slice.
use Rattle.taps.proofs.inner.+stages_into.Given as goal

abbrev pub decreases-stages_into : goal.decreases-stages_into
decreases-stages_into l = l.k
