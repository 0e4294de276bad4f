-- By induction on k: the pass before stands in the other slice.
use Rattle.series.proofs.inner.+smooth_into.Given as goal

abbrev pub decreases-smooth_into : goal.decreases-smooth_into
decreases-smooth_into l = l.k
