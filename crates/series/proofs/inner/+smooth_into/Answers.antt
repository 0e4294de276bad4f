-- By induction on k: the pass before stands in the other slice.
use Rattle.std.proofs.Common.{suc, ◌-◌, ◌≡◌, ap, ◌∙◌, arith}
use Rattle.series.specs.Ready.{after}
use Rattle.series.specs.Steps.{passable, after_none, after_next}
use Rattle.series.proofs.inner.+smooth_into.Goals as goal

pub load-requires : goal.load-requires
load-requires t c = c.requires.1.allowed.results

pub returns-then-k-eq0 : goal.returns-then-k-eq0
returns-then-k-eq0 t c = rw c.if-k-eq0.true (after_none c.args.plan _ c.load.ensures)

pub pass-requires : goal.pass-requires
pass-requires t c = passable c.requires.1 {k = c.args.k - 1} (omega arith) c.smooth_into.ensures (omega arith)

pub returns : goal.returns
returns t c =
    let a = c.args in
    let one : suc (a.k - 1) ≡ a.k = omega arith in
    after_next a.plan a.samples.now (a.k - 1) c.smooth_into.ensures c.pass.ensures ∙ ap (λ k. after k a.plan a.samples.now) one
