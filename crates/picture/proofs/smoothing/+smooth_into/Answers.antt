-- By induction on k: the pass before stands in the other slice.
use Rattle.std.proofs.Common.{suc, ◌-◌, ◌≡◌, ap, ◌∙◌, arith}
use Rattle.picture.specs.Ready.{after}
use Rattle.picture.specs.Steps.{rows_ready, passable, after_none, after_next}
use Rattle.picture.proofs.smoothing.+smooth_into.Goals as goal

pub smooth_rows-requires : goal.smooth_rows-requires
smooth_rows-requires t c = rows_ready c.requires.1

pub returns-then-k-eq0 : goal.returns-then-k-eq0
returns-then-k-eq0 t c =
    let a = c.args in
    rw c.if-k-eq0.true (after_none a.across a.down a.sides.width a.sides.height _ c.smooth_rows.ensures)

pub pass-requires : goal.pass-requires
pass-requires t c = passable c.requires.1 {k = c.args.k - 1} (omega arith) c.smooth_into.ensures (omega arith)

pub returns : goal.returns
returns t c =
    let a = c.args in
    let one : suc (a.k - 1) ≡ a.k = omega arith in
    after_next a.across a.down a.sides.width a.sides.height a.samples.now (a.k - 1) c.smooth_into.ensures c.pass.ensures
    ∙ ap (λ k. after k a.across a.down a.sides.width a.sides.height a.samples.now) one
