-- No result before n is within reach and refused.
use Rattle.std.proofs.Common.{arith, ◌∙◌}
use Rattle.std.proofs.lemmas.Int.{to_z-of_z}
use Rattle.theory.specs.Places.{walk_next, walk_found, walk_done}
use Rattle.gains.specs.Gains.{refused_is}
use Rattle.gains.proofs.inner.Edit.results_allowed.Goals as goal

pub returns-then-too_large : goal.returns-then-too_large
returns-then-too_large c =
    let e = c.args.self in
    let s = c.args.span in
    let t = refused_is c.args.limit e.taps.now e.p e.change c.args.results.now c.loop-n.n {b = c.too_large.result} (grind (arith, to_z-of_z)) in
    walk_found s.start s.end _ 12 _ c.loop-n.n c.loop-n.auto.n c.loop-n-test.true c.requires.1 (t ∙ c.if-too_large.true) c.loop-n.invariant

pub loop-n-preserved : goal.loop-n-preserved
loop-n-preserved c =
    let e = c.args.self in
    let s = c.args.span in
    let t = refused_is c.args.limit e.taps.now e.p e.change c.args.results.now c.loop-n.n {b = c.too_large.result} (grind (arith, to_z-of_z)) in
    walk_next s.start s.end _ c.loop-n.invariant (t ∙ c.if-too_large.false)

pub returns : goal.returns
returns c = let s = c.args.span in walk_done s.start s.end _ 12 _ c.loop-n.n c.loop-n-test.false c.loop-n.invariant
