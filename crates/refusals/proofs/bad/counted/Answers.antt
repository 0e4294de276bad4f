-- The answer is that of the places from i on: one place more is bad, or it is not.
use Rattle.std.proofs.Common.{sym, ◌≡◌, ◌∙◌, arith, ◌+◌, ◌-◌, true, false}
use Rattle.theory.specs.Tally.{tally_none, tally_start, tally_passed, tally_bad}
use Rattle.refusals.specs.Counted.{told_bad, told_one}
use Rattle.refusals.proofs.bad.counted.Goals as goal

pub loop-i-init : goal.loop-i-init
loop-i-init g c = record { from = omega arith; room = omega arith; so_far = λ N t l h. tally_none _ _ _ (omega arith) }

pub loop-i-preserved-then-bad : goal.loop-i-preserved-then-bad
loop-i-preserved-then-bad g c =
    let before = c.loop-i.invariant in
    let i = c.loop-i.i - 1 in
    let n = c.loop-i.count in
    let end = c.args.span.end in
    record {
      from = omega arith;
      room = omega arith;
      so_far = λ N t l h.
          let here = sym (h i true (omega arith) (omega arith) c.if-bad.ensures) in
          sym (told_one (n + 1) i (λ e. absurd (omega (arith, e)))) ∙ rw (told_bad n c.loop-i.first) at (tally_bad N end t i {j = c.loop-i.i} (omega arith) (before.so_far N t l h) (omega arith) l here);
    }

pub loop-i-preserved : goal.loop-i-preserved
loop-i-preserved g c =
    let before = c.loop-i.invariant in
    let i = c.loop-i.i - 1 in
    let end = c.args.span.end in
    record {
      from = omega arith;
      room = omega arith;
      so_far = λ N t l h.
          let here = sym (h i false (omega arith) (omega arith) c.if-bad.ensures) in
          tally_passed N end t i {j = c.loop-i.i} (omega arith) (before.so_far N t l h) here;
    }

pub returns-then-count-eq0 : goal.returns-then-count-eq0
returns-then-count-eq0 g c N t l h =
    let none : c.loop-i.count ≡ 0 = c.if-count-eq0.true in
    tally_start N c.args.span.end t c.args.span.start (omega arith) (rw none at (c.loop-i.invariant.so_far N t l h))

pub returns : goal.returns
returns g c N t l h = tally_start N c.args.span.end t c.args.span.start (omega arith) (told_one c.loop-i.count c.loop-i.first c.if-count-eq0.false ∙ c.loop-i.invariant.so_far N t l h)
