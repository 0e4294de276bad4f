-- One result more beats the best so far, or it does not.
use Rattle.std.proofs.Common.{rules, sym, ◌∙◌, ap, arith, ◌≡◌, length, true, false, to_z, of_z}
use Rattle.std.specs.Int.{w64}
use Rattle.meaning.specs.Extension.{at}
use Rattle.theory.specs.Extremes.{best_start, best_next, best_stays, best_done}
use Rattle.summary.proofs.extremes.first.Goals as goal
use Rattle.summary.proofs.extremes.first.Goals.{then-beats, else-beats}

pub loop-i-init : goal.loop-i-init
loop-i-init g c = record { room = omega (arith, c.requires.some); value = search rules; so_far = λ t o h. best_start o c.args.results.now }

pub loop-i-preserved : goal.loop-i-preserved
loop-i-preserved g c =
    let r = c.args.results.now in
    let before = c.loop-i.invariant in
    let read : to_z w64 (of_z w64 (at r c.loop-i.i)) ≡ at r c.loop-i.i = search rules in
    elim c.if-beats.branch [
      | then-beats w ↦ record {
        room = omega arith;
        value = w.best-is ∙ read ∙ sym (ap (at r) w.at-is);
        so_far = λ t o h. rw w.at-is (best_next o r (before.so_far t o h) (sym (h _ _ true (rw (read, before.value) at w.if-beats.ensures))));
      }
      | else-beats w ↦ record {
        room = omega arith;
        value = w.best-is ∙ before.value ∙ sym (ap (at r) w.at-is);
        so_far = λ t o h. rw w.at-is (best_stays o r (before.so_far t o h) (sym (h _ _ false (rw (read, before.value) at w.if-beats.ensures))));
      }
    ]

pub returns : goal.returns
returns g c = λ t o h.
    let whole : c.loop-i.i ≡ length c.args.results.now = omega (arith, c.loop-i.invariant.room) in
    (sym (best_done o c.args.results.now (rw whole at (c.loop-i.invariant.so_far t o h))), c.loop-i.invariant.value)
