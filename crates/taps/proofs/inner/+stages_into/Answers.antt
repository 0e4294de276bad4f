-- By induction on k: the taps of one stage less stand in the other slice.
use Rattle.std.proofs.Common.{suc, ◌-◌, ◌≡◌, length, replicate, ap, ◌∙◌, arith}
use Rattle.plan.specs.Structs.{stage_of}
use Rattle.taps.specs.Taps.{taps_of, stageable, stage_next}
use Rattle.taps.proofs.inner.+stages_into.Goals as goal

pub stage_more-requires : goal.stage_more-requires
stage_more-requires t c =
    stageable c.requires.1 {k = c.args.k - 1} (omega arith) c.stages_into.ensures (omega arith)

pub returns : goal.returns
returns t c =
    let one : suc (c.args.k - 1) ≡ c.args.k = omega arith in
    stage_next c.requires.1 {k = c.args.k - 1} (omega arith) c.stages_into.ensures c.stage_more.ensures
    ∙ ap (λ k. taps_of (length c.args.dst.now) (replicate k (stage_of c.args.plan))) one
