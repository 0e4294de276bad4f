-- Before turn i the first i cells hold their samples.
use Rattle.std.proofs.Common.{sym, ◌∙◌, length, arith, to_z-of_z}
use Rattle.std.specs.Int.{w32}
use borrow.Author.Rules.{sfits_of}
use Rattle.meaning.specs.Smoothing.{list_of}
use Rattle.meaning.specs.Record.{sample_at}
use Rattle.theory.specs.Fill.{fill_next, fill_done}
use Rattle.theory.specs.Lists.{length_list_of, at_list_of}
use Rattle.record.proofs.inner.load.Goals as goal

pub loop-i-preserved : goal.loop-i-preserved
loop-i-preserved c =
    let l = c.loop-i in
    let n = length c.args.samples.now in
    let of = sample_at c.args.stretch.now in
    fill_next (list_of n of) l.samples l.i l.invariant _ (omega arith) (omega (arith, length_list_of n of)) (to_z-of_z {w = w32} (sfits_of c.sample.type_inv) ∙ c.sample.ensures ∙ sym (at_list_of n of l.i (omega arith)))

pub returns : goal.returns
returns c =
    let l = c.loop-i in
    let n = length c.args.samples.now in
    let of = sample_at c.args.stretch.now in
    fill_done (list_of n of) l.samples l.i l.invariant (omega arith) (omega (arith, length_list_of n of))
