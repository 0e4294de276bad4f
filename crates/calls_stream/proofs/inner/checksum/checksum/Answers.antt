-- One element more adds its weighted remainder.
use native.Mathlib.Omega.{arith}
use Rattle.std.proofs.Common.{map, ◌∙◌}
use Rattle.theory.specs.Remainder.{emod_below}
use Rattle.calls_stream.specs.Checksum.{modulus, checksum_below, checksum_none, checksum_more, element_residue}
use Rattle.calls_stream.proofs.inner.checksum.checksum.Goals as goal

pub loop-i-init : goal.loop-i-init
loop-i-init g c = checksum_none (map g.T.Element.value c.args.values.now)

pub gain-sum-requires : goal.gain-sum-requires
gain-sum-requires g c =
    let f = g.T.Element.value in
    let here = emod_below (f c.index-values-i.result) {p = modulus} (omega arith) in
    (omega (arith, c.loop-i.invariant, checksum_below (map f c.args.values.now) c.loop-i.i), omega arith, rw c.residue.ensures here)

pub loop-i-preserved : goal.loop-i-preserved
loop-i-preserved g c =
    let f = g.T.Element.value in
    let xs = c.args.values.now in
    checksum_more (map f xs) c.loop-i.i c.loop-i.invariant (c.residue.ensures ∙ element_residue f xs c.loop-i.i c.loop-i-test.true c.index-values-i.is) c.gain-sum.ensures
