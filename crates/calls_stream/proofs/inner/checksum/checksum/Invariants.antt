-- One element more adds its weighted remainder.
use Rattle.std.proofs.Common.{◌≡◌, map}
use Rattle.calls_stream.specs.Checksum.{checksum_to}
use Rattle.calls_stream.proofs.inner.checksum.checksum.Given as goal

abbrev pub invariant-loop-i : goal.invariant-loop-i
invariant-loop-i g l = l.sum ≡ checksum_to (map g.T.Element.value l.values) l.i
