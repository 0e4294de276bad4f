-- Four words, one after the other.
use Rattle.std.proofs.Common.{refl}
use Rattle.calls_stream.proofs.inner.stream.Stream.plan.Goals as goal

pub returns : goal.returns
returns g c = rw c.new.ensures (_, c.in_ok-radius.ensures, (_, c.in_ok-inner.ensures, (_, c.in_ok-edge.ensures, (_, c.in_ok-passes.ensures, refl))))
