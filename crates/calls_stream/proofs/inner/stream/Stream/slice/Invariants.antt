-- Each element read is made of the word that was read for it.
use Rattle.std.proofs.Common.{◌≡◌, vec_len}
use Rattle.calls_stream.specs.Words.{Taken}
use Rattle.calls_stream.proofs.inner.stream.Stream.slice.Given as goal

abbrev pub invariant-loop : goal.invariant-loop
invariant-loop g l = record {
  counted : vec_len l.values ≡ l.counter;
  taken : Taken g.T.Element.read (g.R.Read.remaining l.initial.self.from) (g.R.Read.remaining l.self.from) l.counter l.values.items;
}
