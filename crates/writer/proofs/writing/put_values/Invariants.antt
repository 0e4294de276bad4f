-- What was put so far is the bytes of the samples passed.
use Rattle.std.proofs.Common.{take}
use Rattle.meaning.specs.Record.{sample_bytes}
use Rattle.encoding.specs.Append.{Wrote}
use Rattle.writer.proofs.writing.put_values.Given as goal

abbrev pub invariant-loop-sample : goal.invariant-loop-sample
invariant-loop-sample l = Wrote l.initial.out (sample_bytes (take l.sample-index l.samples)) l.out
