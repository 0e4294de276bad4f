-- What was put so far is the bytes of the samples passed, and the next have room as all of them have.
use Rattle.std.proofs.Common.{◌≡◌, refl, ◌∙◌, ap, ◌++◌, take, length, get_or, arith, length-drop, length-take-le, sym, to_z-of_z, of_z, pos}
use Rattle.std.specs.Int.{w32}
use Rattle.meaning.specs.Encoding.{bytes}
use Rattle.meaning.specs.Record.{sample_bytes}
use Rattle.theory.specs.Encoding.{length_bytes}
use Rattle.theory.specs.Records.{length_sample_bytes, sample_bytes_next}
use Rattle.encoding.specs.Bytes.{high_first}
use Rattle.encoding.specs.Append.{rest, append_none, append_then}
use Rattle.writer.proofs.writing.put_values.Goals as goal
use Rattle.writer.proofs.writing.put_values.Goals.{After-to_be_bytes}

pub loop-sample-init : goal.loop-sample-init
unfolding sample_bytes
loop-sample-init c = append_none refl

same : (c : After-to_be_bytes) → c.to_be_bytes.result ≡ bytes 4 (of_z w32 (get_or c.args.samples.now c.loop-sample.sample-index (pos 0)))
same c = rw (to_z-of_z {w = w32} {z = get_or c.args.samples.now c.loop-sample.sample-index (pos 0)} (record { sfits = omega arith })) at (c.to_be_bytes.ensures ∙ high_first 4 _)

pub put_bytes-requires : goal.put_bytes-requires
put_bytes-requires c =
    let f = c.args.samples.now in
    let l = c.loop-sample in
    let so_far = sample_bytes (take l.sample-index f) in
    record { room = omega (arith, ap length (same (goal.at.put_bytes-requires c).After-to_be_bytes), length_bytes 4 (of_z w32 (get_or f l.sample-index (pos 0))), ap length l.invariant.rest, length-drop (length so_far) (rest c.args.out.now), length_sample_bytes (take l.sample-index f), length-take-le l.sample-index f (omega arith), length_sample_bytes f, c.requires.room) }

pub loop-sample-preserved : goal.loop-sample-preserved
loop-sample-preserved c =
    let f = c.args.samples.now in
    let l = c.loop-sample in
    append_then (sample_bytes_next f l.sample-index (omega arith) ∙ ap (λ xs. sample_bytes (take l.sample-index f) ++ xs) (sym (same (goal.at.loop-sample-preserved c).After-to_be_bytes))) l.invariant c.put_bytes.ensures
