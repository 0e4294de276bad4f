-- Nothing is left behind the last field.
use Rattle.std.proofs.Common.{sym, ap, ◌∙◌, length, arith}
use Rattle.std.proofs.lemmas.Grind.{common_steps}
use Rattle.theory.specs.Records.{length_record_of}
use Rattle.encoding.specs.Append.{append_all}
use Rattle.writer.proofs.writing.put_record.Goals as goal

pub put_fields-requires : goal.put_fields-requires
put_fields-requires c =
    let n = c.args.fields in
    (record { room = omega (arith, ap length c.new.ensures.rest, length_record_of n.radius n.inner n.edge n.passes n.bound c.args.samples.now, c.requires.0) }, c.requires.1)

pub returns : goal.returns
returns c =
    let n = c.args.fields in
    let size = ap length c.new.ensures.rest ∙ c.requires.0 ∙ sym (length_record_of n.radius n.inner n.edge n.passes n.bound c.args.samples.now) in
    let all = append_all c.put_fields.ensures c.new.ensures.written size in grind (arith, common_steps)
