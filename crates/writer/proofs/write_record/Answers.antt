-- Refused, nothing is written; done, the whole record.
use Rattle.std.proofs.Common.{refl, length}
use Rattle.plan.specs.Structs.{refused_number, passed_on}
use Rattle.writer.specs.Contract.{few, asked, refused_writes, done_writes}
use Rattle.writer.proofs.write_record.Goals as goal

pub returns-in_err-allowed : goal.returns-in_err-allowed
returns-in_err-allowed c =
    let e = c.in_err-allowed.field-0.0 in
    rw (passed_on e c.from_residual.result c.from_residual.ensures.1 refl) (refused_writes _ _ _ _ _ _ _ c.in_err-allowed.ensures (refused_number e))

pub put_record-requires : goal.put_record-requires
put_record-requires c = let f = c.args.samples.now in let s = c.args.bytes.now in (asked (length f) (length s) _ c.in_ok-allowed.ensures refl, few (length f) (length s) _ c.in_ok-allowed.ensures refl)

pub returns : goal.returns
returns c = done_writes _ _ _ _ _ _ _ c.in_ok-allowed.ensures refl c.put_record.ensures
