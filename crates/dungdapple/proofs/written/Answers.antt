-- The rows of the fields, and where none applies the writer.
use Rattle.std.proofs.lemmas.Result.{err_from_is_err_and}
use Rattle.arguments.specs.Numbers.{numbers_of}
use Rattle.dungdapple.specs.Writing.{write_refused, write_rest}
use Rattle.dungdapple.proofs.written.Goals as goal

pub returns-in_err-fields : goal.returns-in_err-fields
returns-in_err-fields c =
    let p = err_from_is_err_and c.from_residual.result c.from_residual.ensures.1 in
    rw (p.1, p.2) (write_refused (numbers_of c.args.plan) c.args.bound c.args.samples.now c.args.bytes.now _ c.in_err-fields.ensures.answer)

pub returns : goal.returns
returns c =
    let a = c.args in
    let f = c.in_ok-fields.ensures in
    write_rest (numbers_of a.plan) a.bound a.samples.now a.bytes.now f.answer (let s = f.same in rw (← s.radius, ← s.inner, ← s.edge, ← s.passes, ← s.bound) c.write_record.ensures)
