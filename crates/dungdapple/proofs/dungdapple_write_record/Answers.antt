-- The numbers that were taken, the record of them, and its answer told.
use Rattle.std.proofs.Common.{arith}
use Rattle.meaning.specs.HostRecord.{write_record_in}
use Rattle.arguments.specs.Numbers.{numbers_of}
use Rattle.dungdapple.specs.Same.{same₂, written_as}
use Rattle.dungdapple.specs.Writing.{written_plain, number_written}
use Rattle.dungdapple.proofs.dungdapple_write_record.Goals as goal

pub number-requires : goal.number-requires
number-requires c =
    let a = c.args in
    omega (arith, number_written (numbers_of c.plan-numbers.result) c.count-most.result a.samples.now a.bytes.now c.written-written.ensures)

pub returns : goal.returns
returns c =
    let a = c.args in
    let told = written_plain (numbers_of c.plan-numbers.result) c.count-most.result a.samples.now a.bytes.now c.written-written.ensures in
    rw c.number.ensures (written_as (same₂ (λ p M. write_record_in p M a.samples.now a.bytes.now) c.plan-numbers.ensures c.count-most.ensures) told)
