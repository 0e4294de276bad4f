-- What is read, and each number of it told.
use mathlib.Core.Path.{◌≡◌, ap, ◌∙◌}
use native.Mathlib.Omega.{arith}
use Rattle.meaning.specs.Record.{Job}
use Rattle.record.specs.declared.Job.{Job as Found}
use Rattle.theory.specs.Narrow.{read_most}
use Rattle.dungdapple.specs.Held.{fits_as}
use Rattle.dungdapple.specs.Found.{job_found}
use Rattle.dungdapple.proofs.dungdapple_read_record.Goals as goal

pub overflow_cast-start : goal.overflow_cast-start
overflow_cast-start c =
    let e = job_found _ c.read_record-read.result c.read_record-read.ensures in
    fits_as (ap (λ (j : Found). j.start) c.unwrap_or-job.ensures ∙ ap (λ (j : Job). j.start) e) (read_most c.args.bytes.now).1 (omega arith)

pub overflow_cast-size : goal.overflow_cast-size
overflow_cast-size c =
    let e = job_found _ c.read_record-read.result c.read_record-read.ensures in
    fits_as (ap (λ (j : Found). j.size) c.unwrap_or-job.ensures ∙ ap (λ (j : Job). j.size) e) (read_most c.args.bytes.now).2 (omega arith)

pub number-requires : goal.number-requires
number-requires c =
    let e = job_found _ c.read_record-read.result c.read_record-read.ensures in
    omega (arith, ap (λ (j : Job). j.answer.number) e, (read_most c.args.bytes.now).0)

pub returns : goal.returns
returns c =
    let e = job_found _ c.read_record-read.result c.read_record-read.ensures in
    rw (c.number.ensures, c.from.ensures, c.from-2.ensures, c.from-3.ensures, c.from-4.ensures, c.unwrap_or-job.ensures) e
