-- What is too long or not well formed is 14; of any other record the samples are smoothed.
use Rattle.std.proofs.Common.{◌≡◌, ◌∙◌, ap, refl, arith}
use Rattle.meaning.specs.Refusals.{Answer}
use Rattle.meaning.specs.Record.{Job, read_record}
use Rattle.plan.specs.Structs.{refused, refused_number}
use Rattle.theory.specs.Records.{read_refused}
use Rattle.theory.specs.Programs.{program_long, program_malformed}
use Rattle.job.specs.Text.{first_room}
use Rattle.report.specs.Text.{few_samples, job_text}
use Rattle.report.proofs.inner.report_into.Goals as goal

pub refused_line-requires : goal.refused_line-requires
refused_line-requires c = first_room _ _ _ c.requires

pub returns-then-input-gt-MOST_BYTES : goal.returns-then-input-gt-MOST_BYTES
returns-then-input-gt-MOST_BYTES c = rw (program_long c.args.input.now (omega arith)) c.refused_line.ensures

pub smooth-requires : goal.smooth-requires
smooth-requires c = (few_samples c.args.input.now _ c.in-Ok.ensures refl c.stretch-stretch.ensures, c.requires)

pub returns-in-Ok : goal.returns-in-Ok
returns-in-Ok c =
    rw (job_text c.args.input.now _ c.in-Ok.ensures refl c.stretch-stretch.ensures c.from.ensures (omega (arith, c.if-input-gt-MOST_BYTES.false))) (rw c.from-bound.ensures at c.smooth.ensures)

pub refused_line-requires-in-Err : goal.refused_line-requires-in-Err
refused_line-requires-in-Err c = first_room _ _ _ c.requires

pub returns-in-Err : goal.returns-in-Err
returns-in-Err c =
    let s = c.args.input.now in
    let e = c.in-Err.refusal in
    let same : refused e ≡ (read_record s).answer = ap (λ (j : Job). j.answer) c.in-Err.ensures in
    let malformed = λ (z : (read_record s).answer.number ≡ 0). refused_number e (ap (λ (a : Answer). a.number) same ∙ z) in
    let answer = same ∙ ap (λ (j : Job). j.answer) (read_refused s malformed) in
    rw (program_malformed s malformed) (rw answer at c.refused_line-in-Err.ensures)
