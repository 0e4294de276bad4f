-- What was loaded is smoothed, the lines are those of the outcome, and there is room for the longest text.
use Rattle.std.proofs.Common.{refl, arith}
use Rattle.plan.specs.Structs.{stages_of, refused_number}
use Rattle.encoding.specs.Append.{append_then}
use Rattle.job.specs.Text.{first_room, lines_room, refused_text, done_text}
use Rattle.job.proofs.inner.smooth_into.Goals as goal

pub done_line-requires : goal.done_line-requires
done_line-requires c = first_room _ _ _ c.requires.text

pub result_lines-requires : goal.result_lines-requires
result_lines-requires c = lines_room _ _ _ _ (omega (arith, c.requires.results, c.requires.few)) c.requires.text c.done_line.ensures

pub returns-in-Ok : goal.returns-in-Ok
returns-in-Ok c =
    let a = c.args in
    append_then (done_text (stages_of a.plan) a.bound a.stretch.now _ a.results.now a.work.now c.load.ensures c.requires c.in-Ok.ensures refl c.divisor.ensures) c.done_line.ensures c.result_lines.ensures

pub refused_line-requires : goal.refused_line-requires
refused_line-requires c = first_room _ _ _ c.requires.text

pub returns-in-Err : goal.returns-in-Err
returns-in-Err c =
    let a = c.args in
    rw (refused_text (stages_of a.plan) a.bound a.stretch.now _ a.results.now a.work.now c.load.ensures c.requires c.in-Err.ensures (refused_number c.in-Err.refusal)) c.refused_line.ensures
