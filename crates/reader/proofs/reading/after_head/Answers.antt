-- Test by test, as the definition reads the head.
use Rattle.std.proofs.Common.{sym, ◌∙◌, arith, eq-eqb, ne_eqb}
use Rattle.reader.specs.Reading.{begins_short, begins_other, begins_tagged, head_tag, head_size}
use Rattle.reader.proofs.reading.after_head.Goals as goal

pub returns-in_err-first : goal.returns-in_err-first
returns-in_err-first c = rw c.from_residual.ensures (begins_short c.args.tag c.args.size c.args.bytes.now (omega (arith, c.in_err-first.ensures.cases)))

pub returns-then-rest-size : goal.returns-then-rest-size
returns-then-rest-size c = begins_short c.args.tag c.args.size c.args.bytes.now (omega (arith, c.in_ok-first.ensures.cases))

pub returns-then-first-tag : goal.returns-then-first-tag
returns-then-first-tag c =
    let s = c.args.bytes.now in
    let head = c.in_ok-first.ensures.cases in
    begins_other c.args.tag c.args.size s (λ e. c.if-first-tag.true (sym (head_tag s head.0 (omega (arith, head))) ∙ e))

pub returns-then-from-size : goal.returns-then-from-size
returns-then-from-size c =
    let s = c.args.bytes.now in
    let head = c.in_ok-first.ensures.cases in
    begins_tagged c.args.tag c.args.size s (omega (arith, head)) (head_tag s head.0 (omega (arith, head)) ∙ c.if-first-tag.false)
    ∙ ne_eqb _ _ (λ e. c.if-from-size.true (omega (arith, e, head_size s head.0 (omega (arith, head)), c.from.ensures, c.from_be_bytes.ensures)))

pub returns : goal.returns
returns c =
    let s = c.args.bytes.now in
    let head = c.in_ok-first.ensures.cases in (
      begins_tagged c.args.tag c.args.size s (omega (arith, head)) (head_tag s head.0 (omega (arith, head)) ∙ c.if-first-tag.false)
          ∙ eq-eqb _ _ (omega (arith, head_size s head.0 (omega (arith, head)), c.from.ensures, c.from_be_bytes.ensures, c.if-from-size.false)),
      head.1,
    )
