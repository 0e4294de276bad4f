-- The value stands behind the head, where there is one.
use Rattle.std.proofs.Common.{◌∙◌, ap, arith, take, drop, length, length-drop, drop-drop, Option, None, Some, MatchOption}
use Rattle.reader.specs.Reading.{begins_within}
use Rattle.reader.proofs.reading.field.Goals as goal

through : {T A B : Type 0} {P Q : T → Type 0} (o : Option T) → MatchOption o A P → (A → B) → ((x : T) → P x → Q x) → MatchOption o B Q
through None h f g = f h
through (Some x) h f g = g x h

pub returns : goal.returns
returns g c =
    let s = c.args.bytes.now in
    let n = g.row.N in
    let head = c.in_ok-after_head.ensures in
    through c.split_first_chunk.result c.split_first_chunk.ensures.cases
    (λ short. absurd (omega (arith, short, begins_within c.args.tag n s head.0, ap length head.1, length-drop 3 s)))
    (λ p parts. record { begun = head.0; value = parts.0 ∙ ap (take n) head.1; behind = parts.1 ∙ ap (drop n) head.1 ∙ drop-drop n 3 s })
