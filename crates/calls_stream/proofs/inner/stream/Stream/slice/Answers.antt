-- One word more is read, and the element that it gives comes behind the others.
use Rattle.std.proofs.Common.{rules, refl, arith, ◌≡◌, ◌∙◌, ap, [], ◌∷◌, ◌++◌}
use Rattle.calls_stream.specs.Words.{taken_more, reads_taken}
use Rattle.calls_stream.proofs.inner.stream.Stream.slice.Goals as goal

pub loop-init : goal.loop-init
loop-init g c = record { counted = search rules; taken = ([], refl, refl, c.in_ok-values.ensures.items) }

pub loop-preserved : goal.loop-preserved
loop-preserved g c = record {
  counted = search rules;
  taken = taken_more g.T.Element.read _ _ _ c.loop.invariant.taken c.in-Some.ensures (c.in_ok-push.ensures.items ∙ ap (λ x. c.loop.values.items ++ x ∷ []) c.from_word.ensures);
}

pub returns-clause-read : goal.returns-clause-read
returns-clause-read g c =
    let all : c.in_ok-count.count ≡ c.loop.counter = omega arith in
    reads_taken g.T.Element.read _ _ _ c.in_ok-count.ensures.read all c.loop.invariant.taken
