-- All places are counted.
use Rattle.std.proofs.Common.{rules, ℕ, Bool, arith, not, length, ◌∙◌, ap}
use Rattle.std.specs.Prelude.{slice_index_or, [], ◌∷◌}
use Rattle.std.specs.Float.{nan}
use Rattle.meaning.specs.Refusals.{Row, first_of}
use Rattle.meaning.specs.Values.{takes}
use Rattle.theory.specs.Places.{row_at_all}
use Rattle.samples.proofs.inner.doubles_allowed.Goals as goal

pub returns : goal.returns
returns c =
    let a = c.args in
    let n = length a.doubles.now in
    let bad : ℕ → Bool = λ i. not (takes a.bound (slice_index_or a.doubles.now i nan)) in
    c.counted.ensures n bad (omega arith) (λ i r l m h. search rules) ∙ ap (λ (row : Row). first_of (row ∷ [])) (row_at_all 11 n bad)
