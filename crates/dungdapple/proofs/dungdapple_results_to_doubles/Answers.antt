-- The call, and its answer told.
use mathlib.Core.Path.{ap, ◌∙◌}
use Rattle.meaning.specs.Refusals.{Answer}
use Rattle.theory.specs.Narrow.{narrow_exact}
use Rattle.answers.specs.Untested.{exact_untested}
use borrow.Author.Rules.{rules}
use Rattle.dungdapple.specs.Same.{narrow_as}
use Rattle.dungdapple.proofs.dungdapple_results_to_doubles.Goals as goal

pub told-requires : goal.told-requires
told-requires c =
    let a = c.args in
    let e = c.results_to_doubles-answer.ensures.answer in
    narrow_as e (narrow_exact a.results.now a.cells.now)

pub returns : goal.returns
returns c =
    let a = c.args in
    let e = c.results_to_doubles-answer.ensures.answer in
    let told = c.told.ensures (ap (λ (x : Answer). x.bad) e ∙ exact_untested a.results.now a.cells.now) in
    search rules
