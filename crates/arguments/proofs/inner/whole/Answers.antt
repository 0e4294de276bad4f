-- A double that is taken is cast; of every other comes the one number.
use mathlib.Core.Path.{◌≡◌, sym, ◌∙◌}
use mathlib.Core.Bool.{Bool}
use borrow.Author.Rules.{sfits_of}
use mir.Syntax.{w64}
use mir.Facts.{to_z-of_z}
use Rattle.meaning.specs.Limits.{max_result}
use Rattle.meaning.specs.Values.{takes}
use Rattle.theory.specs.Arguments.{whole_is, whole_not}
use Rattle.arguments.proofs.inner.whole.Goals as goal
use Rattle.arguments.proofs.inner.whole.Goals.{After-takes}

-- the test, whatever it says
taken : (c : After-takes) {b : Bool} → c.takes.result ≡ b → takes max_result c.args.x ≡ b
taken c e = sym c.takes.ensures ∙ e

pub returns-then-takes : goal.returns-then-takes
returns-then-takes c = to_z-of_z {w = w64} (sfits_of c.whole_of.type_inv) ∙ c.whole_of.ensures ∙ sym (whole_is _ (taken (goal.at.returns-then-takes c).After-takes c.if-takes.true))

pub returns : goal.returns
returns c = sym (whole_not _ (taken (goal.at.returns c).After-takes c.if-takes.false))
