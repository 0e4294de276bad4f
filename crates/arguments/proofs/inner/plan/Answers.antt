-- Four doubles are a plan; of another number of them, one that no limit allows.
use native.Mathlib.Omega.{arith}
use mathlib.Core.Path.{◌≡◌, sym, ap, ◌∙◌}
use Rattle.std.proofs.Common.{ℕ, length, true, false, true≢false, ltb}
use Rattle.theory.specs.Arguments.{plan_other}
use Rattle.arguments.specs.Numbers.{numbers_of, numbers_taken}
use Rattle.arguments.proofs.inner.plan.Goals as goal
use Rattle.arguments.proofs.inner.plan.Goals.{in_default-via-then-numbers-lt4, in_default-via-else-numbers-lt4+else-numbers-lt5}

fewer : (n : ℕ) → ltb n 4 ≡ true → n ≡ 4 → ⊥
fewer n e h = true≢false (sym (rw h at e))

more : (n : ℕ) → ltb n 5 ≡ false → n ≡ 4 → ⊥
more n e h = true≢false (rw h at e)

pub returns-in_default : goal.returns-in_default
returns-in_default c = ap numbers_of c.new.ensures ∙ sym (plan_other c.args.numbers.now (elim c.in_default.branch [ in_default-via-then-numbers-lt4 w ↦ fewer _ w.if-numbers-lt4-1.true | in_default-via-else-numbers-lt4+else-numbers-lt5 w ↦ more _ w.if-numbers-lt5-1.false ]))

pub returns : goal.returns
returns c = ap numbers_of c.new-2.ensures ∙ numbers_taken _ (omega arith) c.count.ensures c.count-2.ensures c.count-3.ensures c.count-4.ensures
