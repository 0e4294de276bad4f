-- In each case the answer is the lower of the two.
use native.Mathlib.Omega.{arith}
use Rattle.theory.specs.Accepted.{plans_lower}
use Rattle.plan.specs.Structs.{refused_above}
use Rattle.refusals.proofs.inner.plans_allowed.Goals as goal

pub returns-then-number : goal.returns-then-number
returns-then-number c = (plans_lower _ _ c.in-Err-Err.ensures c.in-Err-Err.ensures').0 (λ l. (refused_above c.in-Err-Err.a, omega arith))

pub returns-else-number : goal.returns-else-number
returns-else-number c = (plans_lower _ _ c.in-Err-Err.ensures c.in-Err-Err.ensures').1 (λ l. (refused_above c.in-Err-Err.b, omega arith))

pub returns-in-Err-Ok : goal.returns-in-Err-Ok
returns-in-Err-Ok c = (plans_lower _ _ c.in-Err-Ok.ensures (rw c.in-Err-Ok.is-1 at c.allowed-2.ensures)).0 (λ l. absurd (omega arith))

pub returns-in-Ok-default : goal.returns-in-Ok-default
returns-in-Ok-default c = (plans_lower _ _ (rw c.in-Ok-default.is-0 at c.allowed.ensures) c.allowed-2.ensures).1 (λ l. absurd (omega arith))
