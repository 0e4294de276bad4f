-- The definition's own sum; an allowed plan's is far below 2^64.
use Prim.Native.Nat.{◌+◌, ◌*◌, ◌≤◌}
use native.Mathlib.Nat.{mul-le-mul}
use native.Mathlib.Omega.{arith}
use borrow.Author.Rules.{rules}
use Rattle.meaning.specs.Kernel.{tap_sum}
use Rattle.plan.specs.declared.Plan.{Plan}
use Rattle.plan.specs.Tested.{Tested}
use Rattle.plan.proofs.inner.tap_sum.Goals as goal

within : (p : Plan) → Tested p → (2 * p.radius + 1) * p.inner ≤ 2047 * 255
within p ok = let w : 2 * p.radius + 1 ≤ 2047 = omega (arith, ok.radius) in mul-le-mul w ok.inner.1

pub returns : goal.returns
unfolding tap_sum
returns c = search rules
