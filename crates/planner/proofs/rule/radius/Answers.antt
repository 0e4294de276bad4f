-- The loop keeps a radius that fits, and ends where the next does not.
use native.Mathlib.Omega.{arith}
use Rattle.theory.specs.Planner.{radius_is}
use Rattle.planner.proofs.rule.radius.Goals as goal

pub returns : goal.returns
returns c = radius_is _ _ (omega arith) c.loop-r.invariant.1 (omega arith)
