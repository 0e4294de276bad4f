-- The loop keeps a radius that fits, and ends where the next does not.
use Prim.Native.Nat.{◌+◌, ◌*◌, ◌-◌, ◌≤◌}
use Rattle.planner.proofs.rule.radius.Given as goal

abbrev pub invariant-loop-r : goal.invariant-loop-r
invariant-loop-r l = (l.r ≤ 442) × (l.r * (l.r + 1) * (10000 * l.passes) ≤ 3 * (l.sigma * l.sigma))

abbrev pub decreases-loop-r : goal.decreases-loop-r
decreases-loop-r l = 443 - l.r
