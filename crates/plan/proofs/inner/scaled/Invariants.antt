-- After k factors the product is x times D^k, capped.
use Prim.Native.Nat.{◌*◌, ◌^◌}
use mathlib.Core.Path.{◌≡◌}
use Rattle.plan.specs.Capped.{capped}
use Rattle.plan.proofs.inner.scaled.Given as goal

abbrev pub invariant-loop-k : goal.invariant-loop-k
invariant-loop-k l = capped l.product ≡ capped (l.x * l.d ^ l.k)
