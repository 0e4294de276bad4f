-- Before sample p, s is the sum of the shares of all samples before it.
use Rattle.std.proofs.Common.{arith, refl}
use Rattle.std.proofs.lemmas.Int.{to_z-of_z}
use Rattle.result.specs.Shares.{share_next, shares_fit}
use Rattle.result.proofs.inner.summed.Goals as goal

pub overflow_mul-s : goal.overflow_mul-s
overflow_mul-s c =
    let f = shares_fit c.requires {p = c.loop-p.p} (omega arith) c.loop-p.invariant refl refl in
    grind (arith, to_z-of_z)

pub overflow_add-s : goal.overflow_add-s
overflow_add-s c =
    let f = shares_fit c.requires {p = c.loop-p.p} (omega arith) c.loop-p.invariant refl refl in
    grind (arith, to_z-of_z)

pub loop-p-preserved : goal.loop-p-preserved
loop-p-preserved c =
    let f = shares_fit c.requires {p = c.loop-p.p} (omega arith) c.loop-p.invariant refl refl in
    let e = share_next c.requires {p = c.loop-p.p} (omega arith) c.loop-p.invariant refl refl in
    grind (arith, to_z-of_z)
