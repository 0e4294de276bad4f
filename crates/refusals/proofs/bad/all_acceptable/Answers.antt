-- All are acceptable so far exactly where each before i has a size up to the bound.
use Rattle.std.proofs.Common.{arith}
use Rattle.refusals.proofs.bad.all_acceptable.Goals as goal

pub returns : goal.returns
returns c =
    let all = c.loop-i.invariant in
    (λ h j l m. all.yes h j (omega arith) m, λ b h. all.no (λ j l m. h j (omega arith) m))
