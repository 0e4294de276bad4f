-- After k factors the product is x times D^k, capped.
use Prim.Native.Nat.{ℕ, ◌+◌, ◌*◌, ◌^◌}
use mathlib.Core.Path.{◌≡◌, sym, ap, ◌∙◌}
use native.Mathlib.Nat.{mul_assoc, pow-suc}
use native.Mathlib.Numerals.{add-one}
use native.Mathlib.Omega.{arith}
use Rattle.theory.specs.Stages.{divisor_replicate, tap_sum_positive}
use Rattle.plan.specs.Structs.{stage_of}
use Rattle.plan.specs.Capped.{capped, capped_again}
use Rattle.plan.proofs.inner.scaled.Goals as goal

grow : (x d k : ℕ) → x * d ^ (k + 1) ≡ x * d ^ k * d
grow x d k = rw (add-one, pow-suc, mul_assoc)

pub capped_times-product-requires : goal.capped_times-product-requires
capped_times-product-requires c = rw c.tap_sum-d.ensures (tap_sum_positive _ c.requires.inner.0)

pub loop-k-preserved : goal.loop-k-preserved
loop-k-preserved c =
    let l = c.loop-k in
    let d = c.tap_sum-d.result in
    capped_again l.product _ _ (rw c.tap_sum-d.ensures (tap_sum_positive _ c.requires.inner.0)) l.invariant c.capped_times-product.ensures ∙ ap capped (sym (grow _ d l.k))

pub returns : goal.returns
returns c =
    let p = c.args.plan in
    let all : c.loop-k.k ≡ p.passes = omega arith in
    c.loop-k.invariant ∙ rw (all, c.tap_sum-d.ensures, divisor_replicate p.passes (stage_of p))
