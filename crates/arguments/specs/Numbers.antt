-- A plan's numbers, and the steps of taking them.
--   numbers_of p   the numbers of the plan p
-- Laws: count_held (what a cast to an unsigned number asks), numbers_taken (four numbers, each taken).
use Rattle.std.specs.Prelude.{ℕ, ◌≡◌, false, List, T, length, get_or, ℤ, pos, negsuc, nat_abs, Float}
use Rattle.std.proofs.Common.{sym, true≢false, arith, SFits, Fits}
use Rattle.std.specs.Int.Signed.{lt_z, non_neg}
use Rattle.std.specs.Float.{nan}
use Rattle.std.specs.Int.{w64}
use Rattle.meaning.specs.Arguments.{count_of, PlanNumbers, plan_in}
use Rattle.theory.specs.Arguments.{plan_numbers}
use Rattle.plan.specs.declared.Plan.{Plan}

abbrev pub numbers_of : Plan → PlanNumbers
numbers_of p = record { radius = p.radius; inner = p.inner; edge = p.edge; passes = p.passes }

pub count_held : (z : ℤ) → lt_z z (pos 0) ≡ false → SFits w64 z → T (non_neg z) × Fits w64 (nat_abs z)
count_held (pos n) e f = (tt, omega (arith, f.sfits))
count_held (negsuc n) e f = absurd (true≢false e)

pub numbers_taken : (xs : List Float) → length xs ≡ 4 → {r b a k : ℕ} → r ≡ count_of (get_or xs 0 nan) → b ≡ count_of (get_or xs 1 nan) → a ≡ count_of (get_or xs 2 nan) → k ≡ count_of (get_or xs 3 nan) → record { radius = r; inner = b; edge = a; passes = k } ≡ plan_in xs
numbers_taken xs h r b a k = rw (r, b, a, k) (sym (plan_numbers xs h))
