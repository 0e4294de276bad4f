-- What a host's doubles are taken as. Every number that it gives is one, as a query engine holds them.
--   refused      2^53, which no limit allows
--   whole_of x    the whole number that the double x is, where its size is at most 2^53 - 1; of every other double, refused. Minus zero is 0
--   unsigned z   z, but of a negative number refused
--   count_of x    both: of a fraction, a NaN, an infinity, a negative or a larger double, refused
--   PlanNumbers  radius, inner weight, edge weight and passes;  stages p  the list of stages of such a plan
--   plan_in xs    those of four doubles, in this order; of a list of another length all four are refused, so that its number is 1
--   stages_in xs  its list of stages
use Rattle.std.specs.Prelude.{ℕ, cond, List, eqb, length, get_or, ℤ, pos, negsuc, Float}
use Rattle.std.specs.Float.{nan}
use Rattle.std.specs.Float.Ieee.{to_signed}
use Rattle.meaning.specs.Limits.{max_result}
use Rattle.meaning.specs.Kernel.{Stage, plan}
use Rattle.meaning.specs.Values.{takes}

abbrev pub refused : ℕ
refused = 9007199254740992

unfoldable pub whole_of : Float → ℤ
whole_of x = cond (takes max_result x) (to_signed 63 x) (pos refused)

unfoldable pub unsigned : ℤ → ℕ
unsigned (pos n) = n
unsigned (negsuc n) = refused

unfoldable pub count_of : Float → ℕ
count_of x = unsigned (whole_of x)

pub record PlanNumbers : Type 0 where
  pub radius : ℕ
  pub inner : ℕ
  pub edge : ℕ
  pub passes : ℕ

abbrev pub stages : PlanNumbers → List Stage
stages p = plan p.radius p.inner p.edge p.passes

unfoldable pub plan_in : List Float → PlanNumbers
plan_in xs =
    cond
    (eqb (length xs) 4)
    (record { radius = count_of (get_or xs 0 nan); inner = count_of (get_or xs 1 nan); edge = count_of (get_or xs 2 nan); passes = count_of (get_or xs 3 nan) })
    (record { radius = refused; inner = refused; edge = refused; passes = refused })

abbrev pub stages_in : List Float → List Stage
stages_in xs = stages (plan_in xs)
