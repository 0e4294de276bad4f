-- The cells beside the window, where a walk begins at the first cell, and where one begins behind the middle.
use native.Mathlib.Omega.{arith}
use Rattle.pass.specs.Turn.{summable}
use Rattle.pass.specs.Walking.{beside_start, beside_end}
use Rattle.pass.proofs.inner.pass.Goals as goal

pub first_window-requires-clause-summable : goal.first_window-requires-clause-summable
first_window-requires-clause-summable c = summable c.requires (omega (arith, c.periods_before-periods.ensures.i_value))

pub walk-requires-clause-beside : goal.walk-requires-clause-beside
walk-requires-clause-beside c =
    beside_start _ c.periods_before-periods.ensures.i_value c.periods_before-periods.ensures.rest_bound c.next.ensures

pub walk-entering-requires-clause-beside : goal.walk-entering-requires-clause-beside
walk-entering-requires-clause-beside c =
    beside_start _ c.periods_before-periods.ensures.i_value c.periods_before-periods.ensures.rest_bound c.next.ensures

pub walk-requires-2-clause-beside : goal.walk-requires-2-clause-beside
walk-requires-2-clause-beside c = beside_end (omega arith) (omega arith)
