-- The mode decides.
use mathlib.Core.Path.{sym}
use native.Mathlib.Omega.{arith}
use Rattle.theory.specs.ModeRow.{mode_known, mode_other}
use Rattle.whole.proofs.mode.RoundingTryFromU64.try_from.Goals as goal

pub returns-in-0 : goal.returns-in-0
returns-in-0 c = record { answer = sym (mode_known c.args.mode (omega arith)); same = sym c.in-0.is }

pub returns-in-1 : goal.returns-in-1
returns-in-1 c = record { answer = sym (mode_known c.args.mode (omega arith)); same = sym c.in-1.is }

pub returns-in_default : goal.returns-in_default
returns-in_default c = record { answer = sym (mode_other c.args.mode (omega arith)); same = tt }
