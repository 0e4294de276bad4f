-- Refused, or the result over the divisor. Of work only the length is tested.
use mathlib.Core.Path.{◌∙◌}
use mir.Syntax.{w64}
use mir.Facts.{to_z-of_z}
use mir.Syntax.{w64}
use borrow.Author.Rules.{sfits_of}
use Rattle.result.specs.Shares.{divisible}
use Rattle.point.specs.Steps.{pointable, point_refused, point_done}
use Rattle.point.proofs.inner.point_within.Goals as goal

pub returns-in_err-allowed : goal.returns-in_err-allowed
returns-in_err-allowed c = point_refused _ _ _ _ _ _ _ c.from_residual.ensures.1 c.in_err-allowed.ensures

pub result-result-requires : goal.result-result-requires
result-result-requires c = pointable _ _ _ _ _ c.in_ok-allowed.ensures

pub ratio-requires : goal.ratio-requires
ratio-requires c =
    let p = divisible (pointable _ _ _ _ _ c.in_ok-allowed.ensures) (to_z-of_z {w = w64} (sfits_of c.result-result.type_inv) ∙ c.result-result.ensures) c.divisor.ensures in
    record { res_bound = p.0; least_le_divisor = p.1 }

pub returns : goal.returns
returns c = point_done _ _ _ _ _ c.in_ok-allowed.ensures (to_z-of_z {w = w64} (sfits_of c.result-result.type_inv) ∙ c.result-result.ensures) c.divisor.ensures c.ratio.ensures
