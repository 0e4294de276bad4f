-- Refused, nothing was touched; done, every double was taken.
use Rattle.std.proofs.lemmas.Result.{err_from_is_err_and}
use Rattle.samples.specs.Taking.{takable, take_refused, take_done}
use Rattle.samples.proofs.doubles_in.Goals as goal

pub returns-in_err-allowed : goal.returns-in_err-allowed
returns-in_err-allowed c = let p = err_from_is_err_and c.from_residual.result c.from_residual.ensures.1 in rw (p.1, p.2) (take_refused _ _ _ _ c.in_err-allowed.ensures)

pub take_into-requires : goal.take_into-requires
take_into-requires c = takable _ _ _ c.in_ok-allowed.ensures

pub returns : goal.returns
returns c = take_done _ _ _ c.in_ok-allowed.ensures c.take_into.ensures
