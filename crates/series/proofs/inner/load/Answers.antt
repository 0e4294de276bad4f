-- Each cell is its own sample.
use Rattle.std.proofs.Common.{rules}
use Rattle.std.proofs.lemmas.List.Elements.{same_from_all_zip}
use Rattle.series.proofs.inner.load.Goals as goal

pub returns : goal.returns
returns c = same_from_all_zip _ _ _ c.map_into.ensures (λ x y k. search rules)
