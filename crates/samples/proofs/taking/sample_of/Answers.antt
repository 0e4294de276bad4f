-- What is cut to 64 bits is small, and the same number in 32.
use Rattle.std.proofs.Common.{◌∙◌, to_z-of_z, w32, w64}
use borrow.Author.Rules.{sfits_of}
use Rattle.samples.specs.Narrow.{narrow_taken, narrow_same, narrow_fits}
use Rattle.samples.proofs.taking.sample_of.Goals as goal

pub whole_of-requires : goal.whole_of-requires
whole_of-requires c = narrow_taken _ c.requires

pub overflow_cast-result : goal.overflow_cast-result
overflow_cast-result c = rw (to_z-of_z {w = w64} (sfits_of c.whole_of.type_inv), c.whole_of.ensures) (narrow_fits _ c.requires)

pub returns : goal.returns
returns c = to_z-of_z {w = w32} (overflow_cast-result c) ∙ to_z-of_z {w = w64} (sfits_of c.whole_of.type_inv) ∙ c.whole_of.ensures ∙ narrow_same _ c.requires
