-- The library's number of four bytes is that of the definitions.
use Rattle.std.proofs.Common.{◌∙◌, ap, to_z, arith}
use Rattle.std.specs.Int.{w32}
use Rattle.std.proofs.Math.Facts.{to_z-of_z}
use borrow.Author.Rules.{sfits_of}
use Rattle.encoding.specs.Bytes.{number_four}
use Rattle.encoding.proofs.inner.signed.Goals as goal

pub returns : goal.returns
returns c = to_z-of_z {w = w32} (sfits_of c.from_be_bytes.type_inv) ∙ c.from_be_bytes.ensures ∙ ap (to_z w32) (number_four c.args.bytes (omega arith))
