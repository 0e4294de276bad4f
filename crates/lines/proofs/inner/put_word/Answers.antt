-- The number, then the byte behind it.
use Rattle.std.proofs.Common.{refl}
use Rattle.encoding.specs.Append.{append_then}
use Rattle.lines.proofs.inner.put_word.Goals as goal

pub returns : goal.returns
returns g c = append_then refl c.put_decimal.ensures c.put_byte.ensures
