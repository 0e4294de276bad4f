-- The library's bytes of a number are those of the definitions.
use Rattle.std.proofs.Common.{◌≡◌, ◌∙◌}
use Rattle.meaning.specs.Encoding.{bytes}
use Rattle.encoding.specs.Bytes.{high_first}
use Rattle.encoding.proofs.inner.cursor.Cursor.put_u16.Goals as goal
use Rattle.encoding.proofs.inner.cursor.Cursor.put_u16.Goals.{After-to_be_bytes}

same : (c : After-to_be_bytes) → c.to_be_bytes.result ≡ bytes 2 c.args.x
same c = c.to_be_bytes.ensures ∙ high_first 2 c.args.x

pub put_bytes-requires : goal.put_bytes-requires
put_bytes-requires c = rw (same _) c.requires

pub returns : goal.returns
returns c = rw (← same _) c.put_bytes.ensures
