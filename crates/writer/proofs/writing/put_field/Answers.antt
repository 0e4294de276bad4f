-- The tag and the length, then the value.
use Rattle.std.proofs.Common.{refl, [], ◌∷◌, length}
use Rattle.meaning.specs.Encoding.{bytes}
use Rattle.meaning.specs.Record as M
use Rattle.encoding.specs.Append.{append_then, room_first, room_rest}
use Rattle.writer.proofs.writing.put_field.Goals as goal

pub put_byte-requires : goal.put_byte-requires
unfolding M.field
put_byte-requires c = let v = c.args.value.now in room_first (c.args.tag ∷ []) (bytes 2 (length v)) refl (room_first _ v refl c.requires.0)

pub put_u16-requires : goal.put_u16-requires
unfolding M.field
put_u16-requires c = room_rest _ refl (room_first (c.args.tag ∷ bytes 2 (length c.args.value.now)) c.args.value.now refl c.requires.0) c.put_byte.ensures

pub put_bytes-requires : goal.put_bytes-requires
unfolding M.field
put_bytes-requires c = room_rest _ refl c.requires.0 (append_then refl c.put_byte.ensures c.put_u16.ensures)

pub returns : goal.returns
unfolding M.field
returns c = append_then refl (append_then refl c.put_byte.ensures c.put_u16.ensures) c.put_bytes.ensures
