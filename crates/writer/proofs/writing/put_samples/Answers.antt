-- The tag and the length, then the samples.
use Rattle.std.proofs.Common.{◌≡◌, refl, ap, [], ◌∷◌, ◌++◌, ◌*◌, ℤ, List, length}
use Rattle.meaning.specs.Encoding.{bytes}
use Rattle.meaning.specs.Record as M
use Rattle.theory.specs.Records.{length_sample_bytes}
use Rattle.encoding.specs.Append.{append_then, room_first, room_rest}
use Rattle.writer.proofs.writing.put_samples.Goals as goal

whole : (f : List ℤ) → M.field 6 (M.sample_bytes f) ≡ (6 ∷ []) ++ bytes 2 (4 * length f) ++ M.sample_bytes f
unfolding M.field
whole f = ap (λ n. 6 ∷ bytes 2 n ++ M.sample_bytes f) (length_sample_bytes f)

pub put_byte-requires : goal.put_byte-requires
put_byte-requires c = let f = c.args.samples.now in room_first (6 ∷ []) (bytes 2 (4 * length f)) refl (room_first _ (M.sample_bytes f) (whole f) c.requires.0)

pub put_u16-requires : goal.put_u16-requires
put_u16-requires c = room_rest _ refl (room_first _ _ (whole c.args.samples.now) c.requires.0) c.put_byte.ensures

pub put_values-requires : goal.put_values-requires
put_values-requires c = room_rest _ (whole c.args.samples.now) c.requires.0 (append_then refl c.put_byte.ensures c.put_u16.ensures)

pub returns : goal.returns
returns c = append_then (whole c.args.samples.now) (append_then refl c.put_byte.ensures c.put_u16.ensures) c.put_values.ensures
