-- The name and three numbers stand one behind the other, and the whole line has room.
use Rattle.std.proofs.Common.{◌≡◌, refl, ℕ, [], ◌∷◌, ◌++◌, Fits}
use Rattle.std.specs.Int.{w64}
use Rattle.std.specs.Fmt.{decimal}
use Rattle.meaning.specs.Encoding.{text}
use Rattle.meaning.specs.Program.{first_line}
use Rattle.encoding.specs.Append.{append_then, room_first, room_rest}
use Rattle.theory.specs.Programs.{first_line_words}
use Rattle.text.specs.Decimals.{of_unsigned}
use Rattle.lines.proofs.inner.first_line.Goals as goal

line : {a b c : ℕ} → Fits w64 a → Fits w64 b → Fits w64 c → first_line a b c ≡ text "smooth " ++ (decimal a ++ 32 ∷ []) ++ (decimal b ++ 32 ∷ []) ++ (decimal c ++ 10 ∷ [])
line {a} {b} {c} f g h = rw (of_unsigned f, of_unsigned g, of_unsigned h) (first_line_words a b c)

pub put_bytes-requires : goal.put_bytes-requires
unfolding text
put_bytes-requires c = room_first _ (decimal c.args.number ++ 32 ∷ []) refl (room_first _ (decimal c.args.second ++ 32 ∷ []) refl (room_first _ _ (line c.ranges.number c.ranges.second c.ranges.third) c.requires))

pub put_word-requires : goal.put_word-requires
unfolding text
put_word-requires c = room_rest _ refl (room_first _ _ refl (room_first _ _ (line c.ranges.number c.ranges.second c.ranges.third) c.requires)) c.put_bytes.ensures

pub put_word-requires-2 : goal.put_word-requires-2
unfolding text
put_word-requires-2 c = room_rest _ refl (room_first _ _ (line c.ranges.number c.ranges.second c.ranges.third) c.requires) (append_then refl c.put_bytes.ensures c.put_word.ensures)

pub put_word-requires-3 : goal.put_word-requires-3
unfolding text
put_word-requires-3 c = room_rest _ (line c.ranges.number c.ranges.second c.ranges.third) c.requires (append_then refl (append_then refl c.put_bytes.ensures c.put_word.ensures) c.put_word-2.ensures)

pub returns : goal.returns
unfolding text
returns c = append_then (line c.ranges.number c.ranges.second c.ranges.third) (append_then refl (append_then refl c.put_bytes.ensures c.put_word.ensures) c.put_word-2.ensures) c.put_word-3.ensures
