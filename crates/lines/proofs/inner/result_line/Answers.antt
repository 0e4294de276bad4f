-- Index and result stand one behind the other, each with the byte that ends it.
use Rattle.std.proofs.Common.{◌≡◌, ℕ, ℤ, [], ◌∷◌, ◌++◌, Fits, SFits, to_z, of_z, to_z-of_z, ◌∙◌, append_assoc, pos}
use Rattle.std.specs.Int.{w64}
use Rattle.std.specs.Fmt.{decimal, signed_decimal}
use Rattle.meaning.specs.Encoding as M
use Rattle.meaning.specs.Program.{result_lines}
use Rattle.encoding.specs.Append.{append_then, room_first, room_rest}
use Rattle.theory.specs.Programs.{line_words}
use Rattle.text.specs.Decimals.{of_unsigned, of_signed}
use Rattle.lines.proofs.inner.result_line.Goals as goal

line : {i : ℕ} {z : ℤ} → Fits w64 i → SFits w64 z → result_lines i (z ∷ []) ≡ (decimal i ++ 32 ∷ []) ++ (signed_decimal (to_z w64 (of_z w64 z)) ++ 10 ∷ [])
line {i} {z} f g = rw (of_unsigned f, to_z-of_z {w = w64} g, of_signed g) (line_words i z ∙ append_assoc (M.decimal (pos i) ++ 32 ∷ []) (M.decimal z) (10 ∷ []))

pub put_word-requires : goal.put_word-requires
put_word-requires c = room_first _ _ (line c.ranges.index c.ranges.res) c.requires

pub put_word-requires-2 : goal.put_word-requires-2
put_word-requires-2 c = room_rest _ (line c.ranges.index c.ranges.res) c.requires c.put_word.ensures

pub returns : goal.returns
returns c = append_then (line c.ranges.index c.ranges.res) c.put_word.ensures c.put_word-2.ensures
