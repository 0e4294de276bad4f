-- Field behind field.
use Rattle.std.proofs.Common.{◌≡◌, refl, sym, ap, ◌∙◌, ◌∷◌, [], ◌++◌, ℕ, ◌<◌, ℤ, List, length, arith, mod-eq_of_lt}
use Rattle.meaning.specs.Encoding.{bytes}
use Rattle.meaning.specs.Record.{field, record_of, sample_bytes}
use Rattle.record.specs.declared.Fields.{Fields}
use Rattle.encoding.specs.Bytes.{high_first}
use Rattle.encoding.specs.Append.{append_then, room_first, room_rest}
use Rattle.writer.proofs.writing.put_fields.Goals as goal

one : (x : ℕ) → x < 256 → x ∷ [] ≡ bytes 1 x
one x h = ap (λ y. y ∷ []) (sym (mod-eq_of_lt h)) ∙ high_first 1 x

-- the record by its fields, of these bytes
parts : (n : Fields) (f : List ℤ) {R N : List ℕ} → R ≡ bytes 2 n.radius → n.inner < 256 → n.edge < 256 → n.passes < 256 → N ≡ bytes 4 n.bound → record_of n.radius n.inner n.edge n.passes n.bound f ≡ field 1 R ++ field 2 (n.inner ∷ []) ++ field 3 (n.edge ∷ []) ++ field 4 (n.passes ∷ []) ++ field 5 N ++ field 6 (sample_bytes f)
unfolding record_of
parts n f i x y z j = rw (i, one n.inner x, one n.edge y, one n.passes z, j) refl

pub put_field-requires : goal.put_field-requires
put_field-requires c =
    let n = c.args.fields in
    let r = c.to_be_bytes.ensures ∙ high_first 2 n.radius in
    let whole = parts n c.args.samples.now r (omega arith) (omega arith) (omega arith) refl in
    (room_first _ _ refl (room_first _ _ refl (room_first _ _ refl (room_first _ _ refl (room_first _ _ whole c.requires.0)))), omega (arith, ap length c.to_be_bytes.ensures))

pub put_field-requires-2 : goal.put_field-requires-2
put_field-requires-2 c =
    let n = c.args.fields in
    let r = c.to_be_bytes.ensures ∙ high_first 2 n.radius in
    let whole = parts n c.args.samples.now r (omega arith) (omega arith) (omega arith) refl in
    (room_rest _ refl (room_first _ _ refl (room_first _ _ refl (room_first _ _ refl (room_first _ _ whole c.requires.0)))) c.put_field.ensures, omega arith)

pub put_field-requires-3 : goal.put_field-requires-3
put_field-requires-3 c =
    let n = c.args.fields in
    let r = c.to_be_bytes.ensures ∙ high_first 2 n.radius in
    let whole = parts n c.args.samples.now r (omega arith) (omega arith) (omega arith) refl in
    (room_rest _ refl (room_first _ _ refl (room_first _ _ refl (room_first _ _ whole c.requires.0))) (append_then refl c.put_field.ensures c.put_field-2.ensures), omega arith)

pub put_field-requires-4 : goal.put_field-requires-4
put_field-requires-4 c =
    let n = c.args.fields in
    let r = c.to_be_bytes.ensures ∙ high_first 2 n.radius in
    let whole = parts n c.args.samples.now r (omega arith) (omega arith) (omega arith) refl in
    (room_rest _ refl (room_first _ _ refl (room_first _ _ whole c.requires.0)) (append_then refl (append_then refl c.put_field.ensures c.put_field-2.ensures) c.put_field-3.ensures), omega arith)

pub put_field-requires-5 : goal.put_field-requires-5
put_field-requires-5 c =
    let n = c.args.fields in
    let r = c.to_be_bytes.ensures ∙ high_first 2 n.radius in
    let m = c.to_be_bytes-2.ensures ∙ high_first 4 n.bound in
    let whole = parts n c.args.samples.now r (omega arith) (omega arith) (omega arith) m in
    let four = append_then refl (append_then refl (append_then refl c.put_field.ensures c.put_field-2.ensures) c.put_field-3.ensures) c.put_field-4.ensures in
    (room_rest _ refl (room_first _ _ whole c.requires.0) four, omega (arith, ap length c.to_be_bytes-2.ensures))

pub put_samples-requires : goal.put_samples-requires
put_samples-requires c =
    let n = c.args.fields in
    let r = c.to_be_bytes.ensures ∙ high_first 2 n.radius in
    let m = c.to_be_bytes-2.ensures ∙ high_first 4 n.bound in
    let whole = parts n c.args.samples.now r (omega arith) (omega arith) (omega arith) m in
    let four = append_then refl (append_then refl (append_then refl c.put_field.ensures c.put_field-2.ensures) c.put_field-3.ensures) c.put_field-4.ensures in
    (room_rest _ whole c.requires.0 (append_then refl four c.put_field-5.ensures), c.requires.1)

pub returns : goal.returns
returns c =
    let n = c.args.fields in
    let r = c.to_be_bytes.ensures ∙ high_first 2 n.radius in
    let m = c.to_be_bytes-2.ensures ∙ high_first 4 n.bound in
    let whole = parts n c.args.samples.now r (omega arith) (omega arith) (omega arith) m in
    let four = append_then refl (append_then refl (append_then refl c.put_field.ensures c.put_field-2.ensures) c.put_field-3.ensures) c.put_field-4.ensures in
    append_then whole (append_then refl four c.put_field-5.ensures) c.put_samples.ensures
