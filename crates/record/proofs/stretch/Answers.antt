-- A start or a size beyond the end reads no more than one at it.
use Rattle.std.proofs.Common.{◌≡◌, refl, sym, ◌∙◌, ap, ℕ, ◌-◌, ◌<◌, min, List, length, take, drop, length-drop, drop_of_length-le, take_all, arith}
use native.Mathlib.Decide.{dec_lt}
use Rattle.meaning.specs.Record.{stretch}
use Rattle.record.proofs.stretch.Goals as goal

take_least : (n : ℕ) (l : List ℕ) {k : ℕ} → k ≡ min n (length l) → take k l ≡ take n l
take_least n l {k} e = go (dec_lt n (length l))
  where
    go : Dec (n < length l) → take k l ≡ take n l
    go (yes h) = let same : k ≡ n = omega arith in rw same refl
    go (no h) = take_all k l (omega arith) ∙ sym (take_all n l (omega arith))

drop_least : (n : ℕ) (l : List ℕ) {k : ℕ} → k ≡ min n (length l) → drop k l ≡ drop n l
drop_least n l {k} e = go (dec_lt n (length l))
  where
    go : Dec (n < length l) → drop k l ≡ drop n l
    go (yes h) = let same : k ≡ n = omega arith in rw same refl
    go (no h) = drop_of_length-le l {i = k} (omega arith) ∙ sym (drop_of_length-le l {i = n} (omega arith))

pub returns : goal.returns
unfolding stretch
returns c =
    let a = c.args in
    let s = a.bytes.now in
    let from = c.min.result in
    let behind = take_all (length s - from) (drop from s) (omega (arith, length-drop from s)) ∙ drop_least a.start s c.min.ensures in
    take_least a.size _ c.min-2.ensures ∙ ap (take a.size) behind
