-- Four bytes as a signed number.
use Rattle.std.proofs.Common.{◌≡◌, refl, sym, ◌∙◌, ap, ℕ, zero, suc, ◌+◌, ◌*◌, ◌<◌, List, [], take, drop, get_or, drop-drop, arith, to_z, to_z-of_z, length, ◌/◌}
use Rattle.std.specs.Int.{w32}
use Rattle.std.specs.Simd.{first_chunks}
use borrow.Author.Rules.{sfits_of}
use Rattle.meaning.specs.Encoding.{number}
use Rattle.theory.specs.Records.{sample_at_in, sample_at_past}
use Rattle.record.proofs.sample.Goals as goal

chunk_at : (k i : ℕ) (s : List ℕ) → i < k → get_or (first_chunks 4 k s) i [] ≡ take 4 (drop (4 * i) s)
chunk_at zero i s h = absurd (omega arith)
chunk_at (suc k) zero s h = refl
chunk_at (suc k) (suc i) s h =
    let place : 4 * suc i ≡ 4 + 4 * i = omega arith in
    rw (place, ← drop-drop (4 * i) 4 s) (chunk_at k i (drop 4 s) (omega arith))

pub returns-then-i-samples : goal.returns-then-i-samples
returns-then-i-samples c =
    let s = c.args.stretch.now in
    let i = c.args.i in
    let chunks = c.as_chunks.ensures in
    let within : i < length s / 4 = omega (arith, c.if-i-samples.true, ap length chunks.front, chunks.front_len) in
    to_z-of_z {w = w32} (sfits_of c.signed.type_inv) ∙ c.signed.ensures
    ∙ ap (λ l. to_z w32 (number l)) (ap (λ l. get_or l i []) chunks.front ∙ chunk_at _ i s within)
    ∙ sym (sample_at_in s i within)

pub returns-else-i-samples : goal.returns-else-i-samples
returns-else-i-samples c = sym (sample_at_past c.args.stretch.now c.args.i (omega (arith, c.if-i-samples.false, c.as_chunks.ensures.front_len)))
