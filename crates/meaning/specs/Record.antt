-- The job record, a list of bytes, all numbers high byte first.
--   field t v         a field of tag t and value v
--   sample_bytes f     the bytes of samples
--   sample_at s i      sample i of such bytes; 0 where there are not its four
--   record_of          the record of radius, inner and edge weight, passes, bound and samples
--   record_size N      its length, with N samples
--   Recordable        these are of their fields' widths, and a record holds as many samples
--   Job               what the reader answers: the numbers, and the stretch that holds the samples, its start and size in bytes
--   stretch start size s   that stretch of s, as much of it as s has
--   samples_of j s     the samples of s, of which the reader answered j
--   job_read           that answer of a record read to its end; not_well_formed  the answer 14
--   begins t n s      s begins with a field of tag t and n bytes
--   reading t n s k   k, given the number in that field and what stands behind it; else 14
--   holds_samples s    s is the field of the samples, and no more
--   read_record        the reader's outcome
--   write_record       the writer's outcome, a Written: the answer, and the lent slice afterwards; its rows are write_rows
use Rattle.std.specs.Prelude.{ℕ, ◌+◌, ◌-◌, ◌*◌, ◌/◌, ◌%◌, ◌^◌, ◌≤◌, ◌<◌, Bool, cond, not, ◌&&◌, List, [], ◌∷◌, ◌++◌, leb, ltb, eqb, length, take, drop, ℤ, pos}
use Rattle.std.specs.Int.{w32}
use Rattle.std.proofs.Common.{SFits, of_z, to_z}
use Rattle.meaning.specs.Limits.{least, max_samples}
use Rattle.meaning.specs.Encoding.{bytes, number}
use Rattle.meaning.specs.Extension.{at}
use Rattle.meaning.specs.Smoothing.{list_of}
use Rattle.meaning.specs.Refusals.{Answer, Row, ◌when◌, first_of, outside, differs, if_done}

-- "one-byte tag, two-byte length, value"
unfoldable pub field : ℕ → List ℕ → List ℕ
field tag value = tag ∷ bytes 2 (length value) ++ value

-- "6 samples (4 each, two's complement; 1 to 1,024 samples)"
unfoldable pub sample_bytes : List ℤ → List ℕ
sample_bytes [] = []
sample_bytes (z ∷ f) = bytes 4 (of_z w32 z) ++ sample_bytes f

unfoldable pub sample_at : List ℕ → ℕ → ℤ
sample_at s i = cond (ltb i (length s / 4)) (to_z w32 (number (take 4 (drop (4 * i) s)))) (pos 0)

-- "Fields in this order, each once"
unfoldable pub record_of : ℕ → ℕ → ℕ → ℕ → ℕ → List ℤ → List ℕ
record_of r b a K M f = field 1 (bytes 2 r) ++ field 2 (bytes 1 b) ++ field 3 (bytes 1 a) ++ field 4 (bytes 1 K) ++ field 5 (bytes 4 M) ++ field 6 (sample_bytes f)

-- its length: six heads of three bytes, nine bytes of numbers, four a sample
abbrev pub record_size : ℕ → ℕ
record_size N = 27 + 4 * N

-- "it takes unsigned numbers of the fields' widths"
pub record Recordable (r b a K M : ℕ) (f : List ℤ) : Type 0 where
  pub radius : r < 256 ^ 2
  pub inner : b < 256
  pub edge : a < 256
  pub passes : K < 256
  pub bound : M < 256 ^ 4
  pub samples : (i : ℕ) → SFits w32 (at f i)
  pub enough : least ≤ length f
  pub few : length f ≤ max_samples

pub record Job : Type 0 where
  pub answer : Answer
  pub radius : ℕ
  pub inner : ℕ
  pub edge : ℕ
  pub passes : ℕ
  pub bound : ℕ
  pub start : ℕ
  pub size : ℕ

-- of a record read to its end
abbrev pub job_read : ℕ → ℕ → ℕ → ℕ → ℕ → ℕ → ℕ → Job
job_read r b a K M start size = record { answer = record { number = 0; position = 0; bad = 0 }; radius = r; inner = b; edge = a; passes = K; bound = M; start = start; size = size }

-- "at 14 the numbers are 0 and the stretch is empty"
abbrev pub not_well_formed : Job
not_well_formed = record { answer = record { number = 14; position = 0; bad = 0 }; radius = 0; inner = 0; edge = 0; passes = 0; bound = 0; start = 0; size = 0 }

-- "the stretch of the record that holds the samples"
unfoldable pub stretch : ℕ → ℕ → List ℕ → List ℕ
stretch start size s = take size (drop start s)

unfoldable pub samples_of : Job → List ℕ → List ℤ
samples_of j s = list_of (j.size / 4) (sample_at (stretch j.start j.size s))

unfoldable pub begins : ℕ → ℕ → List ℕ → Bool
begins tag n s = eqb (number (take 1 s)) tag && eqb (number (take 2 (drop 1 s))) n && leb (3 + n) (length s)

unfoldable pub reading : ℕ → ℕ → List ℕ → (ℕ → List ℕ → Job) → Job
reading tag n s next = cond (begins tag n s) (next (number (take n (drop 3 s))) (drop (3 + n) s)) not_well_formed

-- the samples take all that is left, so nothing can trail them
abbrev pub holds_samples : List ℕ → Bool
holds_samples s = let n = length s - 3 in begins 6 n s && eqb (n % 4) 0 && not (outside least max_samples (n / 4))

-- "Other tags, orders, lengths or trailing bytes are 14."
unfoldable pub read_record : List ℕ → Job
read_record s =
    reading 1 2 s λ r s₁.
    reading 2 1 s₁ λ b s₂.
    reading 3 1 s₂ λ a s₃.
    reading 4 1 s₃ λ K s₄.
    reading 5 4 s₄ λ M s₅.
    let n = length s₅ - 3 in
    cond (holds_samples s₅) (job_read r b a K M (length s - n) n) not_well_formed

pub record Written : Type 0 where
  pub answer : Answer
  pub slice : List ℕ

-- "refuses with 7 for a sample count it cannot hold, with 8 for a slice not of the exact record length"
abbrev pub write_rows : ℕ → ℕ → ℕ → List Row
write_rows N room asked = (7 when outside least max_samples N) ∷ (8 when differs room asked) ∷ []

unfoldable pub write_record : ℕ → ℕ → ℕ → ℕ → ℕ → List ℤ → List ℕ → Written
write_record r b a K M f old =
    let new = record_of r b a K M f in
    let answer = first_of (write_rows (length f) (length old) (length new)) in
    record { answer = answer; slice = if_done answer new old }
