-- The job record: `reader::read_record`, `record::stretch`, `record::sample` and `writer::write_record`, each by its own contract, for all inputs.
--   ReadCall, StretchCall, SampleCall, WriteCall   any call, as its contract lets it end
--   Fields             what a record holds; recorded x is the record, Holds x that a record can hold it
--   IsRecord s         s is the record of some fields that it can hold: numbers of their widths, 1 to 1,024 samples
--   Typed              what the types of the writer's arguments say; of a slice of bytes, `Bytes`
--   bytes, job, read   what a reader was given and answered, and the fields that it answered
--   cut, from, size, stretched   what was given for a stretch, and answered;  searched, index  what was given for a sample
--   written, count, room, room_left   what a writer was given, and left;  rows  its rows of the table of numbers
--   read_number        the reader's number is 0 or 14
--   read_refused       at 14 every number is 0 and the stretch is empty
--   accepted_record, record_accepted   it is 0 exactly where the bytes are a record: no other tags, orders, lengths or trailing bytes
--   samples_read       the samples it answered, by the calls that take them out
--   write_lowest       the writer's number is 0, or that of a row that applies, and then the lowest of those
--   write_done, done_write             it is 0 exactly where there are 1 to 1,024 samples and room for just the record
--   write_position     its position is 0
--   write_unchanged    a refused writer leaves every byte as it was
--   written_record     one that is done leaves the record of its fields
--   writes_record, record_written      so what it leaves is a record, and every record is left by it
--   job_back, fields_back, samples_back   reading what was written gives back every field and every sample; samples_back by those calls
--   bytes_back         writing what an accepted record reads gives the same bytes
--   read_one, stretch_one, sample_one, write_one   two outcomes that the contract allows are the same
use Rattle.std.specs.Prelude.{ℕ, ◌*◌, ◌/◌, ◌^◌, ◌≤◌, ◌<◌, ◌≡◌, refl, ◌⊎◌, List, length, ℤ, Result, Ok, Err}
use Rattle.std.proofs.Common.{sym, ◌∙◌, subst, arith, SFits}
use Rattle.std.proofs.Math.Path.{ap}
use contract.Lifetimes.{Lfts}
use denote.Triple.Clauses.{AtExit}
use borrow.Fn.Kinds.{Dens, res_t, ended_of}
use Rattle.std.specs.Int.{w32}
use Rattle.meaning.specs.Encoding.{Bytes}
use Rattle.meaning.specs.Limits.{least, max_samples}
use Rattle.meaning.specs.Extension.{at}
use Rattle.meaning.specs.Refusals as meant
use Rattle.meaning.specs.Refusals.{Row, first_of, Applies}
use Rattle.meaning.specs.Record as R
use Rattle.meaning.specs.Record.{Recordable, job_read, not_well_formed, record_of, record_size, read_record, samples_of, sample_at, stretch, write_rows, write_record}
use Rattle.theory.specs.Refusals.{number_lowest, first_unplaced, done_off, off_done, if_done_done, if_done_refused}
use Rattle.theory.specs.Tests.{outside_no, no_outside, differs_no, no_differs}
use Rattle.theory.specs.Lists.{at_list_of}
use Rattle.theory.specs.Records.{length_record_of, read_record_of, samples_record_of, stretch_record_of, sample_at_bytes, record_of_read, read_recordable, read_number as number-either, read_refused as refused-read}
use Rattle.plan.specs.Structs.{answer_of, end_of, end_back, one_answer}
use Rattle.plan.specs.declared.Refusal.{Refusal}
use Rattle.record.specs.declared.Job.{Job}
use Rattle.record.specs.Structs.{job_of}
use Rattle.reader.proofs.read_record.Reads as read-record
use Rattle.reader.proofs.read_record.Kinds as read-kinds
use Rattle.writer.proofs.write_record.Reads as write-record
use Rattle.writer.proofs.write_record.Kinds as write-kinds
use Rattle.record.proofs.stretch.Reads as stretch-of
use Rattle.record.proofs.stretch.Kinds as stretch-kinds
use Rattle.record.proofs.sample.Reads as sample-of
use Rattle.record.proofs.sample.Kinds as sample-kinds

-- ---- calls: any call of a function, as its contract lets it end
pub record ReadCall : Type 1 where
  pub lifetimes : Lfts 1
  pub given : Dens lifetimes read-kinds.ps
  pub answered : (res_t read-kinds.r lifetimes).Denot
  pub left : AtExit (ended_of 1 read-kinds.ps read-kinds.r) lifetimes
  pub learnt : read-record.Learnt lifetimes given answered left

pub record StretchCall : Type 1 where
  pub lifetimes : Lfts 1
  pub given : Dens lifetimes stretch-kinds.ps
  pub answered : (res_t stretch-kinds.r lifetimes).Denot
  pub left : AtExit (ended_of 1 stretch-kinds.ps stretch-kinds.r) lifetimes
  pub learnt : stretch-of.Learnt lifetimes given answered left

pub record SampleCall : Type 1 where
  pub lifetimes : Lfts 1
  pub given : Dens lifetimes sample-kinds.ps
  pub answered : (res_t sample-kinds.r lifetimes).Denot
  pub left : AtExit (ended_of 1 sample-kinds.ps sample-kinds.r) lifetimes
  pub learnt : sample-of.Learnt lifetimes given answered left

pub record WriteCall : Type 1 where
  pub lifetimes : Lfts 2
  pub given : Dens lifetimes write-kinds.ps
  pub answered : (res_t write-kinds.r lifetimes).Denot
  pub left : AtExit (ended_of 2 write-kinds.ps write-kinds.r) lifetimes
  pub learnt : write-record.Learnt lifetimes given answered left

-- what a record holds: numbers and samples
pub record Fields : Type 0 where
  pub radius : ℕ
  pub inner : ℕ
  pub edge : ℕ
  pub passes : ℕ
  pub bound : ℕ
  pub samples : List ℤ

abbrev pub recorded : Fields → List ℕ
recorded x = record_of x.radius x.inner x.edge x.passes x.bound x.samples

abbrev pub Holds : Fields → Type 0
Holds x = Recordable x.radius x.inner x.edge x.passes x.bound x.samples

pub record IsRecord (s : List ℕ) : Type 0 where
  pub fields : Fields
  pub holds : Holds fields
  pub same : recorded fields ≡ s

-- "it takes unsigned numbers of the fields' widths", and samples of 32 bits
pub record Typed (x : Fields) : Type 0 where
  pub radius : x.radius < 256 ^ 2
  pub inner : x.inner < 256
  pub edge : x.edge < 256
  pub passes : x.passes < 256
  pub bound : x.bound < 256 ^ 4
  pub samples : (i : ℕ) → SFits w32 (at x.samples i)

-- what was given, answered and left
abbrev pub bytes : ReadCall → List ℕ
bytes c = c.given.0.now

abbrev pub job : ReadCall → R.Job
job c = job_of c.answered

abbrev pub read : ReadCall → Fields
read c =
    let j = job c in
    record { radius = j.radius; inner = j.inner; edge = j.edge; passes = j.passes; bound = j.bound; samples = samples_of j (bytes c) }

abbrev pub cut : StretchCall → List ℕ
cut c = c.given.0.now

abbrev pub from : StretchCall → ℕ
from c = c.given.1.0

abbrev pub size : StretchCall → ℕ
size c = c.given.1.1.0

abbrev pub stretched : StretchCall → List ℕ
stretched c = c.answered.now

abbrev pub searched : SampleCall → List ℕ
searched c = c.given.0.now

abbrev pub index : SampleCall → ℕ
index c = c.given.1.0

abbrev pub written : WriteCall → Fields
written c =
    let a = c.given in
    record { radius = a.0.radius; inner = a.0.inner; edge = a.0.edge; passes = a.0.passes; bound = a.0.bound; samples = a.1.0.now }

abbrev pub room : WriteCall → List ℕ
room c = c.given.1.1.0.now

abbrev pub room_left : WriteCall → List ℕ
room_left c = c.left.1.1.0.now

-- ---- the reader
abbrev fields_of : R.Job → List ℕ → Fields
fields_of j s = record { radius = j.radius; inner = j.inner; edge = j.edge; passes = j.passes; bound = j.bound; samples = samples_of j s }

module _ (c : ReadCall) where
  number_read : (job c).answer.number ≡ (read_record (bytes c)).answer.number
  number_read = ap (λ (j : R.Job). j.answer.number) c.learnt

  fields_read : read c ≡ fields_of (read_record (bytes c)) (bytes c)
  fields_read = ap (λ (j : R.Job). fields_of j (bytes c)) c.learnt

  pub read_number : ((job c).answer.number ≡ 0) ⊎ ((job c).answer.number ≡ 14)
  read_number = rw number_read (number-either (bytes c))

  pub read_refused : (job c).answer.number ≡ 14 → job c ≡ not_well_formed
  read_refused e = c.learnt ∙ refused-read (bytes c) (λ z. omega (arith, e, number_read))

  pub accepted_record : Bytes (bytes c) → (job c).answer.number ≡ 0 → IsRecord (bytes c)
  accepted_record h e =
      let z = sym number_read ∙ e in
      record { fields = read c; holds = subst (λ (x : Fields). Holds x) (sym fields_read) (read_recordable h z); same = ap recorded fields_read ∙ record_of_read h z }

  pub record_accepted : IsRecord (bytes c) → (job c).answer.number ≡ 0
  record_accepted x = number_read ∙ ap (λ (s : List ℕ). (read_record s).answer.number) (sym x.same) ∙ ap (λ (j : R.Job). j.answer.number) (read_record_of x.holds)

stretch_same : {b b' n n' : ℕ} {s s' : List ℕ} → b ≡ b' → n ≡ n' → s ≡ s' → stretch b n s ≡ stretch b' n' s'
stretch_same b n s = rw (b, n, s) refl

-- the samples read are what the calls answer that take the stretch out and read it
pub samples_read : (c : ReadCall) (t : StretchCall) (x : SampleCall) → cut t ≡ bytes c → from t ≡ (job c).start → size t ≡ (job c).size → searched x ≡ stretched t → index x < (job c).size / 4 → x.answered ≡ at (read c).samples (index x)
unfolding samples_of
samples_read c t x s b n i l =
    x.learnt ∙ ap (λ (y : List ℕ). sample_at y (index x)) (i ∙ t.learnt ∙ stretch_same b n s)
    ∙ sym (at_list_of ((job c).size / 4) (sample_at (stretch (job c).start (job c).size (bytes c))) (index x) l)

-- ---- the writer
abbrev pub count : WriteCall → ℕ
count c = length (written c).samples

abbrev pub rows : WriteCall → List Row
rows c = write_rows (count c) (length (room c)) (record_size (count c))

length_recorded : (x : Fields) → length (recorded x) ≡ record_size (length x.samples)
length_recorded x = length_record_of x.radius x.inner x.edge x.passes x.bound x.samples

module _ (c : WriteCall) where
  number_meant : (answer_of c.answered).number ≡ (first_of (write_rows (count c) (length (room c)) (length (recorded (written c))))).number
  unfolding write_record
  number_meant = ap (λ (x : meant.Answer). x.number) c.learnt.answer

  answer_is : answer_of c.answered ≡ first_of (rows c)
  unfolding write_record
  answer_is = c.learnt.answer ∙ ap (λ (n : ℕ). first_of (write_rows (count c) (length (room c)) n)) (length_recorded (written c))

  number_is : (answer_of c.answered).number ≡ (first_of (rows c)).number
  number_is = ap (λ (x : meant.Answer). x.number) answer_is

  pub write_lowest : (((answer_of c.answered).number ≡ 0 → ⊥) → Applies (answer_of c.answered).number (rows c)) × ((n : ℕ) → Applies n (rows c) → (answer_of c.answered).number ≤ n)
  write_lowest = number_lowest (rows c) number_is tt

  pub write_done : (answer_of c.answered).number ≡ 0 → (least ≤ count c) × (count c ≤ max_samples) × (length (room c) ≡ record_size (count c))
  write_done e =
      let off = done_off (rows c) tt (sym number_is ∙ e) in
      let few = outside_no least max_samples (count c) off.0 in
      (few.0, few.1, differs_no (length (room c)) (record_size (count c)) off.1.0)

  pub done_write : least ≤ count c → count c ≤ max_samples → length (room c) ≡ record_size (count c) → (answer_of c.answered).number ≡ 0
  done_write l m e = number_is ∙ ap (λ (x : meant.Answer). x.number) (off_done (rows c) (no_outside l m, (no_differs e, tt)))

  pub write_position : (answer_of c.answered).position ≡ 0
  write_position = ap (λ (x : meant.Answer). x.position) answer_is ∙ first_unplaced 9 (rows c) tt

  pub write_unchanged : ((answer_of c.answered).number ≡ 0 → ⊥) → room_left c ≡ room c
  unfolding write_record
  write_unchanged n = c.learnt.slice ∙ if_done_refused _ _ _ (λ e. n (number_meant ∙ e))

  pub written_record : (answer_of c.answered).number ≡ 0 → room_left c ≡ recorded (written c)
  unfolding write_record
  written_record e = c.learnt.slice ∙ if_done_done _ _ _ (sym number_meant ∙ e)

  fits : Typed (written c) → (answer_of c.answered).number ≡ 0 → Holds (written c)
  fits t e =
      let done = write_done e in
      record { radius = t.radius; inner = t.inner; edge = t.edge; passes = t.passes; bound = t.bound; samples = t.samples; enough = done.0; few = done.1 }

  pub writes_record : Typed (written c) → (answer_of c.answered).number ≡ 0 → IsRecord (room_left c)
  writes_record t e = record { fields = written c; holds = fits t e; same = sym (written_record e) }

  pub record_written : {s : List ℕ} (x : IsRecord s) → written c ≡ x.fields → length (room c) ≡ length s → ((answer_of c.answered).number ≡ 0) × (room_left c ≡ s)
  record_written x e n =
      let same = ap recorded e ∙ x.same in
      let some = ap (λ (y : Fields). length y.samples) e in
      let done = done_write (omega (arith, some, x.holds.enough)) (omega (arith, some, x.holds.few)) (n ∙ ap length (sym same) ∙ length_recorded (written c)) in
      (done, written_record done ∙ same)

-- ---- each undoes the other
fields_recorded : (x : Fields) → Holds x → fields_of (read_record (recorded x)) (recorded x) ≡ x
fields_recorded x ok =
    let e = read_record_of ok in
    same (ap (λ (i : R.Job). i.radius) e) (ap (λ (i : R.Job). i.inner) e) (ap (λ (i : R.Job). i.edge) e) (ap (λ (i : R.Job). i.passes) e) (ap (λ (i : R.Job). i.bound) e) (samples_record_of ok)
  where
    same : {r r' b b' a a' k k' m m' : ℕ} {f f' : List ℤ} → r ≡ r' → b ≡ b' → a ≡ a' → k ≡ k' → m ≡ m' → f ≡ f' → ◌≡◌ {A = Fields} (record { radius = r; inner = b; edge = a; passes = k; bound = m; samples = f }) (record { radius = r'; inner = b'; edge = a'; passes = k'; bound = m'; samples = f' })
    same r b a k m f = rw (r, b, a, k, m, f) refl

-- a read of what a writer left that was done
module _ (w : WriteCall) (c : ReadCall) (typed : Typed (written w)) (done : (answer_of w.answered).number ≡ 0) (same : bytes c ≡ room_left w) where
  record_is : bytes c ≡ recorded (written w)
  record_is = same ∙ written_record w done

  pub job_back : job c ≡ job_read (written w).radius (written w).inner (written w).edge (written w).passes (written w).bound 27 (4 * count w)
  job_back = c.learnt ∙ ap read_record record_is ∙ read_record_of (fits w typed done)

  pub fields_back : read c ≡ written w
  fields_back = fields_read c ∙ ap (λ (s : List ℕ). fields_of (read_record s) s) record_is ∙ fields_recorded (written w) (fits w typed done)

  -- through the calls that take the stretch out and read it
  pub samples_back : (t : StretchCall) (x : SampleCall) → cut t ≡ bytes c → from t ≡ (job c).start → size t ≡ (job c).size → searched x ≡ stretched t → x.answered ≡ at (written w).samples (index x)
  samples_back t x s b n i =
      let y = written w in
      let stood = stretch_same (b ∙ ap (λ (j : R.Job). j.start) job_back) (n ∙ ap (λ (j : R.Job). j.size) job_back) (s ∙ record_is) in
      let inside = i ∙ t.learnt ∙ stood ∙ stretch_record_of y.radius y.inner y.edge y.passes y.bound y.samples in
      x.learnt ∙ ap (λ (l : List ℕ). sample_at l (index x)) inside ∙ sample_at_bytes y.samples typed.samples (index x)

pub bytes_back : (c : ReadCall) (w : WriteCall) → Bytes (bytes c) → (job c).answer.number ≡ 0 → written w ≡ read c → length (room w) ≡ length (bytes c) → ((answer_of w.answered).number ≡ 0) × (room_left w ≡ bytes c)
unfolding accepted_record
bytes_back c w h e f n = record_written w (accepted_record c h e) f n

-- ---- one outcome
abbrev outcome : Fields → List ℕ → R.Written
outcome x s = write_record x.radius x.inner x.edge x.passes x.bound x.samples s

outcome_same : {x y : Fields} {s t : List ℕ} → x ≡ y → s ≡ t → outcome x s ≡ outcome y t
outcome_same e f = rw (e, f) refl

abbrev coded : R.Job → Result Job Refusal
coded j = end_of (record { fields = record { radius = j.radius; inner = j.inner; edge = j.edge; passes = j.passes; bound = j.bound }; start = j.start; size = j.size }) j.answer

coded_back : (r : Result Job Refusal) → coded (job_of r) ≡ r
coded_back (Ok j) = refl
coded_back (Err e) = end_back (record { fields = record { radius = 0; inner = 0; edge = 0; passes = 0; bound = 0 }; start = 0; size = 0 }) (Err e)

pub read_one : (c d : ReadCall) → bytes c ≡ bytes d → c.answered ≡ d.answered
read_one c d e = sym (coded_back c.answered) ∙ ap coded (c.learnt ∙ ap read_record e ∙ sym d.learnt) ∙ coded_back d.answered

pub stretch_one : (c d : StretchCall) → cut c ≡ cut d → from c ≡ from d → size c ≡ size d → stretched c ≡ stretched d
stretch_one c d s b n = c.learnt ∙ stretch_same b n s ∙ sym d.learnt

pub sample_one : (c d : SampleCall) → searched c ≡ searched d → index c ≡ index d → c.answered ≡ d.answered
sample_one c d s i = c.learnt ∙ ap (λ (l : List ℕ). sample_at l (index c)) s ∙ ap (sample_at (searched d)) i ∙ sym d.learnt

pub write_one : (c d : WriteCall) → written c ≡ written d → room c ≡ room d → (c.answered ≡ d.answered) × (room_left c ≡ room_left d)
write_one c d f o =
    let same = outcome_same f o in
    (one_answer _ _ (c.learnt.answer ∙ ap (λ (x : R.Written). x.answer) same ∙ sym d.learnt.answer), c.learnt.slice ∙ ap (λ (x : R.Written). x.slice) same ∙ sym d.learnt.slice)
