-- The job record: what is written is read, and what is read as done was written.
--   Stretch s j   the samples of s, read as j, stand up to its end, and are no more than allowed
-- Laws: length_field; length_sample_bytes, sample_bytes_next (one sample more); sample_at_in, sample_at_past;
-- sample_at_bytes (a sample from the bytes of samples); length_record_of; length_stretch;
-- read_record_of, stretch_record_of, samples_record_of (what is written is read);
-- read_written (what holds of every record written holds of one read as done), record_of_read, read_recordable;
-- read_number, read_refused (done or not well-formed), read_stretch (of a done one).
use Rattle.std.specs.Prelude.{◌≡◌, ◌⊎◌, Bool, true, false, cond, ℤ, pos}
use Rattle.std.proofs.Math.Path.{refl}
use Rattle.std.proofs.Common.{sym, ◌∙◌, ap₂, inl, inr, ⊎_elim, add-one, length-take, take-append-drop, drop_of_length-le, drop_at, length-take-le, take-suc, Fits, SFits, of_z, to_z, to_z-of_z}
use Rattle.std.proofs.Math.Logic.{⊎_map}
use mathlib.Core.List.{List, [], ◌∷◌, ◌++◌, append-nil, append_assoc}
use Prim.Native.Nat.{ℕ, zero, suc, ◌+◌, ◌-◌, ◌*◌, ◌/◌, ◌%◌, ◌^◌, ◌≤◌, ◌<◌}
use Rattle.std.proofs.Math.Decide.{dec_lt}
use native.Mathlib.Omega.{arith}
use Rattle.std.proofs.Math.Dec.{leb-suc-suc}
use Rattle.std.proofs.Math.ListN.{length, take, drop, length-append, length-drop}
use Rattle.std.proofs.Math.Seq.{take_at, drop-drop, take-length}
use borrow.Author.Tests.{leb-true, eqb-true, lt-ltb, le-ltb, le-leb, eq-eqb, not-true}
use Rattle.std.specs.Int.{w32}
use Rattle.std.proofs.Math.Facts.{of_z-to_z, Fits-of_z, sfits_to_z, sfits_lit}
use Rattle.meaning.specs.Limits.{least, max_samples}
use Rattle.meaning.specs.Encoding.{bytes, number, Bytes}
use Rattle.meaning.specs.Extension.{at}
use Rattle.meaning.specs.Smoothing.{list_of}
use Rattle.meaning.specs.Record.{field, sample_bytes, sample_at, record_of, record_size, Recordable, Job, job_read, not_well_formed, stretch, samples_of, begins, holds_samples, reading, read_record}
use Rattle.theory.specs.Lists.{length_list_of, at_list_of, list_of_ext, list_of_at, at_past}
use Rattle.theory.specs.Refusals.{done}
use Rattle.theory.specs.Tests.{outside_no, no_outside, and_yes, yes_and}
use Rattle.theory.specs.Encoding.{bytes_take, bytes_drop, length_bytes, number_below, number_bytes, bytes_number}

-- ---- a field
module _ (t : ℕ) (v : List ℕ) where
  pub length_field : length (field t v) ≡ 3 + length v
  unfolding field bytes
  length_field = omega arith

  module _ (rest : List ℕ) where
    value_field : take (length v) (drop 3 (field t v ++ rest)) ≡ v
    unfolding field bytes
    value_field = take_at v rest (length v) refl

    rest_field : drop (3 + length v) (field t v ++ rest) ≡ rest
    rest_field = drop_at (field t v) rest (3 + length v) length_field

    begins_field : length v < 256 ^ 2 → begins t (length v) (field t v ++ rest) ≡ true
    unfolding begins field bytes number
    begins_field l =
        let tag : t * 1 + 0 ≡ t = omega arith in
        let room : 3 + length v ≤ length (field t v ++ rest) = omega (arith, length-append v rest) in
        yes_and (yes_and (eq-eqb _ _ tag) (eq-eqb _ _ (number_bytes 2 (length v) l))) (le-leb _ _ room)

module _ (t n : ℕ) where
  begun : (s : List ℕ) → begins t n s ≡ true → (number (take 1 s) ≡ t) × (number (take 2 (drop 1 s)) ≡ n) × (3 + n ≤ length s)
  unfolding begins
  begun s e =
      let (h, k) = and_yes _ _ e in
      let (a, b) = and_yes _ _ h in
      (eqb-true _ _ a, eqb-true _ _ b, leb-true _ _ k)

  length_value : (s : List ℕ) → begins t n s ≡ true → length (take n (drop 3 s)) ≡ n
  length_value s e = length-take-le n (drop 3 s) (omega (arith, (begun s e).2, length-drop 3 s))

  field_begins : {s : List ℕ} → Bytes s → begins t n s ≡ true → s ≡ field t (take n (drop 3 s)) ++ drop (3 + n) s
  unfolding field number bytes
  field_begins {s = []} h e = absurd (omega (arith, (begun [] e).2))
  field_begins {s = a ∷ []} h e = absurd (omega (arith, (begun (a ∷ []) e).2))
  field_begins {s = a ∷ b ∷ []} h e = absurd (omega (arith, (begun (a ∷ b ∷ []) e).2))
  field_begins {s = a ∷ b ∷ c ∷ s} h e =
      let all = a ∷ b ∷ c ∷ s in
      let (tag, size, l) = begun all e in
      let first : t ≡ a = omega arith in
      let front : bytes 2 n ≡ b ∷ c ∷ [] = rw size at (bytes_number (b ∷ c ∷ []) (bytes_take 2 (bytes_drop 1 h))) in
      let rest : take n s ++ drop (3 + n) all ≡ s = rw (← drop-drop n 3 all) (take-append-drop n s) in
      rw (length_value all e) (sym (ap₂ (λ (x y : List ℕ). x ++ y) (ap₂ ◌∷◌ first front) rest))

-- ---- a field, read
module _ (t n : ℕ) (s : List ℕ) (k : ℕ → List ℕ → Job) where
  reading_yes : begins t n s ≡ true → reading t n s k ≡ k (number (take n (drop 3 s))) (drop (3 + n) s)
  unfolding reading
  reading_yes e = rw e

-- ---- samples
pub length_sample_bytes : (f : List ℤ) → length (sample_bytes f) ≡ 4 * length f
unfolding sample_bytes bytes
length_sample_bytes [] = refl
length_sample_bytes (z ∷ f) = omega (arith, length_sample_bytes f)

sample_bytes_append : (f g : List ℤ) → sample_bytes (f ++ g) ≡ sample_bytes f ++ sample_bytes g
unfolding sample_bytes
sample_bytes_append [] g = refl
sample_bytes_append (z ∷ f) g = rw (sample_bytes_append f g, append_assoc)

pub sample_bytes_next : (f : List ℤ) (i : ℕ) → i < length f → sample_bytes (take (i + 1) f) ≡ sample_bytes (take i f) ++ bytes 4 (of_z w32 (at f i))
unfolding sample_bytes
sample_bytes_next f i l = rw (add-one, take-suc f i (pos 0), sample_bytes_append, append-nil)

module _ (s : List ℕ) where
  pub sample_at_in : (i : ℕ) → i < length s / 4 → sample_at s i ≡ to_z w32 (number (take 4 (drop (4 * i) s)))
  unfolding sample_at
  sample_at_in i l = rw (lt-ltb i (length s / 4) l)

  pub sample_at_past : (i : ℕ) → length s / 4 ≤ i → sample_at s i ≡ pos 0
  unfolding sample_at
  sample_at_past i l = rw (le-ltb i (length s / 4) l)

  sample_at_later : 4 ≤ length s → (i : ℕ) → sample_at s (suc i) ≡ sample_at (drop 4 s) i
  unfolding sample_at
  sample_at_later l i =
      let size : length s / 4 ≡ suc (length (drop 4 s) / 4) = omega (arith, length-drop 4 s) in
      let place : 4 * suc i ≡ 4 + 4 * i = omega arith in
      rw (size, leb-suc-suc (suc i) (length (drop 4 s) / 4), place, drop-drop (4 * i) 4 s)

pub sample_at_bytes : (f : List ℤ) → ((i : ℕ) → SFits w32 (at f i)) → (i : ℕ) → sample_at (sample_bytes f) i ≡ at f i
unfolding sample_bytes bytes
sample_at_bytes [] h i = sample_at_past [] i (omega arith)
sample_at_bytes (z ∷ f) h zero = sample_at_in (sample_bytes (z ∷ f)) 0 (omega arith) ∙ rw (number_bytes 4 (of_z w32 z) (Fits-of_z (h 0)).fits) (to_z-of_z (h 0))
sample_at_bytes (z ∷ f) h (suc i) = sample_at_later (sample_bytes (z ∷ f)) (omega arith) i ∙ sample_at_bytes f (λ i. h (suc i)) i

samples_bytes : (f : List ℤ) → ((i : ℕ) → SFits w32 (at f i)) → list_of (length f) (sample_at (sample_bytes f)) ≡ f
samples_bytes f h = list_of_ext (length f) (λ i l. sample_at_bytes f h i) ∙ list_of_at (length f) f refl

-- four bytes are the bits of a sample
four_fit : {v : List ℕ} → Bytes v → length v ≡ 4 → Fits w32 (number v)
four_fit {v} h e = record { fits = rw e at (number_below v h) }

sample_at_fits : {s : List ℕ} → Bytes s → (i : ℕ) → SFits w32 (sample_at s i)
sample_at_fits {s} h i = go (dec_lt i (length s / 4))
  where
    go : Dec (i < length s / 4) → SFits w32 (sample_at s i)
    go (yes l) =
        let four : length (take 4 (drop (4 * i) s)) ≡ 4 = length-take-le 4 (drop (4 * i) s) (omega (arith, length-drop (4 * i) s)) in
        rw (sample_at_in s i l) (sfits_to_z (four_fit (bytes_take 4 (bytes_drop (4 * i) h)) four))
    go (no l) = rw (sample_at_past s i (omega arith)) (sfits_lit tt)

samples_fit : (n : ℕ) {s : List ℕ} → Bytes s → (i : ℕ) → SFits w32 (at (list_of n (sample_at s)) i)
samples_fit n {s} h i = go (dec_lt i n)
  where
    go : Dec (i < n) → SFits w32 (at (list_of n (sample_at s)) i)
    go (yes l) = rw (at_list_of n (sample_at s) i l) (sample_at_fits h i)
    go (no l) = rw (at_past (list_of n (sample_at s)) i (omega (arith, length_list_of n (sample_at s)))) (sfits_lit tt)

bytes_samples : (n : ℕ) {s : List ℕ} → Bytes s → length s ≡ 4 * n → sample_bytes (list_of n (sample_at s)) ≡ s
unfolding sample_bytes list_of
bytes_samples zero {s = []} h e = refl
bytes_samples zero {s = a ∷ s} h e = let no : ⊥ = omega arith in absurd no
bytes_samples (suc n) {s} h e =
    let l : 4 ≤ length s = omega arith in
    let four : length (take 4 s) ≡ 4 = length-take-le 4 s l in
    let first : bytes 4 (of_z w32 (sample_at s 0)) ≡ take 4 s = rw (sample_at_in s 0 (omega arith), of_z-to_z (four_fit (bytes_take 4 h) four)) (rw four at (bytes_number (take 4 s) (bytes_take 4 h))) in
    let rest : sample_bytes (list_of n (λ i. sample_at s (suc i))) ≡ drop 4 s = rw (list_of_ext n (λ i m. sample_at_later s l i)) (bytes_samples n (bytes_drop 4 h) (omega (arith, length-drop 4 s))) in
    ap₂ (λ (x y : List ℕ). x ++ y) first rest ∙ take-append-drop 4 s

-- ---- the record that is written
pub length_record_of : (r b a K M : ℕ) (f : List ℤ) → length (record_of r b a K M f) ≡ record_size (length f)
unfolding record_of field bytes
length_record_of r b a K M f = omega (arith, length_sample_bytes f)

-- a number of its field's width is read as it was written
reading_number : (t n : ℕ) {x : ℕ} (rest : List ℕ) (k : ℕ → List ℕ → Job) → x < 256 ^ n → n < 256 ^ 2 → reading t n (field t (bytes n x) ++ rest) k ≡ k x rest
reading_number t n {x} rest k h l =
    let v = bytes n x in
    let size = length_bytes n x in
    let value : take n (drop 3 (field t v ++ rest)) ≡ v = rw size at (value_field t v rest) in
    let behind : drop (3 + n) (field t v ++ rest) ≡ rest = rw size at (rest_field t v rest) in
    reading_yes t n (field t v ++ rest) k (rw size at (begins_field t v rest (rw size l))) ∙ rw (value, behind, number_bytes n x h)

holds_samples_lem : (f : List ℤ) → least ≤ length f → length f ≤ max_samples → holds_samples (field 6 (sample_bytes f)) ≡ true
holds_samples_lem f l m =
    let v = sample_bytes f in
    let n : length (field 6 v) - 3 ≡ 4 * length f = omega (arith, length_field 6 v, length_sample_bytes f) in
    let few : length v < 256 ^ 2 = omega (arith, length_sample_bytes f) in
    let front : begins 6 (4 * length f) (field 6 v) ≡ true = rw (append-nil, length_sample_bytes f) at (begins_field 6 v [] few) in
    let fours : 4 * length f % 4 ≡ 0 = omega arith in
    let count : 4 * length f / 4 ≡ length f = omega arith in
    rw (n, front, fours, count, no_outside l m)

pub read_record_of : {r b a K M : ℕ} {f : List ℤ} → Recordable r b a K M f → read_record (record_of r b a K M f) ≡ job_read r b a K M 27 (4 * length f)
unfolding read_record record_of field bytes
read_record_of {r} {b} {a} {K} {M} {f} ok =
    let s₅ = field 6 (sample_bytes f) in
    let s₄ = field 5 (bytes 4 M) ++ s₅ in
    let s₃ = field 4 (bytes 1 K) ++ s₄ in
    let s₂ = field 3 (bytes 1 a) ++ s₃ in
    let s₁ = field 2 (bytes 1 b) ++ s₂ in
    let size : length s₅ - 3 ≡ 4 * length f = omega (arith, length_sample_bytes f) in
    let start : length (record_of r b a K M f) - (length s₅ - 3) ≡ 27 = omega arith in
    reading_number 1 2 s₁ _ ok.radius (omega arith)
    ∙ reading_number 2 1 s₂ _ ok.inner (omega arith)
    ∙ reading_number 3 1 s₃ _ ok.edge (omega arith)
    ∙ reading_number 4 1 s₄ _ ok.passes (omega arith)
    ∙ reading_number 5 4 s₅ _ ok.bound (omega arith)
    ∙ rw (holds_samples_lem f ok.enough ok.few, start, size)

pub length_stretch : (start size : ℕ) (s : List ℕ) → length (stretch start size s) ≤ length s
unfolding stretch
length_stretch start size s = omega (arith, length-take size (drop start s), length-drop start s)

pub stretch_record_of : (r b a K M : ℕ) (f : List ℤ) → stretch 27 (4 * length f) (record_of r b a K M f) ≡ sample_bytes f
unfolding stretch record_of field bytes
stretch_record_of r b a K M f = rw (← length_sample_bytes f) (take-length (sample_bytes f))

pub samples_record_of : {r b a K M : ℕ} {f : List ℤ} → Recordable r b a K M f → samples_of (read_record (record_of r b a K M f)) (record_of r b a K M f) ≡ f
unfolding samples_of
samples_record_of {r} {b} {a} {K} {M} {f} ok =
    let count : 4 * length f / 4 ≡ length f = omega arith in
    rw (read_record_of ok, stretch_record_of r b a K M f, count) (samples_bytes f ok.samples)

-- ---- the record that is read
-- what holds of 14, and where a test passes of what comes then, holds of both together
if_passed : (P : Job → Type 0) (b : Bool) {j : Job} → P not_well_formed → (b ≡ true → P j) → P (cond b j not_well_formed)
if_passed P true refused next = next refl
if_passed P false refused next = refused

-- the test that a field begins
reading_by : (P : Job → Type 0) (t n : ℕ) (s : List ℕ) (k : ℕ → List ℕ → Job) → P not_well_formed → (begins t n s ≡ true → P (k (number (take n (drop 3 s))) (drop (3 + n) s))) → P (reading t n s k)
unfolding reading
reading_by P t n s k = if_passed P (begins t n s)

-- in bytes, a field is all of its number, so that what is read can be written again
reading_bytes : (P : Job → Type 0) (t n : ℕ) {s : List ℕ} → Bytes s → (k : ℕ → List ℕ → Job) → P not_well_formed → ((x : ℕ) (rest : List ℕ) → x < 256 ^ n → Bytes rest → s ≡ field t (bytes n x) ++ rest → P (k x rest)) → P (reading t n s k)
reading_bytes P t n {s} h k refused next = reading_by P t n s k refused λ e.
    let v = take n (drop 3 s) in
    let size = length_value t n s e in
    let known = bytes_take n (bytes_drop 3 h) in
    next (number v) (drop (3 + n) s) (rw size at (number_below v known)) (bytes_drop (3 + n) h) (rw (rw size at (bytes_number v known)) (field_begins t n h e))

-- the test of the samples, and what it finds in bytes
held : (s : List ℕ) → holds_samples s ≡ true → (begins 6 (length s - 3) s ≡ true) × ((length s - 3) % 4 ≡ 0) × ((least ≤ (length s - 3) / 4) × ((length s - 3) / 4 ≤ max_samples))
held s e =
    let n = length s - 3 in
    let (begin, count) = and_yes _ _ e in
    let (front, fours) = and_yes _ _ begin in
    (front, eqb-true _ _ fours, outside_no least max_samples (n / 4) (not-true _ count))

samples_held : {A : Type 0} {s : List ℕ} → Bytes s → holds_samples s ≡ true → ((f : List ℤ) → ((i : ℕ) → SFits w32 (at f i)) → least ≤ length f → length f ≤ max_samples → s ≡ field 6 (sample_bytes f) → A) → A
samples_held {s} h e next =
    let n = length s - 3 in
    let v = take n (drop 3 s) in
    let (front, fours, (enough, few)) = held s e in
    let known = bytes_take n (bytes_drop 3 h) in
    let whole : length v ≡ 4 * (n / 4) = omega (arith, length_value 6 n s front) in
    let count = length_list_of (n / 4) (sample_at v) in
    let behind : drop (3 + n) s ≡ [] = drop_of_length-le s {i = 3 + n} (omega arith) in
    let same = rw (behind, append-nil) at (field_begins 6 n h front) in
    next (list_of (n / 4) (sample_at v)) (samples_fit (n / 4) known) (rw count enough) (rw count few) (rw (bytes_samples (n / 4) known whole) same)

module _ (P : List ℕ → Type 0) (all : (r b a K M : ℕ) (f : List ℤ) → Recordable r b a K M f → P (record_of r b a K M f)) where
  pub read_written : {s : List ℕ} → Bytes s → (read_record s).answer.number ≡ 0 → P s
  unfolding read_record record_of field bytes
  read_written {s} h =
      reading_bytes Q 1 2 h _ refused λ r s₁ l₁ h₁ e₁.
      reading_bytes Q 2 1 h₁ _ refused λ b s₂ l₂ h₂ e₂.
      reading_bytes Q 3 1 h₂ _ refused λ a s₃ l₃ h₃ e₃.
      reading_bytes Q 4 1 h₃ _ refused λ K s₄ l₄ h₄ e₄.
      reading_bytes Q 5 4 h₄ _ refused λ M s₅ l₅ h₅ e₅.
      if_passed Q (holds_samples s₅) refused λ e z.
      samples_held h₅ e λ f fit enough few e₆.
      let ok : Recordable r b a K M f = record { radius = l₁; inner = l₂; edge = l₃; passes = l₄; bound = l₅; samples = fit; enough = enough; few = few } in
      rw (e₁, e₂, e₃, e₄, e₅, e₆) (all r b a K M f ok)
    where
      Q : Job → Type 0
      Q j = j.answer.number ≡ 0 → P s

      refused : Q not_well_formed
      refused e = let no : ⊥ = omega arith in absurd no

module _ {s : List ℕ} (h : Bytes s) (z : (read_record s).answer.number ≡ 0) where
  pub record_of_read : let j = read_record s in record_of j.radius j.inner j.edge j.passes j.bound (samples_of j s) ≡ s
  record_of_read = read_written (λ s. let j = read_record s in record_of j.radius j.inner j.edge j.passes j.bound (samples_of j s) ≡ s) (λ r b a K M f ok. rw (samples_record_of ok, read_record_of ok)) h z

  pub read_recordable : let j = read_record s in Recordable j.radius j.inner j.edge j.passes j.bound (samples_of j s)
  read_recordable = read_written (λ s. let j = read_record s in Recordable j.radius j.inner j.edge j.passes j.bound (samples_of j s)) (λ r b a K M f ok. rw (samples_record_of ok, read_record_of ok) ok) h z

-- ---- what the reader answers
pub record Stretch (s : List ℕ) (j : Job) : Type 0 where
  pub early : j.start ≤ 27
  pub whole : j.start + j.size ≡ length s
  pub few : j.size / 4 ≤ max_samples

-- by lengths alone, so of lists that need not be bytes
stretched : (s s₅ : List ℕ) → length s₅ ≡ length s - 24 → holds_samples s₅ ≡ true → (j : Job) → j.start ≡ length s - (length s₅ - 3) → j.size ≡ length s₅ - 3 → Stretch s j
stretched s s₅ l e j start size = record { early = omega arith; whole = omega arith; few = rw size (held s₅ e).2.1 }

read_walk : (s : List ℕ) → (read_record s ≡ not_well_formed) ⊎ (((read_record s).answer ≡ done) × Stretch s (read_record s))
unfolding read_record
read_walk s =
    reading_by P 1 2 s _ (inl refl) λ e₁.
    reading_by P 2 1 _ _ (inl refl) λ e₂.
    reading_by P 3 1 _ _ (inl refl) λ e₃.
    reading_by P 4 1 _ _ (inl refl) λ e₄.
    reading_by P 5 4 _ _ (inl refl) λ e₅.
    if_passed P (holds_samples s₅) (inl refl) λ e. inr (refl, stretched s s₅ left e _ refl refl)
  where
    P : Job → Type 0
    P j = (j ≡ not_well_formed) ⊎ ((j.answer ≡ done) × Stretch s j)

    s₅ : List ℕ
    s₅ = drop 7 (drop 4 (drop 4 (drop 4 (drop 5 s))))

    left : length s₅ ≡ length s - 24
    left = simp length-drop (omega arith)

module _ (s : List ℕ) where
  read_either : (read_record s ≡ not_well_formed) ⊎ ((read_record s).answer ≡ done)
  read_either = ⊎_map (λ e. e) (λ h. h.0) (read_walk s)

  pub read_number : ((read_record s).answer.number ≡ 0) ⊎ ((read_record s).answer.number ≡ 14)
  read_number = ⊎_elim (λ e. inr (rw e)) (λ d. inl (rw d)) read_either

  pub read_refused : ((read_record s).answer.number ≡ 0 → ⊥) → read_record s ≡ not_well_formed
  read_refused n = ⊎_elim (λ e. e) (λ d. absurd (n (rw d))) read_either

  pub read_stretch : (read_record s).answer.number ≡ 0 → Stretch s (read_record s)
  read_stretch z = ⊎_elim (λ (e : read_record s ≡ not_well_formed). let no : 14 ≡ 0 = rw e at z in absurd (omega arith)) (λ h. h.1) (read_walk s)
