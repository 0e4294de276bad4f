-- The reader, field by field.
--   Taken t n s v rest   s begins with a field of tag t and n bytes: v are those, and rest what stands behind it
-- Laws: begins_short, begins_other, begins_tagged, begins_within (a field's head by its tests); head_tag, head_size (of its first three bytes);
-- field_yes, field_no (what is read, with a field and without); length_value, behind_within (of a field that was read);
-- stops_1 .. stops_6, goes_on (the reader's answer, where the first that is none is that of field 1 .. 6, and where all are there).
use Rattle.std.specs.Prelude.{◌≡◌, refl, ℕ, ◌+◌, ◌-◌, ◌*◌, ◌≤◌, ◌<◌, true, false, ◌&&◌, eqb, get_or, List, length, take, drop}
use Rattle.std.proofs.Common.{sym, ◌∙◌, ap, arith, length-drop, length-take-le, get_or-take, get_or-drop}
use Rattle.std.proofs.Math.Bool.{and-true, and-false}
use borrow.Author.Tests.{lt-leb, le-leb, ne_eqb, eq-eqb, leb-true}
use Rattle.meaning.specs.Encoding.{number}
use Rattle.meaning.specs.Record.{Job, job_read, begins, reading, read_record, not_well_formed, holds_samples}
use Rattle.theory.specs.Tests.{and_yes}
use Rattle.theory.specs.Encoding.{number_more}

pub record Taken (t n : ℕ) (s v rest : List ℕ) : Type 0 where
  pub begun : begins t n s ≡ true
  pub value : v ≡ take n (drop 3 s)
  pub behind : rest ≡ drop (3 + n) s

-- ---- the head of a field
pub begins_short : (t n : ℕ) (s : List ℕ) → length s < 3 + n → begins t n s ≡ false
unfolding begins
begins_short t n s h = rw (lt-leb (3 + n) (length s) h) (and-false (eqb (number (take 1 s)) t && eqb (number (take 2 (drop 1 s))) n))

pub begins_other : (t n : ℕ) (s : List ℕ) → (number (take 1 s) ≡ t → ⊥) → begins t n s ≡ false
unfolding begins
begins_other t n s h = rw (ne_eqb (number (take 1 s)) t h) refl

pub begins_tagged : (t n : ℕ) (s : List ℕ) → 3 + n ≤ length s → number (take 1 s) ≡ t → begins t n s ≡ eqb (number (take 2 (drop 1 s))) n
unfolding begins
begins_tagged t n s h e = rw (eq-eqb (number (take 1 s)) t e, le-leb (3 + n) (length s) h) (and-true (eqb (number (take 2 (drop 1 s))) n))

pub begins_within : (t n : ℕ) (s : List ℕ) → begins t n s ≡ true → 3 + n ≤ length s
unfolding begins
begins_within t n s e = leb-true (3 + n) (length s) (and_yes (eqb (number (take 1 s)) t && eqb (number (take 2 (drop 1 s))) n) _ e).1

module _ (s : List ℕ) {h : List ℕ} (e : h ≡ take 3 s) (l : 3 ≤ length s) where
  pub head_tag : number (take 1 s) ≡ get_or h 0 0
  unfolding number
  head_tag = rw (e, get_or-take 3 s 0 0 (omega arith)) (omega (arith, number_more s 0 (omega arith)))

  pub head_size : number (take 2 (drop 1 s)) ≡ get_or h 1 0 * 256 + get_or h 2 0
  unfolding number
  head_size =
      rw (e, get_or-take 3 s 1 0 (omega arith), get_or-take 3 s 2 0 (omega arith))
      (omega (arith, number_more (drop 1 s) 0 (omega (arith, length-drop 1 s)), number_more (drop 1 s) 1 (omega (arith, length-drop 1 s)), get_or-drop 1 s 0 0, get_or-drop 1 s 1 0))

-- ---- a field, read
pub field_yes : {t n : ℕ} {s v rest : List ℕ} (k : ℕ → List ℕ → Job) → Taken t n s v rest → reading t n s k ≡ k (number v) rest
unfolding reading
field_yes k p = rw (p.begun, p.value, p.behind) refl

pub field_no : (t n : ℕ) (s : List ℕ) (k : ℕ → List ℕ → Job) → begins t n s ≡ false → reading t n s k ≡ not_well_formed
unfolding reading
field_no t n s k e = rw e refl

module _ {t n : ℕ} {s v rest : List ℕ} (field : Taken t n s v rest) where
  pub length_value : length v ≡ n
  length_value = rw field.value (length-take-le n (drop 3 s) (omega (arith, begins_within t n s field.begun, length-drop 3 s)))

  pub behind_within : length rest ≤ length s
  behind_within = omega (arith, ap length field.behind, length-drop (3 + n) s)

-- ---- the reader's answer, by those of the fields
module _ (s : List ℕ) where
  pub stops_1 : begins 1 2 s ≡ false → not_well_formed ≡ read_record s
  unfolding read_record
  stops_1 e = sym (field_no 1 2 s _ e)

  module _ {v₁ s₁ : List ℕ} (radius : Taken 1 2 s v₁ s₁) where
    pub stops_2 : begins 2 1 s₁ ≡ false → not_well_formed ≡ read_record s
    unfolding read_record
    stops_2 e = sym (field_yes _ radius ∙ field_no 2 1 s₁ _ e)

    module _ {v₂ s₂ : List ℕ} (inner : Taken 2 1 s₁ v₂ s₂) where
      pub stops_3 : begins 3 1 s₂ ≡ false → not_well_formed ≡ read_record s
      unfolding read_record
      stops_3 e = sym (field_yes _ radius ∙ field_yes _ inner ∙ field_no 3 1 s₂ _ e)

      module _ {v₃ s₃ : List ℕ} (edge : Taken 3 1 s₂ v₃ s₃) where
        pub stops_4 : begins 4 1 s₃ ≡ false → not_well_formed ≡ read_record s
        unfolding read_record
        stops_4 e = sym (field_yes _ radius ∙ field_yes _ inner ∙ field_yes _ edge ∙ field_no 4 1 s₃ _ e)

        module _ {v₄ s₄ : List ℕ} (passes : Taken 4 1 s₃ v₄ s₄) where
          pub stops_5 : begins 5 4 s₄ ≡ false → not_well_formed ≡ read_record s
          unfolding read_record
          stops_5 e = sym (field_yes _ radius ∙ field_yes _ inner ∙ field_yes _ edge ∙ field_yes _ passes ∙ field_no 5 4 s₄ _ e)

          module _ {v₅ s₅ : List ℕ} (bound : Taken 5 4 s₄ v₅ s₅) where
            pub stops_6 : holds_samples s₅ ≡ false → not_well_formed ≡ read_record s
            unfolding read_record
            stops_6 e = sym (field_yes _ radius ∙ field_yes _ inner ∙ field_yes _ edge ∙ field_yes _ passes ∙ field_yes _ bound ∙ rw e refl)

            pub goes_on : {samples : List ℕ} → holds_samples s₅ ≡ true → samples ≡ drop 3 s₅ → job_read (number v₁) (number v₂) (number v₃) (number v₄) (number v₅) (length s - length samples) (length samples) ≡ read_record s
            unfolding read_record
            goes_on e i = sym (field_yes _ radius ∙ field_yes _ inner ∙ field_yes _ edge ∙ field_yes _ passes ∙ field_yes _ bound ∙ rw (e, i, length-drop 3 s₅) refl)
