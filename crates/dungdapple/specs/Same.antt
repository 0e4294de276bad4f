-- An outcome at the numbers that were taken is that outcome.
-- Laws: same₂ to same₆ (a definition at equal arguments); stages_taken (a plan's stages); narrow_as; smoothed_as, edited_as, converted_as, carried_as, summary_as, points_as, written_as (a promise of an equal outcome, and of the answer as it was told).
use Rattle.std.specs.Prelude.{ℕ, ◌≡◌, refl, List, ℤ, pos, Float}
use Rattle.std.proofs.Common.{ap, ◌∙◌}
use Rattle.std.specs.Float.{binary64}
use Rattle.std.specs.Float.Ieee.{of_int}
use Rattle.meaning.specs.Refusals.{Answer}
use Rattle.meaning.specs.Calls.{Smoothed, Edited, Pointed}
use Rattle.meaning.specs.Values.{Converted, Summary}
use Rattle.meaning.specs.Carry.{Carried}
use Rattle.meaning.specs.Record.{Written}
use Rattle.meaning.specs.Arguments.{PlanNumbers, stages}
use Rattle.theory.specs.Narrow.{Narrow}
use Rattle.plan.specs.declared.Plan.{Plan}
use Rattle.plan.specs.Structs.{stages_of}
use Rattle.plan.specs.Contract as conversion
use Rattle.series.specs.Contract as smoothing
use Rattle.edit.specs.Contract as editing
use Rattle.carry.specs.Contract as carrying
use Rattle.writer.specs.Contract as writing
use Rattle.arguments.specs.Numbers.{numbers_of}
use Rattle.dungdapple.specs.Told.{Points, Carries}

module _ {A B O : Type 0} where
  pub same₂ : (f : A → B → O) {a a' : A} {b b' : B} → a ≡ a' → b ≡ b' → f a b ≡ f a' b'
  same₂ f a b = rw (a, b) refl

  module _ {C : Type 0} where
    pub same₃ : (f : A → B → C → O) {a a' : A} {b b' : B} {c c' : C} → a ≡ a' → b ≡ b' → c ≡ c' → f a b c ≡ f a' b' c'
    same₃ f a b c = rw (a, b, c) refl

    module _ {D : Type 0} where
      pub same₄ : (f : A → B → C → D → O) {a a' : A} {b b' : B} {c c' : C} {d d' : D} → a ≡ a' → b ≡ b' → c ≡ c' → d ≡ d' → f a b c d ≡ f a' b' c' d'
      same₄ f a b c d = rw (a, b, c, d) refl

      module _ {E : Type 0} where
        pub same₅ : (f : A → B → C → D → E → O) {a a' : A} {b b' : B} {c c' : C} {d d' : D} {e e' : E} → a ≡ a' → b ≡ b' → c ≡ c' → d ≡ d' → e ≡ e' → f a b c d e ≡ f a' b' c' d' e'
        same₅ f a b c d e = rw (a, b, c, d, e) refl

        pub same₆ : {F : Type 0} (f : A → B → C → D → E → F → O) {a a' : A} {b b' : B} {c c' : C} {d d' : D} {e e' : E} {g g' : F} → a ≡ a' → b ≡ b' → c ≡ c' → d ≡ d' → e ≡ e' → g ≡ g' → f a b c d e g ≡ f a' b' c' d' e' g'
        same₆ f a b c d e g = rw (a, b, c, d, e, g) refl

pub stages_taken : {p : Plan} {n : PlanNumbers} → numbers_of p ≡ n → stages_of p ≡ stages n
stages_taken e = ap stages e

-- ---- what is promised of one is promised of the other
pub smoothed_as : {o q : Smoothed} {a b : Answer} {s x : List ℤ} → o ≡ q → b ≡ a → smoothing.Gives o a s x → smoothing.Gives q b s x
smoothed_as e t g = rw (e, ← t) at g

pub edited_as : {o q : Edited} {a b : Answer} {k l : ℕ} {f r : List ℤ} → o ≡ q → b ≡ a → l ≡ k → editing.GivesAlone o a k f r → editing.GivesAlone q b l f r
edited_as e t n g = rw (e, ← t, ← n) at g

pub converted_as : {A : Type 0} {o q : Converted A} {a b : Answer} {left : List A} → o ≡ q → b ≡ a → conversion.Gives o a left → conversion.Gives q b left
converted_as e t g = rw (e, ← t) at g

pub carried_as : {o q : Carried} {a b : Answer} {k : ℕ} {x : Float} {left : List ℤ} → o ≡ q → b ≡ a → x ≡ of_int binary64 (pos k) → carrying.Gives o a k left → Carries q b x left
carried_as e t c g = let h = rw e at g in record { answer = t ∙ h.answer; carry = c ∙ ap (λ n. of_int binary64 (pos n)) h.carry; cells = h.cells }

pub summary_as : {o q : Summary} {a b : Answer} {x y : Float} {i j : ℕ} → o ≡ q → b ≡ a → record { answer = a; lowest = x; highest = y; lowest_at = i; highest_at = j } ≡ o → record { answer = b; lowest = x; highest = y; lowest_at = i; highest_at = j } ≡ q
summary_as e t g = rw (e, ← t) at g

pub narrow_as : {a b : Answer} → a ≡ b → Narrow b → Narrow a
narrow_as e n = rw e n

pub points_as : {o q : Pointed} {a b : Answer} {x : Float} → o ≡ q → b ≡ a → Points o a x → Points q b x
points_as e t g = rw (e, ← t) at g

pub written_as : {o q : Written} {a : Answer} {s : List ℕ} → o ≡ q → writing.Writes o a s → writing.Writes q a s
written_as e g = rw e at g
