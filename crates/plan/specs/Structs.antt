-- The code's types, as the definitions have them.
--   stage_of p    one pass of the plan p
--   stages_of p   its stages: K equal ones
--   plain n       the answer n, with position 0 and no bad sample
--   refused e     the answer of a call that is refused for e
--   answer_of r   the answer of a call that ended with r: 0 where it is done
--   value_or d r  what it gave, d where it is refused
--   refusal_of a  the refusal of the answer a, and end_of x a  the end of a call with that answer that gives x where it is done
-- Laws: refused_number, refused_above (a refusal's number is not 0); failed_number, passed_number (of an end tested); passed_on (of one that a `?` passes on);
-- refusal_back, end_back (an answer tells the refusal, and with the value the end), one_end, one_answer (so it is one).
use Rattle.std.specs.Prelude.{ℕ, ◌<◌, ◌≡◌, refl, true, false, cond, eqb, List, Result, Ok, Err, is_err, IsErrAnd, ⊤}
use Rattle.std.proofs.Common.{sym, ◌∙◌, eq-eqb, true≢false, arith}
use Rattle.std.proofs.Math.Decide.{ℕ_discrete}
use Rattle.std.specs.Result.{result_unwrap_or}
use Rattle.std.proofs.lemmas.Result.{err_from_is_err_and}
use Rattle.meaning.specs.Kernel.{Stage, plan}
use Rattle.meaning.specs.Refusals as meant
use Rattle.plan.specs.declared.Plan.{Plan}
use Rattle.plan.specs.declared.Refusal.{Refusal}
use Rattle.plan.specs.declared.Refusal.TheVariants.{Passes, Radius, InnerWeight, EdgeWeight, Bound, Product, Size, Length, Position, NewValue, BadSample, BadResult, Sigma, Record, Mode}

abbrev pub stage_of : Plan → Stage
stage_of p = record { radius = p.radius; inner = p.inner; edge = p.edge }

abbrev pub stages_of : Plan → List Stage
stages_of p = plan p.radius p.inner p.edge p.passes

abbrev pub plain : ℕ → meant.Answer
plain n = record { number = n; position = 0; bad = 0 }

abbrev pub refused : Refusal → meant.Answer
refused Passes = plain 1
refused Radius = plain 2
refused InnerWeight = plain 3
refused EdgeWeight = plain 4
refused Bound = plain 5
refused Product = plain 6
refused Size = plain 7
refused Length = plain 8
refused Position = plain 9
refused NewValue = plain 10
refused (BadSample i k) = record { number = 11; position = i; bad = k }
refused (BadResult i) = record { number = 12; position = i; bad = 0 }
refused Sigma = plain 13
refused Record = plain 14
refused Mode = plain 21

abbrev pub answer_of : {A : Type 0} → Result A Refusal → meant.Answer
answer_of (Ok x) = plain 0
answer_of (Err e) = refused e

-- ---- back from an answer
abbrev pub refusal_of : meant.Answer → Refusal
refusal_of a =
    cond (eqb a.number 1) Passes
    (cond (eqb a.number 2) Radius
    (cond (eqb a.number 3) InnerWeight
    (cond (eqb a.number 4) EdgeWeight
    (cond (eqb a.number 5) Bound
    (cond (eqb a.number 6) Product
    (cond (eqb a.number 7) Size
    (cond (eqb a.number 8) Length
    (cond (eqb a.number 9) Position
    (cond (eqb a.number 10) NewValue
    (cond (eqb a.number 11) (BadSample a.position a.bad)
    (cond (eqb a.number 12) (BadResult a.position)
    (cond (eqb a.number 13) Sigma
    (cond (eqb a.number 14) Record Mode)))))))))))))

abbrev pub value_or : {A : Type 0} → A → Result A Refusal → A
value_or d r = result_unwrap_or r d

abbrev pub end_of : {A : Type 0} → A → meant.Answer → Result A Refusal
end_of x a = cond (eqb a.number 0) (Ok x) (Err (refusal_of a))

pub refusal_back : (e : Refusal) → refusal_of (refused e) ≡ e
refusal_back Passes = refl
refusal_back Radius = refl
refusal_back InnerWeight = refl
refusal_back EdgeWeight = refl
refusal_back Bound = refl
refusal_back Product = refl
refusal_back Size = refl
refusal_back Length = refl
refusal_back Position = refl
refusal_back NewValue = refl
refusal_back (BadSample i k) = refl
refusal_back (BadResult i) = refl
refusal_back Sigma = refl
refusal_back Record = refl
refusal_back Mode = refl

-- a refusal's number is not 0
refused_test : (e : Refusal) → eqb (refused e).number 0 ≡ false
refused_test Passes = refl
refused_test Radius = refl
refused_test InnerWeight = refl
refused_test EdgeWeight = refl
refused_test Bound = refl
refused_test Product = refl
refused_test Size = refl
refused_test Length = refl
refused_test Position = refl
refused_test NewValue = refl
refused_test (BadSample i k) = refl
refused_test (BadResult i) = refl
refused_test Sigma = refl
refused_test Record = refl
refused_test Mode = refl

pub refused_number : (e : Refusal) → (refused e).number ≡ 0 → ⊥
refused_number e z = true≢false (sym (eq-eqb (refused e).number 0 z) ∙ refused_test e)

pub refused_above : (e : Refusal) → 0 < (refused e).number
refused_above e = go (ℕ_discrete (refused e).number 0)
  where
    go : Dec ((refused e).number ≡ 0) → 0 < (refused e).number
    go (yes z) = absurd (refused_number e z)
    go (no n) = omega arith

module _ {A : Type 0} where
  pub failed_number : (r : Result A Refusal) → is_err r ≡ true → (answer_of r).number ≡ 0 → ⊥
  failed_number (Ok x) h = absurd (true≢false (sym h))
  failed_number (Err e) h = refused_number e

  pub passed_number : (r : Result A Refusal) → is_err r ≡ false → (answer_of r).number ≡ 0
  passed_number (Ok x) h = refl
  passed_number (Err e) h = absurd (true≢false h)

  -- what a `?` passes on
  pub passed_on : (e : Refusal) {a : meant.Answer} (r : Result A Refusal) → IsErrAnd r (λ y. y ≡ e) → refused e ≡ a → answer_of r ≡ a
  passed_on e r h k = let p = err_from_is_err_and r h in rw (p.1, p.2) k

  pub end_back : (d : A) (r : Result A Refusal) → end_of (value_or d r) (answer_of r) ≡ r
  end_back d (Ok x) = refl
  end_back d (Err e) = rw (refused_test e, refusal_back e) refl

  pub one_end : (d : A) (r s : Result A Refusal) → answer_of r ≡ answer_of s → value_or d r ≡ value_or d s → r ≡ s
  one_end d r s a v = sym (end_back d r) ∙ rw (a, v) (end_back d s)

pub one_answer : (r s : Result ⊤ Refusal) → answer_of r ≡ answer_of s → r ≡ s
one_answer r s a = one_end tt r s a refl
