-- The steps of a point, each over plain lists.
-- Laws: test_refused (rows 1 to 9), test_sample (row 11); pointable (what a test that refuses nothing leaves), point_refused, point_done (the ends of a point without work); call_refused, call_done (of the call, with it).
use Rattle.std.specs.Prelude.{ℕ, ◌≡◌, refl, Bool, List, [], ◌∷◌, length, replicate, ℤ, pos, Float, Result, Ok, Err, IsErrAnd}
use Rattle.std.proofs.Math.Path.{sym, ap, ap₂}
use Rattle.std.proofs.Common.{◌∙◌}
use Rattle.std.proofs.lemmas.Result.{err_from_is_err_and}
use Rattle.meaning.specs.Extension.{fold}
use Rattle.meaning.specs.Kernel.{Stage, reach}
use Rattle.meaning.specs.Refusals.{Answer, first_of, differs, within, plan_divisor}
use Rattle.meaning.specs.Smoothing.{result}
use Rattle.meaning.specs.Values.{ratio, plus_zero}
use Rattle.meaning.specs.Calls.{sample_row, edit_room, point_rows, point}
use Rattle.theory.specs.Local.{near_within}
use Rattle.theory.specs.Refusals.{if_done_done, if_done_refused, number_zero}
use Rattle.theory.specs.Places.{row_at_ext}
use Rattle.theory.specs.Accepted.{length_accepted, accepted_divisor}
use Rattle.theory.specs.AcceptedPoints.{point_allowed}
use Rattle.plan.specs.declared.Refusal.{Refusal}
use Rattle.plan.specs.Structs.{plain, refused, refused_number}
use Rattle.refusals.specs.Span.{low, high}
use Rattle.theory.specs.Placed.{placed_rows, placed_refused, placed_rest}
use Rattle.point.specs.Contract.{Tells, Gives}
use Rattle.result.specs.Shares.{Pointable}

module _ (ss : List Stage) (M n : ℕ) (f : List ℤ) (nw : ℕ) (wrong : Bool) (w : wrong ≡ differs nw (edit_room ss (length f))) where
  pub test_refused : (x : Refusal) → refused x ≡ first_of (placed_rows ss M (length f) wrong n) → refused x ≡ first_of (point_rows ss M n f nw)
  unfolding point_rows
  test_refused x e = placed_refused ss M (length f) wrong n e w _ (refused_number x)

  pub test_sample : plain 0 ≡ first_of (placed_rows ss M (length f) wrong n) → {start end : ℕ} → start ≡ low n (reach ss) → end ≡ high (length f) n (reach ss) → {a : Answer} → a ≡ first_of (sample_row M f (within start end) ∷ []) → a ≡ first_of (point_rows ss M n f nw)
  unfolding point_rows
  test_sample e from to g = placed_rest ss M (length f) wrong n e w _ refl (g ∙ ap (λ row. first_of (row ∷ [])) (row_at_ext 11 (length f) (λ i k. rw (from, to, near_within ss n k))))

-- ---- the two ends of a point, by what its test answered
module _ (ss : List Stage) (M n : ℕ) (f : List ℤ) (nw : ℕ) where
  pub point_refused : (x : Refusal) (q : Result Float Refusal) → IsErrAnd q (λ y. y ≡ x) → refused x ≡ first_of (point_rows ss M n f nw) → (w : List ℤ) → length w ≡ nw → Tells (point fold ss M n f w) q
  unfolding point
  point_refused x q h e w l = let o = err_from_is_err_and q h in rw (o.1, o.2, l, ← e) (record { answer = refl; value = sym (if_done_refused (refused x) _ plus_zero (refused_number x)) })

  module _ (e : plain 0 ≡ first_of (point_rows ss M n f nw)) where
    pub pointable : Pointable ss n f
    pointable = let ok = point_allowed ss M n f nw (number_zero e refl) in record { bound = M; common = ok.common; place = ok.position; samples = ok.samples }

    pub point_done : {r : ℤ} {d : ℕ} {x : Float} → r ≡ result fold ss f (pos n) → d ≡ plan_divisor ss → x ≡ ratio r d → (w : List ℤ) → length w ≡ nw → Tells (point fold ss M n f w) (Ok x)
    unfolding point
    point_done i j x w l =
        let value = x ∙ ap₂ ratio i (j ∙ accepted_divisor ss (length_accepted pointable.common)) in
        rw (l, ← e) (record { answer = refl; value = value ∙ sym (if_done_done (plain 0) _ plus_zero refl) })

-- ---- the two ends of the call, which clears its work where it has a value
module _ (ss : List Stage) (M n : ℕ) (f w : List ℤ) where
  pub call_refused : (x : Refusal) (q : Result Float Refusal) → IsErrAnd q (λ y. y ≡ x) → Tells (point fold ss M n f w) (Err x) → Gives (point fold ss M n f w) q w
  unfolding point
  call_refused x q h e =
      let o = err_from_is_err_and q h in
      rw (o.1, o.2) (record { answer = e.answer; value = e.value; work = sym (if_done_refused _ _ w (rw (← e.answer) (refused_number x))) })

  pub call_done : {x : Float} → Tells (point fold ss M n f w) (Ok x) → {work : List ℤ} → work ≡ replicate (length w) (pos 0) → Gives (point fold ss M n f w) (Ok x) work
  unfolding point
  call_done e t = record { answer = e.answer; value = e.value; work = t ∙ sym (if_done_done _ _ w (rw (← e.answer) refl)) }
