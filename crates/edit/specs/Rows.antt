-- The rows of an edit, in the parts that the code tests.
--   front_rows   rows 1 to 11, which need no result
-- Laws: front_refused (rows 1 to 9), front_value (row 10), front_sample (row 11), front_allowed (what rows 1 to 11 leave); rows_parts, front_numbered.
use Rattle.std.specs.Prelude.{ℕ, ◌+◌, ◌*◌, ◌≤◌, ◌≡◌, refl, Bool, ◌||◌, List, [], ◌∷◌, ◌++◌, length, ℤ, nat_abs}
use Rattle.std.proofs.Math.Path.{ap}
use Rattle.std.proofs.Common.{◌∙◌}
use Rattle.std.proofs.Math.Dec.{eqb}
use Rattle.meaning.specs.Extension.{at}
use Rattle.meaning.specs.Kernel.{Stage, divisor}
use Rattle.meaning.specs.Refusals.{Answer, Row, ◌when◌, first_of, row_at, above, differs, within, plan_rows, size_rows}
use Rattle.meaning.specs.Calls.{sample_row, edit_room, edit_rows}
use Rattle.theory.specs.Refusals.{Numbered, done_off, append_off, number_zero}
use Rattle.theory.specs.Places.{row_at_ext}
use Rattle.theory.specs.Edits.{result_row}
use Rattle.theory.specs.AcceptedEdits.{front, Begun, front_begun, old_passes}
use Rattle.plan.specs.declared.Refusal.{Refusal}
use Rattle.plan.specs.Structs.{plain, refused, refused_number}
use Rattle.plan.specs.Rows.{row_here, row_next}
use Rattle.refusals.specs.Span.{span_one}
use Rattle.theory.specs.Placed.{placed_rows, placed_refused, placed_rest}

unfoldable pub front_rows : List Stage → ℕ → ℕ → ℤ → List ℤ → ℕ → ℕ → List Row
front_rows ss M p v f nr nw = front ss M p v f nr nw ++ sample_row M f (λ i. eqb i p) ∷ []

module _ (ss : List Stage) (M p : ℕ) (v : ℤ) (f : List ℤ) (nr nw : ℕ) (wrong : Bool) (w : wrong ≡ (differs nr (length f) || differs nw (edit_room ss (length f)))) where
  pub front_refused : (x : Refusal) → refused x ≡ first_of (placed_rows ss M (length f) wrong p) → refused x ≡ first_of (front_rows ss M p v f nr nw)
  unfolding front_rows plan_rows size_rows
  front_refused x e = placed_refused ss M (length f) wrong p e w _ (refused_number x)

  module _ (e : plain 0 ≡ first_of (placed_rows ss M (length f) wrong p)) where
    pub front_value : (x : Refusal) → refused x ≡ first_of ((10 when above M v) ∷ []) → refused x ≡ first_of (front_rows ss M p v f nr nw)
    unfolding front_rows plan_rows size_rows
    front_value x h = placed_rest ss M (length f) wrong p e w _ refl (row_here _ _ x h)

    pub front_sample : plain 0 ≡ first_of ((10 when above M v) ∷ []) → {a : Answer} → a ≡ first_of (sample_row M f (within p (p + 1)) ∷ []) → a ≡ first_of (front_rows ss M p v f nr nw)
    unfolding front_rows plan_rows size_rows
    front_sample h g = placed_rest ss M (length f) wrong p e w _ refl (row_next _ _ tt h (g ∙ ap (λ row. first_of (row ∷ [])) (row_at_ext 11 (length f) (λ i k. rw (span_one p i)))))

module _ (ss : List Stage) (M p : ℕ) (v : ℤ) (f : List ℤ) (nr nw : ℕ) where
  pub front_numbered : Numbered (front_rows ss M p v f nr nw)
  unfolding front_rows plan_rows size_rows row_at
  front_numbered = tt

  pub front_allowed : plain 0 ≡ first_of (front_rows ss M p v f nr nw) → Begun ss M p v f nr nw × (nat_abs (at f p) ≤ M)
  unfolding front_rows
  front_allowed e =
      let (h, t) = append_off (front ss M p v f nr nw) (sample_row M f (λ i. eqb i p) ∷ []) (done_off (front_rows ss M p v f nr nw) front_numbered (number_zero e refl)) in
      let ok = front_begun ss M p v f nr nw h in
      (ok, old_passes M p f ok.position t.0)

pub rows_parts : (ss : List Stage) (M p : ℕ) (v : ℤ) (f r new : List ℤ) (nw : ℕ) → edit_rows ss M p v f r new nw ≡ front_rows ss M p v f (length r) nw ++ result_row ss (M * divisor ss) p r new ∷ []
unfolding edit_rows front_rows plan_rows size_rows
rows_parts ss M p v f r new nw = refl
