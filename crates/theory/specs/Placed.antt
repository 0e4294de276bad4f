-- Rows 1 to 9 of a series with a place in it, and what follows them.
--   placed_rows ss M N wrong p   rows 1 to 8 of a series of N cells, and row 9 of the place p
-- Laws: off_placed, placed_off (they say the bounds); placed_allowed (so does an answer of 0); placed_refused, placed_rest (the rows in two parts, as the code tests them).
use Rattle.std.specs.Prelude.{ℕ, ◌<◌, ◌≡◌, Bool, false, List, [], ◌∷◌, ◌++◌, leb}
use Rattle.std.proofs.Common.{sym, ◌∙◌, ap, append_assoc, leb-false}
use Rattle.std.proofs.lemmas.Bool.{lt-leb}
use Rattle.meaning.specs.Kernel.{Stage}
use Rattle.meaning.specs.Refusals.{Answer, Row, ◌when◌, first_of, series_of, plan_rows, size_rows, common_rows}
use Rattle.meaning.specs.Bounds.{AllowedLength}
use Rattle.theory.specs.Refusals.{Off, Numbered, done_off, number_zero, off_append, append_off, refused_first, done_rest}
use Rattle.theory.specs.Accepted.{length_allowed, allowed_length}

abbrev pub placed_rows : List Stage → ℕ → ℕ → Bool → ℕ → List Row
placed_rows ss M N wrong p = common_rows (series_of ss N) M wrong ++ (9 when leb N p) ∷ []

numbered : (ss : List Stage) (M N : ℕ) (wrong : Bool) (p : ℕ) → Numbered (placed_rows ss M N wrong p)
unfolding plan_rows size_rows
numbered ss M N wrong p = tt

module _ (ss : List Stage) (M N : ℕ) (wrong : Bool) (p : ℕ) where
  pub off_placed : Off (placed_rows ss M N wrong p) → AllowedLength ss M N × (wrong ≡ false) × (p < N)
  off_placed h =
      let (c, k) = append_off (common_rows (series_of ss N) M wrong) _ h in
      let (ok, w) = length_allowed ss M N c in
      (ok, w, leb-false N p k.0)

  pub placed_off : AllowedLength ss M N → wrong ≡ false → p < N → Off (placed_rows ss M N wrong p)
  placed_off ok w l = off_append (common_rows (series_of ss N) M wrong) _ (allowed_length ss M N ok w) (lt-leb N p l, tt)

module _ (ss : List Stage) (M N : ℕ) (wrong : Bool) (p : ℕ) {a : Answer} (e : a ≡ first_of (placed_rows ss M N wrong p)) where
  pub placed_allowed : a.number ≡ 0 → AllowedLength ss M N × (wrong ≡ false) × (p < N)
  placed_allowed z = off_placed ss M N wrong p (done_off (placed_rows ss M N wrong p) (numbered ss M N wrong p) (number_zero e z))

  module _ {asked : Bool} (w : wrong ≡ asked) (rest : List Row) where
    split : common_rows (series_of ss N) M asked ++ (9 when leb N p) ∷ rest ≡ placed_rows ss M N asked p ++ rest
    split = sym (append_assoc (common_rows (series_of ss N) M asked) ((9 when leb N p) ∷ []) rest)

    tested : a ≡ first_of (placed_rows ss M N asked p)
    tested = e ∙ ap (λ b. first_of (placed_rows ss M N b p)) w

    pub placed_refused : (a.number ≡ 0 → ⊥) → a ≡ first_of (common_rows (series_of ss N) M asked ++ (9 when leb N p) ∷ rest)
    placed_refused h = rw split (refused_first _ _ tested h)

    pub placed_rest : a.number ≡ 0 → {b : Answer} → b ≡ first_of rest → b ≡ first_of (common_rows (series_of ss N) M asked ++ (9 when leb N p) ∷ rest)
    placed_rest z g = rw split (done_rest _ _ (numbered ss M N asked p) tested z g)
