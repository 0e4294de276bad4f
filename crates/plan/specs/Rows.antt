-- Rows of the table of numbers tested one after the other, each by its own `row`.
-- Laws: row_here (the first row applies), row_next (it does not, and the rest answers); rows_here, rows_next (the same of a first part that has its own answer); row_off (a row that does not refuse does not apply).
use Rattle.std.specs.Prelude.{◌≡◌, refl, false, [], ◌∷◌, ◌++◌, List}
use Rattle.meaning.specs.Refusals.{Answer, Row, first_of}
use Rattle.theory.specs.Refusals.{Numbered, done_off, number_zero, refused_first, done_rest}
use Rattle.plan.specs.declared.Refusal.{Refusal}
use Rattle.plan.specs.Structs.{plain, refused, refused_number}

module _ (rows more : List Row) where
  pub rows_here : (e : Refusal) → refused e ≡ first_of rows → refused e ≡ first_of (rows ++ more)
  rows_here e h = refused_first rows more h (refused_number e)

  pub rows_next : {a : Answer} → Numbered rows → plain 0 ≡ first_of rows → a ≡ first_of more → a ≡ first_of (rows ++ more)
  rows_next n h k = done_rest rows more n h refl k

module _ (row : Row) (more : List Row) where
  pub row_here : (e : Refusal) → refused e ≡ first_of (row ∷ []) → refused e ≡ first_of (row ∷ more)
  row_here = rows_here (row ∷ []) more

  pub row_next : {a : Answer} → Numbered (row ∷ []) → plain 0 ≡ first_of (row ∷ []) → a ≡ first_of more → a ≡ first_of (row ∷ more)
  row_next = rows_next (row ∷ []) more

pub row_off : (row : Row) → Numbered (row ∷ []) → plain 0 ≡ first_of (row ∷ []) → row.applies ≡ false
row_off row n h = (done_off (row ∷ []) n (number_zero h refl)).0
