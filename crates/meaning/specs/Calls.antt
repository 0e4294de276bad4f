-- Smoothing, edit and point: what each call answers, and what each lent slice holds afterwards.
--   sample_row M f t   row 11, over the samples that the test t picks
--   smooth_series      of plan, bound, samples, results, work: a Smoothed
--   smooth_picture     of two plans, bound, width, height, samples, results, work: a Smoothed
--   smoothed          the outcome of either, `new` being the results where it is done; its rows are smooth_rows
--   edit_room ss N     cells of work that edit and point ask, 2N under every plan;  asked ss N  so many, all zeros
--   gained            the results after an edit
--   changed r new     how many results changed
--   edit_series        of plan, bound, position, new value, samples, results, work: an Edited; its rows are edit_rows
--   point             of plan, bound, position, samples, work: a Pointed; its rows are point_rows
use Rattle.std.specs.Prelude.{ℕ, ◌*◌, Bool, true, cond, ◌&&◌, ◌||◌, List, [], ◌∷◌, ◌++◌, leb, eqb, length, set, replicate, ℤ, pos, ◌+ℤ◌, ◌-ℤ◌, ◌*ℤ◌, Float}
use Rattle.std.specs.Int.Signed.{lt_z}
use Rattle.meaning.specs.Extension.{at, IndexMap}
use Rattle.meaning.specs.Kernel.{Stage, divisor}
use Rattle.meaning.specs.Smoothing.{list_of, near, result, results, weight}
use Rattle.meaning.specs.Picture.{picture}
use Rattle.meaning.specs.Refusals.{Answer, Row, ◌when◌, first_of, count_where, row_at, differs, above, Shape, series_of, picture_of, common_rows, if_done, zeros}
use Rattle.meaning.specs.Values.{ratio, plus_zero}

abbrev pub sample_row : ℕ → List ℤ → (ℕ → Bool) → Row
sample_row M f tested = row_at 11 (length f) (λ i. tested i && above M (at f i))

-- ---- smoothing
pub record Smoothed : Type 0 where
  pub answer : Answer
  pub results : List ℤ
  pub work : List ℤ

-- "Smoothing tests all samples for 11."
unfoldable pub smooth_rows : Shape → ℕ → List ℤ → ℕ → ℕ → List Row
smooth_rows s M f nr nw =
    common_rows s M (differs (length f) s.cells || differs nr s.cells || differs nw s.cells)
    ++ sample_row M f (λ i. true)
    ∷ []

unfoldable pub smoothed : Shape → ℕ → List ℤ → List ℤ → List ℤ → List ℤ → Smoothed
smoothed s M new f r w =
    let a = first_of (smooth_rows s M f (length r) (length w)) in
    record { answer = a; results = if_done a new r; work = if_done a (zeros w) w }

abbrev pub smooth_series : IndexMap → List Stage → ℕ → List ℤ → List ℤ → List ℤ → Smoothed
smooth_series φ ss M f r w = smoothed (series_of ss (length f)) M (results φ ss f) f r w

abbrev pub smooth_picture : IndexMap → IndexMap → List Stage → List Stage → ℕ → ℕ → ℕ → List ℤ → List ℤ → List ℤ → Smoothed
smooth_picture φ ψ hs vs M W H f r w = smoothed (picture_of hs vs W H) M (picture φ ψ hs vs W H f) f r w

-- ---- edit
-- "work 2N for point and edit"
abbrev pub edit_room : List Stage → ℕ → ℕ
edit_room ss N = 2 * N

unfoldable pub asked : List Stage → ℕ → List ℤ
asked ss N = replicate (edit_room ss N) (pos 0)

-- "each result within reach gains (new - old) times its weight from p, and all others stay"
unfoldable pub gained : IndexMap → List Stage → ℕ → ℤ → List ℤ → List ℤ
gained φ ss p d r = list_of (length r) (λ n. cond (near ss n p) (at r n +ℤ d *ℤ weight φ ss (length r) (pos n) p) (at r n))

-- "11 tests only the old sample at p; 12 tests results within reach of p only, before and after."
unfoldable pub edit_rows : List Stage → ℕ → ℕ → ℤ → List ℤ → List ℤ → List ℤ → ℕ → List Row
edit_rows ss M p v f r new nw =
    common_rows (series_of ss (length f)) M (differs (length r) (length f) || differs nw (edit_room ss (length f)))
    ++ (9 when leb (length f) p)
    ∷ (10 when above M v)
    ∷ sample_row M f (λ i. eqb i p)
    ∷ row_at 12 (length r) (λ n. near ss n p && (above (M * divisor ss) (at r n) || above (M * divisor ss) (at new n)))
    ∷ []

-- "the number of results whose value changed"
unfoldable pub changed : List ℤ → List ℤ → ℕ
changed r new = count_where (length r) (λ n. lt_z (at r n) (at new n) || lt_z (at new n) (at r n))

pub record Edited : Type 0 where
  pub answer : Answer
  pub count : ℕ
  pub samples : List ℤ
  pub results : List ℤ
  pub work : List ℤ

unfoldable pub edit_series : IndexMap → List Stage → ℕ → ℕ → ℤ → List ℤ → List ℤ → List ℤ → Edited
edit_series φ ss M p v f r w =
    let new = gained φ ss p (v -ℤ at f p) r in
    let a = first_of (edit_rows ss M p v f r new (length w)) in
    record {
      answer = a;
      count = if_done a (changed r new) 0;
      samples = if_done a (set f p v) f;
      results = if_done a new r;
      work = if_done a (zeros w) w;
    }

-- ---- point
-- "It tests only samples within reach of n."
unfoldable pub point_rows : List Stage → ℕ → ℕ → List ℤ → ℕ → List Row
point_rows ss M n f nw =
    common_rows (series_of ss (length f)) M (differs nw (edit_room ss (length f)))
    ++ (9 when leb (length f) n)
    ∷ sample_row M f (λ i. near ss i n)
    ∷ []

pub record Pointed : Type 0 where
  pub answer : Answer
  pub value : Float
  pub work : List ℤ

-- "The value is the result at n over the divisor, divided as under doubles out."
unfoldable pub point : IndexMap → List Stage → ℕ → ℕ → List ℤ → List ℤ → Pointed
point φ ss M n f w =
    let a = first_of (point_rows ss M n f (length w)) in
    record { answer = a; value = if_done a (ratio (result φ ss f (pos n)) (divisor ss)) plus_zero; work = if_done a (zeros w) w }
