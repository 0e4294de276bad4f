-- Smoothing row y of a picture, lent as a stretch of the samples and of both slices that are written.
--   RowsReady p W H f nd no  each row of f can be smoothed by p as a series, with nd and no cells to write
--   lent W y g   row y of g, from its start to its end
-- Laws: row_ready (it may be smoothed as a series), row_next (once it is written, one row more is done), rows_done (after the last one).
use Rattle.std.specs.Prelude.{ℕ, ◌+◌, ◌*◌, ◌-◌, ◌≤◌, ◌<◌, ◌≡◌, List, ◌++◌, length, take, drop, ℤ}
use Rattle.std.proofs.Common.{sym, ◌∙◌, ap, mul-le-mul_left, arith}
use Rattle.meaning.specs.Limits.{max_length}
use Rattle.meaning.specs.Extension.{fold}
use Rattle.meaning.specs.Smoothing.{results}
use Rattle.meaning.specs.Picture.{row, across}
use Rattle.meaning.specs.Bounds.{AllowedLength}
use Rattle.theory.specs.Lists.{Sized}
use Rattle.theory.specs.Fill.{fill_part, fill_done}
use Rattle.theory.specs.Passes.{length_results}
use Rattle.theory.specs.Picture.{length_row, at_row, row_inside, row_part, row_across, length_across}
use Rattle.plan.specs.declared.Plan.{Plan}
use Rattle.plan.specs.Structs.{stages_of}
use Rattle.series.specs.Ready as series

pub record RowsReady (p : Plan) (W H : ℕ) (f : List ℤ) (nd no : ℕ) : Type 0 where
  pub bound : ℕ
  pub each : AllowedLength (stages_of p) bound W
  pub few : W * H ≤ max_length
  pub cells : length f ≡ W * H
  pub same : nd ≡ W * H
  pub other : no ≡ W * H
  pub sized : Sized bound f

abbrev pub lent : ℕ → ℕ → List ℤ → List ℤ
lent W y g = take (y * W + W - y * W) (drop (y * W) g)

module _ {p : Plan} {W H : ℕ} {f : List ℤ} {nd no : ℕ} (h : RowsReady p W H f nd no) where
  abbrev smoothed : List ℤ → List ℤ
  smoothed = results fold (stages_of p)

  row_allowed : (y : ℕ) → series.Ready p (row W f y) W W
  row_allowed y = record {
    bound = h.bound;
    allowed = record {
      common = rw (length_row W f y) h.each;
      results = sym (length_row W f y);
      work = sym (length_row W f y);
      samples = λ i l. rw (at_row W f i y (omega (arith, length_row W f y))) (h.sized.size (y * W + i)).bound;
    };
  }

  module _ {y : ℕ} (l : y < H) where
    lent_row : (g : List ℤ) → length g ≡ W * H → lent W y g ≡ row W g y
    lent_row g k = let e : y * W + W - y * W ≡ W = omega arith in rw e (row_part W H g k y l)

    lent_length : (g : List ℤ) → length g ≡ W * H → length (lent W y g) ≡ W
    lent_length g k = ap length (lent_row g k) ∙ length_row W g y

    pub row_ready : (d o : List ℤ) → length d ≡ W * H → length o ≡ W * H → series.Ready p (lent W y f) (length (lent W y d)) (length (lent W y o))
    row_ready d o kd ko = rw (lent_row f h.cells, lent_length d kd, lent_length o ko) (row_allowed y)

    pub row_next : (d ys rest : List ℤ) → length d ≡ W * H → take (y * W) d ≡ take (y * W) (across smoothed W H f) → ys ≡ smoothed (lent W y f)
        → take ((y + 1) * W) (take (y * W) d ++ (ys ++ rest)) ≡ take ((y + 1) * W) (across smoothed W H f)
    row_next d ys rest k t s =
        let is : ys ≡ row W (across smoothed W H f) y = s ∙ ap smoothed (lent_row f h.cells) ∙ sym (row_across smoothed (length_results fold (stages_of p)) W H f y l) in
        let m : (y + 1) * W ≡ y * W + W = omega arith in
        rw m (fill_part _ d (y * W) t ys rest (omega (arith, row_inside W l)) (ap length is ∙ length_row W _ y) (is ∙ sym (row_part W H _ (length_across smoothed W H f) y l)))

  pub rows_done : {d : List ℤ} {y : ℕ} → H ≤ y → length d ≡ W * H → take (y * W) d ≡ take (y * W) (across smoothed W H f) → d ≡ across smoothed W H f
  rows_done {d} {y} l k t = let m : W * H ≤ y * W = omega (arith, mul-le-mul_left W l) in fill_done _ d (y * W) t (omega arith) (rw (length_across smoothed W H f) m)
