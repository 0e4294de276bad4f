-- Rows added to a row, each times a weight. Column x of a picture is a series, so what is said of one is said of x.
--   Adds W src w i row g         to row may be added w times the row of src that begins at i, and its cells are then g
--   AddsRows W H src w k row g   the same of w times the first k rows of the extension
-- Laws: line_size, line_repeats, line_stands, begins_read (a cell of the row that begins there); adds; rows_none, rows_next (one row more of the first k), adds_rows.
use Rattle.std.specs.Prelude.{ℕ, ◌+◌, ◌*◌, ◌≤◌, ◌<◌, ◌≡◌, refl, ℤ, pos, ◌+ℤ◌, ◌*ℤ◌}
use Rattle.std.proofs.Common.{sym, ◌∙◌, mul-le-mul_right, arith}
use Rattle.std.proofs.Math.Path.{ap}
use mathlib.Core.List.{List}
use Rattle.std.proofs.Math.ListN.{length}
use Rattle.std.proofs.Math.IntN.{+ℤ_idr, *ℤ-zero}
use Rattle.algebra.specs.Expression.{◌⊕◌, ◌⊗◌}
use Rattle.algebra.specs.Solver.{ring, ◌≗◌}
use Rattle.algebra.specs.Size.{Abs, abs_self, abs-+, abs-*, fits_abs}
use Rattle.meaning.specs.Limits.{max_result}
use Rattle.meaning.specs.Extension.{at, fold}
use Rattle.meaning.specs.Smoothing.{list_of}
use Rattle.meaning.specs.Picture as P
use Rattle.theory.specs.HalfSample.{half_sample}
use Rattle.theory.specs.Lists.{length_list_of, at_list_of, list_of_ext, list_of_at, Sized, sized_list_of}
use Rattle.theory.specs.Sizes.{ext_size}
use Rattle.theory.specs.Walk.{Stands, stands_ext}
use Rattle.theory.specs.Period.{up_to, up_to_none, up_to_next, up_to_size, Repeats, ext_repeats}
use Rattle.theory.specs.Picture.{length_column, ext_column, sized_column}
use Rattle.plan.specs.declared.Plan.{Plan}
use Rattle.columns.specs.Ready.{Passable, line, added, Addable, rows_added, RowsAddable, Begins}

-- ---- columns
pub line_size : (W H : ℕ) {M : ℕ} {f : List ℤ} → Sized M f → (x : ℕ) (z : ℤ) → Abs (line W H f x z) M
line_size W H h x = ext_size fold (sized_column W H h x)

pub begins_read : {W H : ℕ} → 1 ≤ H → (f : List ℤ) {z : ℤ} {i : ℕ} → Begins W H z i → (x : ℕ) → at f (i + x) ≡ line W H f x z
begins_read {W} h f {z} b x = rw b.is (sym (ext_column half_sample W h f x z))

pub line_repeats : (W H : ℕ) (f : List ℤ) (x : ℕ) → Repeats (2 * H) (line W H f x)
line_repeats W H f x = rw (length_column W H f x) at (ext_repeats (P.column W H f x))

pub line_stands : (W : ℕ) {H : ℕ} (f : List ℤ) (x : ℕ) {z : ℤ} {m : ℕ} → Stands H z m → line W H f x (pos m) ≡ line W H f x z
line_stands W {H} f x s = stands_ext (P.column W H f x) (rw (length_column W H f x) s)

-- ---- rows added to a row
pub record Adds (W : ℕ) (src : List ℤ) (w : ℤ) (i : ℕ) (row : List ℤ) (g : ℕ → ℤ) : Type 0 where
  pub ready : Addable w src i row
  pub gives : {new : List ℤ} → new ≡ list_of (length row) (added w src i row) → new ≡ list_of W g

module _ {W H : ℕ} {src : List ℤ} {M : ℕ} (tall : 1 ≤ H) (cells : length src ≡ W * H) (sized : Sized M src) where
  pub adds : {z : ℤ} {i : ℕ} → Begins W H z i → {w : ℤ} {c : ℕ} → w ≡ pos c → {row : List ℤ} (g : ℕ → ℤ) → row ≡ list_of W g → {B : ℕ} → ((x : ℕ) → x < W → Abs (g x) B) → B + c * M ≤ max_result
      → {t : ℕ → ℤ} → ((x : ℕ) → g x +ℤ pos c *ℤ line W H src x z ≡ t x) → Adds W src w i row t
  unfolding added
  adds {i} b {w} {c} w-is {row} g row_is size room next =
      let long : length row ≡ W = ap length row_is ∙ length_list_of W g in
      let cell : (x : ℕ) → x < W → at row x ≡ g x = λ x l. ap (λ (r : List ℤ). at r x) row_is ∙ at_list_of W g x l in
      let weighs : (x : ℕ) → Abs (pos c *ℤ at src (i + x)) (c * M) = λ x. abs-* (abs_self (pos c)) (sized.size (i + x)) in
      record {
        ready = record {
          inside = omega (arith, b.inside, cells);
          weighed = λ x l. rw w-is (fits_abs (weighs x) (omega arith));
          fits = λ x l. rw (w-is, cell x (omega arith)) (fits_abs (abs-+ (size x (omega arith)) (weighs x)) (omega arith));
        };
        gives = λ e. e ∙ rw long (list_of_ext W (λ x l. rw (w-is, cell x l, begins_read tall src b x) (next x)));
      }

-- ---- those at the places from 0 on
pub rows_none : {w : ℤ} {W H k : ℕ} {src row : List ℤ} → RowsAddable w W H k src row → row ≡ list_of W (rows_added w W H 0 src row)
unfolding rows_added
rows_none {w} {W} {H} {row = row} h = sym (list_of_ext W (λ x l. rw (up_to_none _, *ℤ-zero w) (+ℤ_idr (at row x))) ∙ list_of_at W row h.long)

rows_size : {w : ℤ} {W H K : ℕ} {src row : List ℤ} → (h : RowsAddable w W H K src row) → (k x : ℕ) → Abs (rows_added w W H k src row x) (h.held + h.weight * (k * h.largest))
unfolding rows_added
rows_size h k x = rw h.is (abs-+ (h.holds.size x) (abs-* (abs_self (pos h.weight)) (up_to_size (line_size _ _ h.sized x) k)))

pub rows_next : {w : ℤ} {W H K : ℕ} {src start row : List ℤ} → RowsAddable w W H K src start → {k i : ℕ} → k < K → Begins W H (pos k) i → row ≡ list_of W (rows_added w W H k src start)
    → Adds W src w i row (rows_added w W H (k + 1) src start)
unfolding rows_added
rows_next {w} {W} {H} {src} {start} h {k} l b e =
    adds (omega (arith, h.within)) h.cells h.sized b h.is (rows_added w W H k src start) e (λ x m. rows_size h k x) (omega (arith, h.room, mul-le-mul_right (h.weight * h.largest) l)) (λ x. rw (h.is, up_to_next (line W H src x) k) (more (at start x) (pos h.weight) (up_to (line W H src x) k) (line W H src x (pos k))))
  where
    more : (a c u y : ℤ) → a +ℤ c *ℤ u +ℤ c *ℤ y ≡ a +ℤ c *ℤ (u +ℤ y)
    more = ring 4 (λ a c u y. a ⊕ c ⊗ u ⊕ c ⊗ y ≗ a ⊕ c ⊗ (u ⊕ y)) refl

-- k of them at once, where room is left and what comes out is known
pub record AddsRows (W H : ℕ) (src : List ℤ) (w : ℤ) (k : ℕ) (row : List ℤ) (t : ℕ → ℤ) : Type 0 where
  pub ready : RowsAddable w W H k src row
  pub gives : {new : List ℤ} → new ≡ list_of W (rows_added w W H k src row) → new ≡ list_of W t

pub adds_rows : {p : Plan} {W H : ℕ} {src : List ℤ} {n : ℕ} (h : Passable p W H src n) {w : ℤ} {c k : ℕ} → w ≡ pos c → k ≤ 2 * H → {row : List ℤ} (g : ℕ → ℤ) → row ≡ list_of W g
    → {B : ℕ} → ((x : ℕ) → x < W → Abs (g x) B) → B + c * (k * h.largest) ≤ max_result → {t : ℕ → ℤ} → ((x : ℕ) → g x +ℤ pos c *ℤ up_to (line W H src x) k ≡ t x) → AddsRows W H src w k row t
unfolding rows_added
adds_rows {W = W} h {c = c} w-is l g row_is {B} size room next = record {
  ready = record {
    wide = h.wide;
    few = h.few;
    cells = h.cells;
    long = ap length row_is ∙ length_list_of W g;
    within = l;
    weight = c;
    is = w-is;
    largest = h.largest;
    sized = h.sized;
    held = B;
    holds = rw row_is (sized_list_of W g size);
    room = room;
  };
  gives = λ e. e ∙ list_of_ext W (λ x m. rw (w-is, ap (λ (r : List ℤ). at r x) row_is ∙ at_list_of W g x m) (next x));
}
