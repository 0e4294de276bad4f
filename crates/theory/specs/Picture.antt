-- Pictures: smoothing across and down, in either order, gives `picture`; and how large it grows.
--   Keeps op   op leaves a series as long as it is
-- Laws: grid_ext, grid_map; length_row, length_column, at_row, row_inside (a row ends within the picture), row_part (a row is a stretch of the picture);
-- ext_column (a column without ends), sized_column; length_across, length_down, length_picture, cell_picture; row_across (what was done to each row is found in each row);
-- down_none, down_cons (a stage in front is one pass more over every column), cell_passed (a cell after one pass down);
-- rows_first, columns_first, either_first; across_size, down_size, picture_size.
use Rattle.std.specs.Prelude.{◌≡◌, refl, List, [], ◌∷◌, ◌++◌, map, ℕ, zero, suc, ◌+◌, ◌*◌, ◌/◌, ◌%◌, ◌≤◌, ◌<◌, length, take, drop, ℤ, pos}
use Rattle.std.proofs.Common.{sym, ◌∙◌, ap, ap₂, mul-zero, div-add-mod', mod-lt, div-lt_iff_lt-mul, mul_assoc, mul_comm, mul-le-mul_right, arith, length-append, length-drop, length-take-le, get_or-append-add, get_or-take, get_or-drop, ext_get_or}
use Rattle.std.proofs.lemmas.List.{map-append}
use Rattle.std.proofs.Math.ListN.{get_or-append}
use Rattle.algebra.specs.Size.{Abs}
use Rattle.meaning.specs.Extension.{at, IndexMap, ext}
use Rattle.meaning.specs.Kernel.{Stage, divisor, pass_at}
use Rattle.meaning.specs.Smoothing.{list_of, convolved, result, results, pass}
use Rattle.meaning.specs.Picture.{cell, pixel, grid, picture, row, column, across, down}
use Rattle.theory.specs.Folding.{Folding}
use Rattle.theory.specs.Convolution.{convolved_ext, convolved_swap}
use Rattle.theory.specs.Lists.{length_list_of, at_list_of, list_of_ext, list_of_at, list_of_map, Sized, sized, sized_list_of}
use Rattle.theory.specs.Passes.{length_results, at_results, at_pass, results_none, results_cons}
use Rattle.theory.specs.Sizes.{convolved_size}

-- ---- a picture by its cells
length_grid : (W H : ℕ) (g : ℕ → ℕ → ℤ) → length (grid W H g) ≡ W * H
unfolding grid
length_grid W zero g = sym (mul-zero W)
length_grid W (suc H) g = length-append (list_of W (λ x. g x 0)) (grid W H (λ x y. g x (suc y))) ∙ rw (length_list_of W (λ x. g x 0), length_grid W H (λ x y. g x (suc y))) (omega arith)

cell_grid : (W H : ℕ) (g : ℕ → ℕ → ℤ) (x y : ℕ) → x < W → y < H → cell W (grid W H g) x y ≡ g x y
unfolding grid
cell_grid W zero g x y hx hy = absurd (omega arith)
cell_grid W (suc H) g x zero hx hy =
    let e : 0 * W + x ≡ x = omega arith in
    rw e (get_or-append (list_of W (λ x. g x 0)) (grid W H (λ x y. g x (suc y))) (pos 0) x (rw (length_list_of W (λ x. g x 0)) hx) ∙ at_list_of W (λ x. g x 0) x hx)
cell_grid W (suc H) g x (suc y) hx hy =
    let first = list_of W (λ x. g x 0) in
    let e : suc y * W + x ≡ length first + (y * W + x) = omega (arith, length_list_of W (λ x. g x 0)) in
    rw e (get_or-append-add first (grid W H (λ x y. g x (suc y))) (y * W + x) (pos 0) ∙ cell_grid W H (λ x y. g x (suc y)) x y hx (omega arith))

pub grid_ext : (W H : ℕ) {g h : ℕ → ℕ → ℤ} → ((x y : ℕ) → x < W → y < H → g x y ≡ h x y) → grid W H g ≡ grid W H h
unfolding grid
grid_ext W zero e = refl
grid_ext W (suc H) e = ap₂ ◌++◌ (list_of_ext W (λ x l. e x 0 l (omega arith))) (grid_ext W H (λ x y l m. e x (suc y) l (omega arith)))

pub grid_map : (h : ℤ → ℤ) (W H : ℕ) (g : ℕ → ℕ → ℤ) → grid W H (λ x y. h (g x y)) ≡ map h (grid W H g)
unfolding grid
grid_map h W zero g = refl
grid_map h W (suc H) g = ap₂ ◌++◌ (list_of_map h W (λ x. g x 0)) (grid_map h W H (λ x y. g x (suc y))) ∙ sym (map-append h (list_of W (λ x. g x 0)) (grid W H (λ x y. g x (suc y))))

-- where index i stands
record Place (W H i : ℕ) : Type 0 where
  x : ℕ
  y : ℕ
  x< : x < W
  y< : y < H
  is : i ≡ y * W + x

place : (W H i : ℕ) → i < W * H → Place W H i
place zero H i h = absurd (omega arith)
place (suc W) H i h = record { x = i % suc W; y = i / suc W; x< = mod-lt i (omega arith); y< = (div-lt_iff_lt-mul {k = suc W} {x = i} {y = H} (omega arith)).1 (omega arith); is = omega (arith, div-add-mod' i (suc W)) }

cells_ext : (W H : ℕ) (f g : List ℤ) → length f ≡ W * H → length g ≡ W * H → ((x y : ℕ) → x < W → y < H → cell W f x y ≡ cell W g x y) → f ≡ g
cells_ext W H f g lf lg e = ext_get_or (pos 0) f g (lf ∙ sym lg) (λ i l. go (place W H i (omega arith)))
  where
    go : {i : ℕ} → Place W H i → at f i ≡ at g i
    go p = rw p.is (e p.x p.y p.x< p.y<)

grid_cell : (W H : ℕ) (f : List ℤ) → length f ≡ W * H → grid W H (cell W f) ≡ f
grid_cell W H f e = cells_ext W H _ f (length_grid W H (cell W f)) e (cell_grid W H (cell W f))

sized_grid : {M : ℕ} (W H : ℕ) (g : ℕ → ℕ → ℤ) → ((x y : ℕ) → Abs (g x y) M) → Sized M (grid W H g)
sized_grid {M} W H g h = sized (grid W H g) (λ i l. go (place W H i (omega (arith, length_grid W H g))))
  where
    go : {i : ℕ} → Place W H i → Abs (at (grid W H g) i) M
    go p = rw (p.is, cell_grid W H g p.x p.y p.x< p.y<) (h p.x p.y)

-- ---- rows and columns
abbrev pub Keeps : (List ℤ → List ℤ) → Type 0
Keeps op = (f : List ℤ) → length (op f) ≡ length f

pub length_row : (W : ℕ) (f : List ℤ) (y : ℕ) → length (row W f y) ≡ W
unfolding row
length_row W f y = length_list_of W _

pub length_column : (W H : ℕ) (f : List ℤ) (x : ℕ) → length (column W H f x) ≡ H
unfolding column
length_column W H f x = length_list_of H _

pub at_row : (W : ℕ) (f : List ℤ) (x y : ℕ) → x < W → at (row W f y) x ≡ cell W f x y
unfolding row
at_row W f x y h = at_list_of W _ x h

at_column : (W H : ℕ) (f : List ℤ) (x y : ℕ) → y < H → at (column W H f x) y ≡ cell W f x y
unfolding column
at_column W H f x y h = at_list_of H _ y h

pub row_inside : (W : ℕ) {y H : ℕ} → y < H → y * W + W ≤ W * H
row_inside W {y} {H} h = omega (arith, mul-le-mul_right W h)

pub row_part : (W H : ℕ) (f : List ℤ) → length f ≡ W * H → (y : ℕ) → y < H → take W (drop (y * W) f) ≡ row W f y
row_part W H f e y h =
    let n : length (take W (drop (y * W) f)) ≡ W = length-take-le W (drop (y * W) f) (rw (length-drop (y * W) f) (omega (arith, row_inside W h))) in
    ext_get_or (pos 0) _ _ (n ∙ sym (length_row W f y)) (λ x l. get_or-take W (drop (y * W) f) x (pos 0) (omega arith) ∙ get_or-drop (y * W) f x (pos 0) ∙ sym (at_row W f x y (omega arith)))

pub sized_column : {M : ℕ} (W H : ℕ) {f : List ℤ} → Sized M f → (x : ℕ) → Sized M (column W H f x)
unfolding column
sized_column W H h x = sized_list_of H _ (λ y l. h.size (y * W + x))

pub length_across : (op : List ℤ → List ℤ) (W H : ℕ) (f : List ℤ) → length (across op W H f) ≡ W * H
unfolding across
length_across op W H f = length_grid W H _

pub length_down : (op : List ℤ → List ℤ) (W H : ℕ) (f : List ℤ) → length (down op W H f) ≡ W * H
unfolding down
length_down op W H f = length_grid W H _

cell_down : (op : List ℤ → List ℤ) (W H : ℕ) (f : List ℤ) (x y : ℕ) → x < W → y < H → cell W (down op W H f) x y ≡ at (op (column W H f x)) y
unfolding down
cell_down op W H f x y = cell_grid W H _ x y

pub length_picture : (φ ψ : IndexMap) (hs vs : List Stage) (W H : ℕ) (f : List ℤ) → length (picture φ ψ hs vs W H f) ≡ W * H
unfolding picture
length_picture φ ψ hs vs W H f = length_grid W H _

pub cell_picture : (φ ψ : IndexMap) (hs vs : List Stage) (W H : ℕ) (f : List ℤ) (x y : ℕ) → x < W → y < H → cell W (picture φ ψ hs vs W H f) x y ≡ pixel φ ψ hs vs W H f (pos x) (pos y)
unfolding picture
cell_picture φ ψ hs vs W H f x y = cell_grid W H _ x y

down_ext : (p q : List ℤ → List ℤ) (W H : ℕ) (f : List ℤ) → ((g : List ℤ) → length g ≡ H → p g ≡ q g) → down p W H f ≡ down q W H f
unfolding down
down_ext p q W H f e = grid_ext W H (λ x y l m. ap (λ (g : List ℤ). at g y) (e (column W H f x) (length_column W H f x)))

pub row_across : (op : List ℤ → List ℤ) → Keeps op → (W H : ℕ) (f : List ℤ) (y : ℕ) → y < H → row W (across op W H f) y ≡ op (row W f y)
unfolding row across
row_across op k W H f y h = list_of_ext W (λ x l. cell_grid W H _ x y l h) ∙ list_of_at W (op (row W f y)) (k (row W f y) ∙ length_row W f y)

column_down : (op : List ℤ → List ℤ) → Keeps op → (W H : ℕ) (f : List ℤ) (x : ℕ) → x < W → column W H (down op W H f) x ≡ op (column W H f x)
unfolding column down
column_down op k W H f x h = list_of_ext H (λ y l. cell_grid W H _ x y h l) ∙ list_of_at H (op (column W H f x)) (k (column W H f x) ∙ length_column W H f x)

down_down : (p q : List ℤ → List ℤ) → Keeps q → (W H : ℕ) (f : List ℤ) → down p W H (down q W H f) ≡ down (λ l. p (q l)) W H f
unfolding down
down_down p q k W H f = grid_ext W H (λ x y l m. ap (λ (g : List ℤ). at (p g) y) (column_down q k W H f x l))

pub cell_passed : (φ : IndexMap) (s : Stage) (W H : ℕ) (f : List ℤ) (x y : ℕ) → x < W → y < H → cell W (down (pass φ s) W H f) x y ≡ pass_at s (ext φ (column W H f x)) (pos y)
cell_passed φ s W H f x y hx hy = cell_down (pass φ s) W H f x y hx hy ∙ at_pass φ s (column W H f x) y (omega (arith, length_column W H f x))

-- ---- passes over every column
module _ {φ : IndexMap} (F : Folding φ) where
  pub down_cons : (s : Stage) (ss : List Stage) (W H : ℕ) (f : List ℤ) → down (results φ (s ∷ ss)) W H f ≡ down (pass φ s) W H (down (results φ ss) W H f)
  down_cons s ss W H f = down_ext _ _ W H f (λ g e. results_cons F s ss g) ∙ sym (down_down (pass φ s) (results φ ss) (length_results φ ss) W H f)

  pub down_none : (W H : ℕ) (f : List ℤ) → length f ≡ W * H → down (results φ []) W H f ≡ f
  down_none W H f e = down_ext _ (λ g. g) W H f (λ g l. results_none F g) ∙ unfold down column in (grid_ext W H (λ x y l m. at_list_of H _ y m) ∙ grid_cell W H f e)

  pub ext_column : (W : ℕ) {H : ℕ} → 0 < H → (f : List ℤ) (x : ℕ) (z : ℤ) → ext φ (column W H f x) z ≡ cell W f x (φ H z)
  unfolding ext
  ext_column W {H} h f x z = rw (length_column W H f x) (at_column W H f x (φ H z) (F.below h z))

  -- a result of a line whose cells are g
  at_line : (ss : List Stage) (n : ℕ) (g : ℕ → ℤ) (i : ℕ) → i < n → at (results φ ss (list_of n g)) i ≡ convolved ss (λ x. g (φ n x)) (pos i)
  unfolding result ext
  at_line ss n g i h =
      at_results φ ss (list_of n g) i (omega (arith, length_list_of n g))
      ∙ convolved_ext ss (λ x. rw (length_list_of n g) (at_list_of n g (φ n x) (F.below (omega arith) x))) (pos i)

-- ---- rows first, columns first
module _ {φ ψ : IndexMap} (F : Folding φ) (G : Folding ψ) (hs vs : List Stage) (W H : ℕ) (f : List ℤ) where
  pub rows_first : down (results ψ vs) W H (across (results φ hs) W H f) ≡ picture φ ψ hs vs W H f
  unfolding down across row column picture pixel
  rows_first = grid_ext W H (λ x y hx hy.
      at_line G vs H _ y hy
      ∙ convolved_ext vs (λ j. cell_grid W H _ x (ψ H j) hx (G.below (omega arith) j) ∙ at_line F hs W _ x hx) (pos y)
      ∙ convolved_swap vs hs (λ j i. cell W f (φ W i) (ψ H j)) (pos y) (pos x))

  pub columns_first : across (results φ hs) W H (down (results ψ vs) W H f) ≡ picture φ ψ hs vs W H f
  unfolding down across row column picture pixel
  columns_first = grid_ext W H (λ x y hx hy.
      at_line F hs W _ x hx
      ∙ convolved_ext hs (λ i. cell_grid W H _ (φ W i) y (F.below (omega arith) i) hy ∙ at_line G vs H _ y hy) (pos x))

  pub either_first : down (results ψ vs) W H (across (results φ hs) W H f) ≡ across (results φ hs) W H (down (results ψ vs) W H f)
  either_first = rows_first ∙ sym columns_first

-- ---- sizes
module _ (op : List ℤ → List ℤ) {M Q : ℕ} (k : (g : List ℤ) → Sized M g → Sized Q (op g)) where
  pub across_size : (W H : ℕ) {f : List ℤ} → Sized M f → Sized Q (across op W H f)
  unfolding across row
  across_size W H {f} h = sized_grid W H _ (λ x y. (k _ (sized_list_of W _ (λ i l. h.size (y * W + i)))).size x)

  pub down_size : (W H : ℕ) {f : List ℤ} → Sized M f → Sized Q (down op W H f)
  unfolding down
  down_size W H {f} h = sized_grid W H _ (λ x y. (k _ (sized_column W H h x)).size y)

pub picture_size : (φ ψ : IndexMap) (hs vs : List Stage) (W H : ℕ) {M : ℕ} {f : List ℤ} → Sized M f → Sized (M * (divisor hs * divisor vs)) (picture φ ψ hs vs W H f)
unfolding picture pixel
picture_size φ ψ hs vs W H {M} h =
    rw (mul_comm (divisor hs) (divisor vs), ← mul_assoc M (divisor vs) (divisor hs))
    (sized_grid W H _ (λ x y. convolved_size hs (λ i. convolved_size vs (λ j. h.size (ψ H j * W + φ W i)) (pos y)) (pos x)))
