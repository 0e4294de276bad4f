-- Results of a picture of W columns and H rows. φ is the index map of rows, ψ that of columns; hs is the plan across, vs the plan down.
--   cell W f x y                  the sample at column x and row y
--   pixel φ ψ hs vs W H f x y     the result at column x and row y
--   grid W H g                    g x y, row after row
--   picture φ ψ hs vs W H f       all results
--   row W f y, column W H f x     a row and a column, each as a series
--   across op W H f               what op makes of each row;  down op W H f  of each column. No call's outcome is said by
--                                 these: that smoothing across and down, in either order, gives `picture` is a law
use Rattle.std.specs.Prelude.{ℕ, zero, suc, ◌+◌, ◌*◌, List, [], ◌++◌, ℤ, pos}
use Rattle.meaning.specs.Extension.{at, IndexMap}
use Rattle.meaning.specs.Kernel.{Stage}
use Rattle.meaning.specs.Smoothing.{list_of, convolved}

-- "Column x of row y is index y·width + x."
abbrev pub cell : ℕ → List ℤ → ℕ → ℕ → ℤ
cell W f x y = at f (y * W + x)

-- "Rows of a picture use the horizontal plan, columns the vertical"
unfoldable pub pixel : IndexMap → IndexMap → List Stage → List Stage → ℕ → ℕ → List ℤ → ℤ → ℤ → ℤ
pixel φ ψ hs vs W H f x y = convolved hs (λ i. convolved vs (λ j. cell W f (φ W i) (ψ H j)) y) x

unfoldable pub grid : ℕ → ℕ → (ℕ → ℕ → ℤ) → List ℤ
grid W zero g = []
grid W (suc H) g = list_of W (λ x. g x 0) ++ grid W H (λ x y. g x (suc y))

unfoldable pub picture : IndexMap → IndexMap → List Stage → List Stage → ℕ → ℕ → List ℤ → List ℤ
picture φ ψ hs vs W H f = grid W H (λ x y. pixel φ ψ hs vs W H f (pos x) (pos y))

unfoldable pub row : ℕ → List ℤ → ℕ → List ℤ
row W f y = list_of W (λ x. cell W f x y)

unfoldable pub column : ℕ → ℕ → List ℤ → ℕ → List ℤ
column W H f x = list_of H (λ y. cell W f x y)

unfoldable pub across : (List ℤ → List ℤ) → ℕ → ℕ → List ℤ → List ℤ
across op W H f = grid W H (λ x y. at (op (row W f y)) x)

unfoldable pub down : (List ℤ → List ℤ) → ℕ → ℕ → List ℤ → List ℤ
down op W H f = grid W H (λ x y. at (op (column W H f x)) y)
