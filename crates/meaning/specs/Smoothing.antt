-- Results of a series, under an index map φ.
--   list_of n g           g 0, g 1, .. g (n - 1)
--   convolved ss e n     the kernel of ss over a row e without ends, at n
--   result φ ss f n      the result at a whole n
--   results φ ss f       those of 0 .. N - 1
--   pass φ s f           the series after one pass of stage s. No call's outcome is said by it: it is what code does, K times,
--                        and that results come out is a law
--   reads φ N p x        1 where the extension of N samples reads sample p at x, else 0
--   weight φ ss N n p    how much of sample p of N the result at n holds
--   apart n p            how far n is from p
--   near ss n p          n lies within reach of p
use Rattle.std.specs.Prelude.{ℕ, zero, suc, ◌+◌, ◌-◌, Bool, cond, List, [], ◌∷◌, leb, eqb, length, ℤ, pos, ◌-ℤ◌, ◌*ℤ◌}
use Rattle.algebra.specs.Within.{sum_within}
use Rattle.meaning.specs.Extension.{IndexMap, ext}
use Rattle.meaning.specs.Kernel.{Stage, pass_at, kernel, width, reach}

unfoldable pub list_of : ℕ → (ℕ → ℤ) → List ℤ
list_of zero g = []
list_of (suc n) g = g 0 ∷ list_of n (λ i. g (suc i))

-- "The result at n is the sum over m of K-fold tap m times the extension at n-m."
unfoldable pub convolved : List Stage → (ℤ → ℤ) → ℤ → ℤ
convolved ss e n = sum_within (width ss) (λ m. kernel ss m *ℤ e (n -ℤ m))

unfoldable pub result : IndexMap → List Stage → List ℤ → ℤ → ℤ
result φ ss f n = convolved ss (ext φ f) n

unfoldable pub results : IndexMap → List Stage → List ℤ → List ℤ
results φ ss f = list_of (length f) (λ n. result φ ss f (pos n))

unfoldable pub pass : IndexMap → Stage → List ℤ → List ℤ
pass φ s f = list_of (length f) (λ n. pass_at s (ext φ f) (pos n))

abbrev pub reads : IndexMap → ℕ → ℕ → ℤ → ℤ
reads φ N p x = pos (cond (eqb (φ N x) p) 1 0)

-- the sum of the taps at which the extension reads sample p
unfoldable pub weight : IndexMap → List Stage → ℕ → ℤ → ℕ → ℤ
weight φ ss N n p = convolved ss (reads φ N p) n

abbrev pub apart : ℕ → ℕ → ℕ
apart n p = (n - p) + (p - n)

unfoldable pub near : List Stage → ℕ → ℕ → Bool
near ss n p = leb (apart n p) (reach ss)
