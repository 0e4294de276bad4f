-- The extension of a series beyond its ends.
--   at f i        sample i of f; 0 where f has none
--   emod n p      n mod p, never negative
--   IndexMap      which of N samples stands at a whole n
--   reflect N m   m where it is below N, else 2N-1-m; for m below 2N
--   fold          the index map of document 01: half-sample symmetric, period 2N
--   ext φ f n     the series f at a whole n, under the index map φ
use Rattle.std.specs.Prelude.{ℕ, suc, ◌-◌, ◌*◌, ◌%◌, cond, List, length, get_or, ℤ, pos, negsuc, ltb}

abbrev pub at : List ℤ → ℕ → ℤ
at f i = get_or f i (pos 0)

unfoldable pub emod : ℤ → ℕ → ℕ
emod (pos n) p = n % p
emod (negsuc n) p = p - suc (n % p)

abbrev pub IndexMap : Type 0
IndexMap = ℕ → ℤ → ℕ

unfoldable pub reflect : ℕ → ℕ → ℕ
reflect N m = cond (ltb m N) m (2 * N - 1 - m)

-- "the extension at any whole n takes m = n mod 2N (never negative) and reads sample m if m < N, else sample 2N-1-m"
unfoldable pub fold : IndexMap
fold N n = reflect N (emod n (2 * N))

unfoldable pub ext : IndexMap → List ℤ → ℤ → ℤ
ext φ f n = at f (φ (length f) n)
