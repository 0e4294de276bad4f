-- Plans and their kernels. A plan is the list of its stages, one a pass.
--   Stage          radius, inner weight and edge weight of one pass
--   plan r b a K   document 01's plan (r, b, a, K): K equal stages
--   tap s m        weight of offset m in one pass of stage s; 0 beyond radius + 1
--   pass_at s e n   the taps of stage s over a row e without ends, at n
--   kernel ss m    weight of offset m after all of ss; of no stages, 1 at 0
--   width ss       no weight lies farther out than this
--   tap_reach s     how far a sample is felt after one pass;  reach ss  after all
--   tap_sum s       the sum of one pass's taps;  divisor ss  of the kernel; of no stages, 1
--   moment ss      the kernel's second moment: the divisor times its variance
use Rattle.std.specs.Prelude.{ℕ, suc, ◌+◌, ◌*◌, cond, List, [], ◌∷◌, leb, eqb, replicate, ℤ, pos, nat_abs, ◌-ℤ◌, ◌*ℤ◌}
use Rattle.algebra.specs.Within.{sum_within}

pub record Stage : Type 0 where
  pub radius : ℕ
  pub inner : ℕ
  pub edge : ℕ

abbrev pub plan : ℕ → ℕ → ℕ → ℕ → List Stage
plan r b a K = replicate K (record { radius = r; inner = b; edge = a })

-- "One pass has taps b at |m| <= r, a at |m| = r+1 and 0 elsewhere."
unfoldable pub tap : Stage → ℤ → ℤ
tap s m = pos (cond (leb (nat_abs m) s.radius) s.inner (cond (eqb (nat_abs m) (suc s.radius)) s.edge 0))

unfoldable pub pass_at : Stage → (ℤ → ℤ) → ℤ → ℤ
pass_at s e n = sum_within (suc s.radius) (λ j. tap s j *ℤ e (n -ℤ j))

-- "The K-fold kernel is the tap row convolved with itself to K factors"
unfoldable pub kernel : List Stage → ℤ → ℤ
kernel [] m = pos (cond (eqb (nat_abs m) 0) 1 0)
kernel (s ∷ ss) m = pass_at s (kernel ss) m

unfoldable pub width : List Stage → ℕ
width [] = 0
width (s ∷ ss) = width ss + suc s.radius

-- "The reach is K(r+1) if a > 0, and K·r if a = 0."
abbrev pub tap_reach : Stage → ℕ
tap_reach s = cond (eqb s.edge 0) s.radius (suc s.radius)

unfoldable pub reach : List Stage → ℕ
reach [] = 0
reach (s ∷ ss) = reach ss + tap_reach s

-- "Its sum is D = (2r+1)b + 2a."
unfoldable pub tap_sum : Stage → ℕ
tap_sum s = (2 * s.radius + 1) * s.inner + 2 * s.edge

-- "its sum is D^K"
unfoldable pub divisor : List Stage → ℕ
divisor [] = 1
divisor (s ∷ ss) = tap_sum s * divisor ss

unfoldable pub moment : List Stage → ℤ
moment ss = sum_within (width ss) (λ m. kernel ss m *ℤ (m *ℤ m))
