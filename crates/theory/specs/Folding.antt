-- What an index map must be for the laws.
--   Follows φ n p   around n the map φ reads as it does around p, `forward` or `backward`
--   Folding φ       of N samples φ always picks one (`below`); it picks n at n (`here`); around every n it goes on as around what
--                   it picks there (`follows`)
--   Nearness φ      what φ reads as sample p stands no nearer to n than p does (`nearest`)
--   Balanced φ      the two places m beyond the ends read the same two samples as the two places m inward from the
--                   ends, in either order (`ends`)
-- The law that passes are one convolution needs a Folding. What lies within reach needs Nearness too.
-- That the results' sum is the divisor times the samples' sum needs Balanced, and of Folding only `here`. A reflection between two
-- samples is Balanced, each end by itself; so is a period of N, each end by the other; a reflection at a sample is not.
use Rattle.std.specs.Prelude.{◌≡◌, ℕ, suc, ◌+◌, ◌<◌, ◌≤◌, ℤ, pos, negsuc, nat_abs, ◌+ℤ◌, ◌-ℤ◌}
use Rattle.meaning.specs.Extension.{IndexMap}
use Rattle.meaning.specs.Smoothing.{apart}

pub data Follows (φ : ℤ → ℕ) (n : ℤ) (p : ℕ) : Type 0 where
  forward : ((d : ℤ) → φ (n +ℤ d) ≡ φ (pos p +ℤ d)) → Follows φ n p
  backward : ((d : ℤ) → φ (n +ℤ d) ≡ φ (pos p -ℤ d)) → Follows φ n p

pub record Folding (φ : IndexMap) : Type 0 where
  pub below : {N : ℕ} → 0 < N → (n : ℤ) → φ N n < N
  pub here : {N n : ℕ} → n < N → φ N (pos n) ≡ n
  pub follows : {N : ℕ} → 0 < N → (n : ℤ) → Follows (φ N) n (φ N n)

pub record Nearness (φ : IndexMap) : Type 0 where
  pub nearest : {N n : ℕ} → n < N → (x : ℤ) → apart n (φ N x) ≤ nat_abs (pos n -ℤ x)

-- said of any numbers g at the samples, so that neither order is chosen
pub record Balanced (φ : IndexMap) : Type 0 where
  pub ends : {N : ℕ} → 0 < N → (m : ℕ) (g : ℕ → ℤ) → g (φ N (negsuc m)) +ℤ g (φ N (pos (N + m))) ≡ g (φ N (pos m)) +ℤ g (φ N (pos N -ℤ pos (suc m)))
