-- What the rule asks.
--   Sigma s K        a sigma s and a number of passes K that are allowed
--   Found s K b r    these, an inner weight b that is allowed, and the radius r found for them
use Rattle.std.specs.Prelude.{ℕ, ◌*◌, ◌≤◌, ◌≡◌}
use Rattle.meaning.specs.Limits.{least, max_passes, max_sigma}
use Rattle.meaning.specs.Planner.{radius_for}
use Rattle.meaning.specs.Bounds.{AllowedSigma}

pub record Sigma (s K : ℕ) : Type 0 where
  pub sigma : s ≤ max_sigma
  pub passes : (least ≤ K) × (K ≤ max_passes)

pub record Found (s K b r : ℕ) : Type 0 where
  pub allowed : AllowedSigma s K b
  pub radius : r ≡ radius_for s (10000 * K)
