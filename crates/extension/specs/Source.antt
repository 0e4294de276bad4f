-- What a pass reads.
--   source s c   the samples s where there are any, else the cells c
-- Laws: source_samples, source_cells; source_short (of at most as many as either has).
use Rattle.std.specs.Prelude.{ℕ, ◌≤◌, ◌<◌, ◌≡◌, refl, List, [], ◌∷◌, length, ℤ}
use Rattle.std.proofs.Common.{arith}

unfoldable pub source : List ℤ → List ℤ → List ℤ
source [] c = c
source (x ∷ s) c = x ∷ s

pub source_samples : (s c : List ℤ) → 0 < length s → source s c ≡ s
unfolding source
source_samples [] c l = let no : ⊥ = omega arith in absurd no
source_samples (x ∷ s) c l = refl

pub source_cells : (s c : List ℤ) → length s ≡ 0 → source s c ≡ c
unfolding source
source_cells [] c e = refl
source_cells (x ∷ s) c e = let no : ⊥ = omega arith in absurd no

pub source_short : {m : ℕ} (s c : List ℤ) → length s ≤ m → length c ≤ m → length (source s c) ≤ m
unfolding source
source_short [] c l k = k
source_short (x ∷ s) c l k = l
