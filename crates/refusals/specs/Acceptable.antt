-- Samples that pass row 11.
--   Acceptable M f start end   those of f from start up to end, end itself left out, have a size up to M each
-- Law: acceptable_done (the row does not apply).
use Rattle.std.specs.Prelude.{ℕ, ◌≤◌, ◌<◌, ◌≡◌, List, [], ◌∷◌, ℤ, nat_abs}
use Rattle.std.proofs.Common.{sym, ltb-true, leb-true}
use Rattle.meaning.specs.Extension.{at}
use Rattle.meaning.specs.Refusals.{first_of, within}
use Rattle.meaning.specs.Calls.{sample_row}
use Rattle.theory.specs.Refusals.{done, off_done}
use Rattle.theory.specs.BadSamples.{sample_off}
use Rattle.theory.specs.Tests.{and_yes}

abbrev pub Acceptable : ℕ → List ℤ → ℕ → ℕ → Type 0
Acceptable M f start end = (i : ℕ) → i < end → start ≤ i → nat_abs (at f i) ≤ M

pub acceptable_done : (M : ℕ) (f : List ℤ) (start end : ℕ) → Acceptable M f start end → done ≡ first_of (sample_row M f (within start end) ∷ [])
acceptable_done M f start end h = sym (off_done _ (sample_off M f (within start end) (λ i l t. let (a, b) = and_yes _ _ t in h i (ltb-true _ _ b) (leb-true _ _ a)), tt))
