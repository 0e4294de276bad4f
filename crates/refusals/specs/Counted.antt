-- Bad samples counted, and the first of them.
--   told n i    the answer where n are bad, the first at i; done where none is
-- Laws: told_bad (how many it tells), told_one (of one at least).
use Rattle.std.specs.Prelude.{ℕ, zero, suc, ◌≡◌, refl}
use Rattle.meaning.specs.Refusals.{Answer}
use Rattle.theory.specs.Refusals.{done}

abbrev pub told : ℕ → ℕ → Answer
told zero i = done
told (suc n) i = record { number = 11; position = i; bad = suc n }

pub told_bad : (n i : ℕ) → (told n i).bad ≡ n
told_bad zero i = refl
told_bad (suc n) i = refl

pub told_one : (n i : ℕ) → (n ≡ 0 → ⊥) → record { number = 11; position = i; bad = n } ≡ told n i
told_one zero i h = absurd (h refl)
told_one (suc n) i h = refl
