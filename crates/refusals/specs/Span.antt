-- What lies within reach of a place p: from low up to high, high itself left out.
--   low p R      the first place
--   high N p R   the place behind the last, of N
-- That what lies there is what is near is near_within, a law of the definitions. Law: span_one (the place alone).
use Rattle.std.specs.Prelude.{ℕ, ◌+◌, ◌-◌, ◌<◌, min, ◌≡◌, eqb}
use Rattle.std.proofs.Math.Decide.{ℕ_discrete, dec_lt}
use Rattle.std.proofs.Common.{arith, eq-eqb, ne_eqb}
use Rattle.meaning.specs.Refusals.{within}
use Rattle.theory.specs.Tests.{within_yes, within_before, within_behind}

abbrev pub low : ℕ → ℕ → ℕ
low p R = p - R

abbrev pub high : ℕ → ℕ → ℕ → ℕ
high N p R = min N (p + R + 1)

pub span_one : (p i : ℕ) → within p (p + 1) i ≡ eqb i p
span_one p i = go (ℕ_discrete i p) (dec_lt i p)
  where
    go : Dec (i ≡ p) → Dec (i < p) → within p (p + 1) i ≡ eqb i p
    go (yes e) d = rw (within_yes p (p + 1) i (omega arith) (omega arith), eq-eqb i p e)
    go (no n) (yes l) = rw (within_before p (p + 1) i l, ne_eqb i p n)
    go (no n) (no l) = rw (within_behind p (p + 1) i (omega arith), ne_eqb i p n)
