-- The remainder that is never negative, beside the floor.
-- Laws: emod_divided (quotient and remainder), emod_is (what is a remainder is this one), emod_below, emod_periods (whole periods and a rest), emod_small; emod_period, emod_shift (z and its remainder go on alike), emod_mirror (of -1 - z).
use Rattle.std.specs.Prelude.{◌≡◌, ℕ, suc, ◌+◌, ◌*◌, ◌-◌, ◌<◌, ℤ, pos, negsuc, ◌+ℤ◌, ◌-ℤ◌, ◌*ℤ◌}
use Rattle.std.proofs.Common.{◌∙◌, ap, arith}
use Rattle.algebra.specs.Difference.{rep, diff, linear}
use Rattle.algebra.specs.Ring.{ac}
use Rattle.algebra.specs.Division.{Divided, divided_pos, divided_negsuc, divided_shift, divided_unique}
use Rattle.meaning.specs.Extension.{emod}
use Rattle.meaning.specs.Values.{floor}

pub emod_divided : (z : ℤ) {p : ℕ} → 0 < p → Divided z p (floor z p) (emod z p)
unfolding emod
emod_divided (pos n) {p} h = divided_pos n p h
emod_divided (negsuc n) {p} h = divided_negsuc n p h

pub emod_is : {z : ℤ} {p : ℕ} {q : ℤ} {r : ℕ} → Divided z p q r → emod z p ≡ r
emod_is {z} d = (divided_unique (emod_divided z (omega (arith, d.below))) d).1

-- whole periods apart
emod_same : (z k : ℤ) {x : ℤ} {p : ℕ} → 0 < p → x ≡ z +ℤ pos p *ℤ k → emod x p ≡ emod z p
emod_same z k {p} h e = ap (λ y. emod y p) e ∙ emod_is (divided_shift (emod_divided z h) k)

pub emod_below : (z : ℤ) {p : ℕ} → 0 < p → emod z p < p
emod_below z h = (emod_divided z h).below

pub emod_periods : (q : ℕ) {n p : ℕ} → n < p → emod (pos (q * p + n)) p ≡ n
emod_periods q h = emod_is {q = pos q} (record { below = h; is = simp diff (omega linear) })

pub emod_small : {n p : ℕ} → n < p → emod (pos n) p ≡ n
emod_small {n} {p} h = let none : n ≡ 0 * p + n = omega arith in ap (λ m. emod (pos m) p) none ∙ emod_periods 0 h

pub emod_period : (z : ℤ) {p : ℕ} → 0 < p → emod (z +ℤ pos p) p ≡ emod z p
emod_period z h = emod_same z (pos 1) h (rw (rep z) (simp diff (omega linear)))

pub emod_shift : (z d : ℤ) {p : ℕ} → 0 < p → emod (z +ℤ d) p ≡ emod (pos (emod z p) +ℤ d) p
emod_shift z d {p} h =
    let e = emod_divided z h in
    emod_same (pos (emod z p) +ℤ d) (floor z p) h (ap (λ y. y +ℤ d) e.is ∙ regroup (pos p *ℤ floor z p) (pos (emod z p)) d)
  where
    regroup : (a b c : ℤ) → a +ℤ b +ℤ c ≡ b +ℤ c +ℤ a
    regroup a b c = simp ac

pub emod_mirror : (z : ℤ) {p : ℕ} → 0 < p → emod (negsuc 0 -ℤ z) p ≡ p - suc (emod z p)
emod_mirror z {p} h =
    let e = emod_divided z h in
    emod_is {q = negsuc 0 -ℤ floor z p} (record { below = omega arith; is = ap (λ y. negsuc 0 -ℤ y) e.is ∙ mirrored p (emod z p) (floor z p) e.below })
  where
    mirrored : (p r : ℕ) (q : ℤ) → r < p → negsuc 0 -ℤ (pos p *ℤ q +ℤ pos r) ≡ pos p *ℤ (negsuc 0 -ℤ q) +ℤ pos (p - suc r)
    mirrored p r q l = rw (rep q) (simp diff (omega linear))
