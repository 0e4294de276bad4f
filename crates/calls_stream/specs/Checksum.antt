-- What is printed of a long slice.
--   modulus          2³¹ − 1
--   gained s at x    s and (at + 1) x, the first factor and the sum modulo that
--   weighted f n     the sum of (i + 1) f(i) over the first n elements
--   checksum_to f n   that sum modulo 2³¹ − 1, never negative
--   checksum_of f     the checksum of all elements
-- Laws: checksum_below, checksum_none, checksum_more (one element more adds its weighted remainder), element_residue (of elements that stand for numbers), checksum_same (of the numbers themselves).
use Rattle.std.specs.Prelude.{◌≡◌, refl, List, map, ℕ, zero, suc, ◌+◌, ◌*◌, ◌%◌, ◌<◌, length, get_or, ℤ, pos, ◌+ℤ◌, ◌*ℤ◌}
use Rattle.std.proofs.Common.{sym, ◌∙◌, mul_comm, add-one, arith}
use Rattle.std.proofs.Math.Path.{ap}
use Rattle.std.proofs.lemmas.List.{map-id}
use Rattle.std.proofs.Math.IntN.{*ℤ_comm, zero-*ℤ, suc_ℤ-*ℤ}
use Rattle.algebra.specs.Ring.{ac}
use Rattle.algebra.specs.Sum.{sum}
use Rattle.meaning.specs.Extension.{emod}
use Rattle.theory.specs.Fill.{get_d_map}
use Rattle.theory.specs.Remainder.{emod_shift, emod_below}

abbrev pub modulus : ℕ
modulus = 2147483647

abbrev pub gained : ℕ → ℕ → ℕ → ℕ
gained s at x = (s + (at + 1) % modulus * x) % modulus

abbrev pub weighted : List ℤ → ℕ → ℤ
weighted f n = sum n (λ i. pos (suc i) *ℤ get_or f i (pos 0))

abbrev pub checksum_to : List ℤ → ℕ → ℕ
checksum_to f n = emod (weighted f n) modulus

abbrev pub checksum_of : List ℤ → ℕ
checksum_of f = checksum_to f (length f)

pub checksum_below : (f : List ℤ) (n : ℕ) → checksum_to f n < modulus
checksum_below f n = emod_below (weighted f n) {p = modulus} (omega arith)

pub checksum_none : (f : List ℤ) → 0 ≡ checksum_to f 0
unfolding sum emod
checksum_none f = refl

module _ (p : ℕ) (h : 0 < p) where
  times : (n : ℕ) (x v : ℤ) → emod (x +ℤ pos n *ℤ v) p ≡ emod (x +ℤ pos n *ℤ pos (emod v p)) p
  times zero x v = rw (zero-*ℤ v, zero-*ℤ (pos (emod v p)))
  times (suc n) x v =
      let w = pos (emod v p) in
      ap (λ z. emod z p) (last x v) ∙ emod_shift v (x +ℤ pos n *ℤ v) h ∙ ap (λ z. emod z p) (regroup w x (pos n *ℤ v))
      ∙ times n (w +ℤ x) v ∙ ap (λ z. emod z p) (sym (regroup w x (pos n *ℤ w)) ∙ sym (last x w))
    where
      last : (x v : ℤ) → x +ℤ pos (suc n) *ℤ v ≡ v +ℤ (x +ℤ pos n *ℤ v)
      last x v = rw (suc_ℤ-*ℤ (pos n) v) (simp ac)

      regroup : (w x y : ℤ) → w +ℤ (x +ℤ y) ≡ w +ℤ x +ℤ y
      regroup w x y = simp ac

  emod_gained : (s : ℤ) (n : ℕ) (v : ℤ) → emod (s +ℤ pos n *ℤ v) p ≡ (emod s p + n % p * emod v p) % p
  unfolding emod
  emod_gained s n v =
      let e = emod s p in
      let w = emod v p in
      emod_shift s (pos n *ℤ v) h ∙ times n (pos e) v ∙ ap (λ z. emod (pos e +ℤ z) p) (*ℤ_comm (pos n) (pos w))
      ∙ times w (pos e) (pos n) ∙ ap (λ z. (e + z) % p) (mul_comm w (n % p))

  weighted_more : (f : List ℤ) (i : ℕ) → emod (weighted f (i + 1)) p ≡ (emod (weighted f i) p + (i + 1) % p * emod (get_or f i (pos 0)) p) % p
  unfolding sum
  weighted_more f i = rw (add-one i) (emod_gained (weighted f i) (suc i) (get_or f i (pos 0)))

pub checksum_more : (f : List ℤ) (i : ℕ) {s t x : ℕ} → s ≡ checksum_to f i → x ≡ emod (get_or f i (pos 0)) modulus → t ≡ gained s i x → t ≡ checksum_to f (i + 1)
checksum_more f i {x = x} e h g = g ∙ ap (λ y. gained y i x) e ∙ ap (gained (checksum_to f i) i) h ∙ sym (weighted_more modulus (omega arith) f i)

pub element_residue : {A : Type 0} (f : A → ℤ) (xs : List A) (i : ℕ) {x : A} → i < length xs → x ≡ get_or xs i x → emod (f x) modulus ≡ emod (get_or (map f xs) i (pos 0)) modulus
element_residue f xs i {x} l e = ap (λ z. emod z modulus) (ap f e ∙ sym (get_d_map f xs i x (pos 0) l))

pub checksum_same : (f : List ℤ) → checksum_of (map (λ z. z) f) ≡ checksum_of f
checksum_same f = ap checksum_of (map-id f)
