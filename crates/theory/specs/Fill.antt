-- A loop that writes a list towards a list t of the same length: from the front, or from some place on.
--   Filled t r d n   d is r with the elements of t up to n
-- Laws: fill_at (what is written), fill_next (one element more), fill_part (k of them more), fill_done (all of them); get_d_map, map_next, map_done (towards g of each element of r);
-- filled_start, filled_next, filled_done (where t differs from r only in the places that are written).
use Rattle.std.specs.Prelude.{ℕ, zero, suc, ◌+◌, ◌≤◌, ◌<◌, ◌≡◌, refl, List, [], ◌∷◌, ◌++◌, map, length, take, drop, set, get_or, ℤ, pos}
use Rattle.std.proofs.Common.{sym, ◌∙◌, ap, add-one, arith, length-set, get_or-take, take-suc, take-suc-set, take_at, take-add, take_all, length-take-le, ext_get_or, get_or-set_same, get_or-set_other}
use Rattle.std.proofs.Math.Decide.{ℕ_discrete, dec_lt}
use Rattle.std.proofs.lemmas.List.{length-map}
use Rattle.std.proofs.Math.Seq.{take-append-add}
use Rattle.meaning.specs.Extension.{at}

module _ {A : Type 0} (t d : List A) (n : ℕ) (e : take n d ≡ take n t) where
  next : (x v : A) → n < length d → n < length t → v ≡ get_or t n x → take (n + 1) (set d n v) ≡ take (n + 1) t
  next x v l m h = rw (add-one n, take-suc-set d n v l, take-suc t n x m, e, h)

  pub fill_part : (part rest : List A) {k : ℕ} → n ≤ length d → length part ≡ k → part ≡ take k (drop n t) → take (n + k) (take n d ++ (part ++ rest)) ≡ take (n + k) t
  fill_part part rest {k} l m h =
      ap (λ i. take (i + k) (take n d ++ (part ++ rest))) (sym (length-take-le n d l))
      ∙ take-append-add (take n d) (part ++ rest) k
      ∙ rw (take_at part rest k m, e, h, take-add n k t)

  pub fill_done : length d ≤ n → length t ≤ n → d ≡ t
  fill_done l m = sym (take_all n d l) ∙ e ∙ take_all n t m

module _ (t d : List ℤ) (n : ℕ) (e : take n d ≡ take n t) where
  pub fill_at : (i : ℕ) → i < n → at d i ≡ at t i
  fill_at i l = sym (get_or-take n d i (pos 0) l) ∙ ap (λ (f : List ℤ). at f i) e ∙ get_or-take n t i (pos 0) l

  pub fill_next : (v : ℤ) → n < length d → n < length t → v ≡ at t n → take (n + 1) (set d n v) ≡ take (n + 1) t
  fill_next = next t d n e (pos 0)

-- ---- towards g of each element
pub get_d_map : {A B : Type 0} (g : A → B) (r : List A) (n : ℕ) (x : A) (y : B) → n < length r → get_or (map g r) n y ≡ g (get_or r n x)
get_d_map g [] n x y l = absurd (omega arith)
get_d_map g (z ∷ r) zero x y l = refl
get_d_map g (z ∷ r) (suc n) x y l = get_d_map g r n x y (omega arith)

module _ {A B : Type 0} (g : A → B) (r : List A) (d : List B) (n : ℕ) (e : take n d ≡ take n (map g r)) where
  pub map_next : (x : A) (v : B) → n < length d → n < length r → v ≡ g (get_or r n x) → take (n + 1) (set d n v) ≡ take (n + 1) (map g r)
  map_next x v l m h = next (map g r) d n e v v l (rw (length-map r g) m) (h ∙ sym (get_d_map g r n x v m))

  pub map_done : length d ≡ length r → length r ≤ n → d ≡ map g r
  map_done k l = fill_done (map g r) d n e (omega arith) (rw (length-map r g) l)

-- ---- from some place on
pub record Filled (t r d : List ℤ) (n : ℕ) : Type 0 where
  pub same : length d ≡ length r
  pub front : (i : ℕ) → i < n → at d i ≡ at t i
  pub rest : (i : ℕ) → n ≤ i → at d i ≡ at r i

pub filled_start : {t r : List ℤ} {n : ℕ} → ((i : ℕ) → i < n → at r i ≡ at t i) → Filled t r r n
filled_start h = record { same = refl; front = h; rest = λ i l. refl }

pub filled_next : {t r d : List ℤ} {n : ℕ} → Filled t r d n → n < length r → {v : ℤ} → v ≡ at t n → Filled t r (set d n v) (n + 1)
filled_next {t} {d} {n} h l {v} e = record {
  same = length-set d n v ∙ h.same;
  front = λ i k. go i (ℕ_discrete i n) k;
  rest = λ i k. get_or-set_other d n i v (pos 0) (λ q. omega arith) ∙ h.rest i (omega arith);
}
  where
    go : (i : ℕ) → Dec (i ≡ n) → i < n + 1 → at (set d n v) i ≡ at t i
    go i (yes q) k = ap (at (set d n v)) q ∙ get_or-set_same d n v (pos 0) (omega (arith, h.same)) ∙ e ∙ ap (at t) (sym q)
    go i (no q) k = get_or-set_other d n i v (pos 0) q ∙ h.front i (omega arith)

pub filled_done : {t r d : List ℤ} {n : ℕ} → Filled t r d n → length t ≡ length r → ((i : ℕ) → n ≤ i → i < length r → at r i ≡ at t i) → d ≡ t
filled_done {t} {r} {d} {n} h e k = ext_get_or (pos 0) d t (h.same ∙ sym e) (λ i l. go i (dec_lt i n) (omega (arith, h.same)))
  where
    go : (i : ℕ) → Dec (i < n) → i < length r → at d i ≡ at t i
    go i (yes q) l = h.front i q
    go i (no q) l = h.rest i (omega arith) ∙ k i (omega arith) l
