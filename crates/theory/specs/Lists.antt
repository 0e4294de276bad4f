-- Lists made of their elements, and how large those are.
--   Sized M f   no element of f is larger than M; its field `size i` holds past the end too, where f reads as 0
-- Laws: length_list_of, at_list_of, list_of_ext, list_of_at (a list is that of its elements), list_of_const, list_of_map; at_past;
-- sized (from the elements there are), sized_list_of, sized_set.
use Rattle.std.specs.Prelude.{◌≡◌, refl, List, ◌∷◌, map, ℕ, zero, suc, ◌≤◌, ◌<◌, length, replicate, set, ℤ, pos}
use Rattle.std.proofs.Common.{sym, ◌∙◌, ap, ap₂, arith, length-set, ext_get_or, get_or-set_same, get_or-set_other}
use Rattle.std.proofs.Math.Decide.{dec_lt, ℕ_discrete}
use Rattle.std.proofs.Math.ListN.{get_or-eq_default}
use Rattle.algebra.specs.Size.{Abs}
use Rattle.meaning.specs.Extension.{at}
use Rattle.meaning.specs.Smoothing.{list_of}

-- ---- elements
pub length_list_of : (n : ℕ) (g : ℕ → ℤ) → length (list_of n g) ≡ n
unfolding list_of
length_list_of zero g = refl
length_list_of (suc n) g = ap suc (length_list_of n (λ i. g (suc i)))

pub at_list_of : (n : ℕ) (g : ℕ → ℤ) (i : ℕ) → i < n → at (list_of n g) i ≡ g i
unfolding list_of
at_list_of zero g i h = absurd (omega arith)
at_list_of (suc n) g zero h = refl
at_list_of (suc n) g (suc i) h = at_list_of n (λ i. g (suc i)) i (omega arith)

pub list_of_ext : (n : ℕ) {g h : ℕ → ℤ} → ((i : ℕ) → i < n → g i ≡ h i) → list_of n g ≡ list_of n h
unfolding list_of
list_of_ext zero e = refl
list_of_ext (suc n) e = ap₂ ◌∷◌ (e 0 (omega arith)) (list_of_ext n (λ i l. e (suc i) (omega arith)))

pub list_of_at : (n : ℕ) (f : List ℤ) → length f ≡ n → list_of n (at f) ≡ f
list_of_at n f e = ext_get_or (pos 0) _ f (length_list_of n (at f) ∙ sym e) (λ i l. at_list_of n (at f) i (omega (arith, length_list_of n (at f))))

pub list_of_const : (n : ℕ) (x : ℤ) → list_of n (λ i. x) ≡ replicate n x
unfolding list_of
list_of_const zero x = refl
list_of_const (suc n) x = ap (λ l. x ∷ l) (list_of_const n x)

pub list_of_map : (h : ℤ → ℤ) (n : ℕ) (g : ℕ → ℤ) → list_of n (λ i. h (g i)) ≡ map h (list_of n g)
unfolding list_of
list_of_map h zero g = refl
list_of_map h (suc n) g = ap (λ l. h (g 0) ∷ l) (list_of_map h n (λ i. g (suc i)))

pub at_past : (f : List ℤ) (i : ℕ) → length f ≤ i → at f i ≡ pos 0
at_past f i h = get_or-eq_default f (pos 0) h

-- ---- sizes
pub record Sized (M : ℕ) (f : List ℤ) : Type 0 where
  pub size : (i : ℕ) → Abs (at f i) M

pub sized : {M : ℕ} (f : List ℤ) → ((i : ℕ) → i < length f → Abs (at f i) M) → Sized M f
sized {M} f h = record { size = λ i. go i (dec_lt i (length f)) }
  where
    go : (i : ℕ) → Dec (i < length f) → Abs (at f i) M
    go i (yes l) = h i l
    go i (no l) = rw (at_past f i (omega arith)) (omega arith)

pub sized_list_of : {M : ℕ} (n : ℕ) (g : ℕ → ℤ) → ((i : ℕ) → i < n → Abs (g i) M) → Sized M (list_of n g)
sized_list_of n g h = sized (list_of n g) (λ i l. rw (at_list_of n g i (omega (arith, length_list_of n g))) (h i (omega (arith, length_list_of n g))))

pub sized_set : {M : ℕ} {f : List ℤ} → Sized M f → (p : ℕ) {v : ℤ} → Abs v M → Sized M (set f p v)
sized_set {M} {f} h p {v} k = sized (set f p v) (λ i l. go i (omega (arith, length-set f p v)) (ℕ_discrete i p))
  where
    go : (i : ℕ) → i < length f → Dec (i ≡ p) → Abs (at (set f p v) i) M
    go i l (yes e) = rw (e, get_or-set_same f p v (pos 0) (omega arith)) k
    go i l (no e) = rw (get_or-set_other f p i v (pos 0) e) (h.size i)
