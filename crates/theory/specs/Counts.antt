-- At how many places a test is true, and how many results changed.
-- Laws: count_ext, count_none, count_more (one place more), count_at (at one place alone), count_within; how_many (so many have the property tested), how_many_one (it is one number), how_many_some; changed_none, changed_where.
use Rattle.std.specs.Prelude.{◌≡◌, refl, ◌≢◌, Bool, true, false, cond, ◌&&◌, ◌||◌, List, ℕ, zero, suc, ◌+◌, ◌-◌, ◌≤◌, ◌<◌, min, length, ℤ, eqb}
use Rattle.std.proofs.Common.{sym, ap, subst, ◌∙◌, true≢false, arith, le-leb, lt-ltb, le-ltb, eq-eqb, ne_eqb}
use Rattle.std.proofs.Math.Decide.{ℕ_discrete, dec_le, dec_lt}
use Rattle.std.proofs.Math.Numerals.{unary_clauses}
use Rattle.std.specs.Int.Signed.{lt_z, ≤ℤ_refl}
use Rattle.std.proofs.lemmas.Bool.{lt-leb}
use Rattle.algebra.specs.Order.{≤ℤ-antisym}
use Rattle.meaning.specs.Extension.{at}
use Rattle.meaning.specs.Refusals.{count_where, within}
use Rattle.meaning.specs.Calls.{changed}
use Rattle.meaning.specs.Bounds.{HowMany, none, one_more, no_more}
use Rattle.theory.specs.Tests.{lt_z_false, le_lt_z}

pub count_ext : (N : ℕ) {t u : ℕ → Bool} → ((i : ℕ) → i < N → t i ≡ u i) → count_where N t ≡ count_where N u
unfolding count_where
count_ext zero e = refl
count_ext (suc N) {t} {u} e = rw (e N (omega arith), count_ext N {t = t} {u = u} (λ i l. e i (omega arith)))

pub count_none : (N : ℕ) {t : ℕ → Bool} → ((i : ℕ) → i < N → t i ≡ false) → count_where N t ≡ 0
unfolding count_where
count_none zero e = refl
count_none (suc N) {t} e = rw (e N (omega arith), count_none N {t = t} (λ i l. e i (omega arith)))

-- t is true where u is, and at i
pub count_more : (N i : ℕ) {t u : ℕ → Bool} → i < N → t i ≡ true → u i ≡ false → ((j : ℕ) → j < N → j ≢ i → t j ≡ u j) → count_where N t ≡ count_where N u + 1
unfolding count_where
count_more zero i l h k e = absurd (omega arith)
count_more (suc N) i {t} {u} l h k e = go (ℕ_discrete N i) (λ l. count_more N i {t = t} {u = u} l h k (λ j m. e j (omega arith)))
  where
    go : Dec (N ≡ i) → (i < N → count_where N t ≡ count_where N u + 1) → count_where (suc N) t ≡ count_where (suc N) u + 1
    go (yes m) r = rw (m, h, k, count_ext i {t = t} {u = u} (λ j l. e j (omega arith) (λ z. omega arith))) (omega arith)
    go (no m) r = rw (e N (omega arith) m, r (omega arith)) (omega arith)

pub count_at : (N p : ℕ) (t : ℕ → Bool) → p < N → t p ≡ true → count_where N (λ i. eqb i p && t i) ≡ 1
count_at N p t l h = count_more N p {t = λ i. eqb i p && t i} {u = λ i. false} l (rw (eq-eqb p p refl, h)) refl (λ j m n. rw (ne_eqb j p n)) ∙ rw (count_none N {t = λ i. false} (λ i m. refl))

pub count_within : (lo hi N : ℕ) → count_where N (within lo hi) ≡ min N hi - lo
unfolding count_where
count_within lo hi zero = omega arith
count_within lo hi (suc N) = go (count_within lo hi N) (dec_le lo N) (dec_lt N hi)
  where
    go : count_where N (within lo hi) ≡ min N hi - lo → Dec (lo ≤ N) → Dec (N < hi) → count_where N (within lo hi) + cond (within lo hi N) 1 0 ≡ min (suc N) hi - lo
    go ih (yes a) (yes b) = rw (le-leb lo N a, lt-ltb N hi b) (omega arith)
    go ih (yes a) (no b) = rw (le-leb lo N a, le-ltb N hi (omega arith)) (omega arith)
    go ih (no a) b = rw (lt-leb lo N (omega arith)) (omega arith)

-- ---- by the property that is tested
pub how_many : (N : ℕ) (t : ℕ → Bool) {P : ℕ → Type 0} → ((i : ℕ) → i < N → t i ≡ true → P i) → ((i : ℕ) → i < N → P i → t i ≡ true) → HowMany P N (count_where N t)
unfolding count_where
how_many zero t to from = none
how_many (suc N) t {P} to from = go (t N) (to N (omega arith)) (from N (omega arith)) (how_many N t (λ i l. to i (omega arith)) (λ i l. from i (omega arith)))
  where
    go : (b : Bool) → (b ≡ true → P N) → (P N → b ≡ true) → HowMany P N (count_where N t) → HowMany P (suc N) (count_where N t + cond b 1 0)
    go true to from h = simp unary_clauses (one_more (to refl) h)
    go false to from h = simp unary_clauses (no_more (λ p. true≢false (sym (from p))) h)

module _ {P : ℕ → Type 0} where
  pub how_many_one : (N : ℕ) {k m : ℕ} → HowMany P N k → HowMany P N m → k ≡ m
  how_many_one zero none none = refl
  how_many_one (suc N) (one_more p h) (one_more q g) = ap suc (how_many_one N h g)
  how_many_one (suc N) (one_more p h) (no_more q g) = absurd (q p)
  how_many_one (suc N) (no_more p h) (one_more q g) = absurd (p q)
  how_many_one (suc N) (no_more p h) (no_more q g) = how_many_one N h g

  pub how_many_some : (N i : ℕ) {k : ℕ} → HowMany P N k → i < N → P i → 0 < k
  how_many_some zero i none l p = absurd (omega arith)
  how_many_some (suc N) i (one_more q h) l p = omega arith
  how_many_some (suc N) i {k} (no_more q h) l p = go (ℕ_discrete i N) (λ m. how_many_some N i h m p)
    where
      go : Dec (i ≡ N) → (i < N → 0 < k) → 0 < k
      go (yes e) r = absurd (q (subst P e p))
      go (no e) r = r (omega arith)

-- ---- results that changed
unlike : (a b : ℤ) → b ≢ a → (lt_z a b || lt_z b a) ≡ true
unlike a b h = go (lt_z a b) (lt_z b a) refl refl
  where
    go : (x y : Bool) → lt_z a b ≡ x → lt_z b a ≡ y → (x || y) ≡ true
    go true y e f = refl
    go false true e f = refl
    go false false e f = absurd (h (≤ℤ-antisym (lt_z_false a b e) (lt_z_false b a f)))

alike : (a b : ℤ) → b ≡ a → (lt_z a b || lt_z b a) ≡ false
alike a b e = rw e (rw (le_lt_z a a (≤ℤ_refl a)) refl)

pub changed_where : (r new : List ℤ) (t : ℕ → Bool) → ((n : ℕ) → n < length r → t n ≡ true → at new n ≢ at r n) → ((n : ℕ) → n < length r → t n ≡ false → at new n ≡ at r n) → changed r new ≡ count_where (length r) t
unfolding changed
changed_where r new t h k = count_ext (length r) (λ n l. go n (t n) (h n l) (k n l))
  where
    go : (n : ℕ) (b : Bool) → (b ≡ true → at new n ≢ at r n) → (b ≡ false → at new n ≡ at r n) → (lt_z (at r n) (at new n) || lt_z (at new n) (at r n)) ≡ b
    go n true h k = unlike (at r n) (at new n) (h refl)
    go n false h k = alike (at r n) (at new n) (k refl)

pub changed_none : (r : List ℤ) → changed r r ≡ 0
unfolding changed
changed_none r = count_none (length r) (λ n l. alike (at r n) (at r n) refl)
