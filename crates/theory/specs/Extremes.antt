-- The first of the lowest, and of the highest.
--   Beating beats        what `beats` must be for the laws
--   Best beats r n b     of the first n results of r, b is the first that none beats
-- Laws: beating_lower, beating_higher; best_start, best_stays, best_next (a loop that holds the best so far), best_done; unbeaten_best;
-- lowest_place, highest_place (the first index of a result that none is below, and of one that none is above).
use Rattle.std.specs.Prelude.{ℕ, zero, suc, ◌+◌, ◌-◌, ◌<◌, ◌≡◌, refl, Bool, true, false, List, length, ℤ, pos, ◌≤ℤ◌}
use Rattle.std.proofs.Common.{sym, ◌∙◌, true≢false, add-one, arith, below_more}
use Rattle.std.proofs.Math.Path.{ap}
use Rattle.std.proofs.Math.Bool.{not}
use Rattle.std.specs.Int.Signed.{lt_z, <ℤ-≤ℤ_trans, clash_ℤ}
use Rattle.algebra.specs.Order.{≤ℤ-<ℤ-trans, <ℤ-weaken}
use Rattle.meaning.specs.Extension.{at}
use Rattle.meaning.specs.Values.{unbeaten, lowest_in, highest_in}
use Rattle.meaning.specs.Bounds.{FirstAt}
use Rattle.theory.specs.Tests.{some_at, some_none, lt_z_true, lt_z_false, lt_lt_z, le_lt_z}
use Rattle.theory.specs.Places.{first_where_is}

pub record Beating (beats : ℤ → ℤ → Bool) : Type 0 where
  pub turned : (x y : ℤ) → beats x y ≡ true → beats y x ≡ false
  pub further : (x y z : ℤ) → beats x y ≡ true → beats z y ≡ false → beats x z ≡ true

pub beating_lower : Beating lt_z
beating_lower = record {
  turned = λ x y h. le_lt_z y x (<ℤ-weaken (lt_z_true x y h));
  further = λ x y z h k. lt_lt_z x z (<ℤ-≤ℤ_trans (lt_z_true x y h) (lt_z_false z y k));
}

pub beating_higher : Beating (λ x y. lt_z y x)
beating_higher = record {
  turned = λ x y h. le_lt_z x y (<ℤ-weaken (lt_z_true y x h));
  further = λ x y z h k. lt_lt_z z x (≤ℤ-<ℤ-trans (lt_z_false y z k) (lt_z_true y x h));
}

pub record Best (beats : ℤ → ℤ → Bool) (r : List ℤ) (n b : ℕ) : Type 0 where
  pub within : b < n
  pub unbeaten : (j : ℕ) → j < n → beats (at r j) (at r b) ≡ false
  pub first : (j : ℕ) → j < b → beats (at r b) (at r j) ≡ true

module _ {beats : ℤ → ℤ → Bool} (o : Beating beats) where
  self : (x : ℤ) → beats x x ≡ false
  self x = go (beats x x) refl
    where
      go : (t : Bool) → beats x x ≡ t → t ≡ false
      go true e = absurd (true≢false (sym e ∙ o.turned x x e))
      go false e = refl

  module _ (r : List ℤ) where
    -- ---- the best so far
    pub best_start : Best beats r 1 0
    best_start = record { within = omega arith; unbeaten = λ j l. let e : j ≡ 0 = omega arith in rw e (self (at r 0)); first = λ j l. absurd (omega arith) }

    pub best_stays : {n b : ℕ} → Best beats r n b → beats (at r n) (at r b) ≡ false → Best beats r (n + 1) b
    best_stays {n} {b} h e = record { within = omega (arith, h.within); unbeaten = below_more (λ j. beats (at r j) (at r b) ≡ false) n h.unbeaten e; first = h.first }

    pub best_next : {n b : ℕ} → Best beats r n b → beats (at r n) (at r b) ≡ true → Best beats r (n + 1) n
    best_next {n} {b} h e = record { within = omega arith; unbeaten = below_more (λ j. beats (at r j) (at r n) ≡ false) n (λ j l. o.turned (at r n) (at r j) (ahead j l)) (self (at r n)); first = ahead }
      where
        ahead : (j : ℕ) → j < n → beats (at r n) (at r j) ≡ true
        ahead j l = o.further (at r n) (at r b) (at r j) e (h.unbeaten j l)

    pub best_done : {b : ℕ} → Best beats r (length r) b → unbeaten beats r ≡ b
    unfolding unbeaten
    best_done {b} h = first_where_is (length r) b h.within
        (ap not (some_none (λ z. beats z (at r b)) r (pos 0) h.unbeaten))
        (λ j l. ap not (some_at (λ z. beats z (at r j)) r (pos 0) b h.within (h.first j l)))

    -- ---- the best of all
    best : (n : ℕ) → (b : ℕ) × Best beats r (suc n) b
    best zero = (0, best_start)
    best (suc n) = let (b, h) = best n in go b h (beats (at r (suc n)) (at r b)) refl
      where
        go : (b : ℕ) → Best beats r (suc n) b → (t : Bool) → beats (at r (suc n)) (at r b) ≡ t → (b : ℕ) × Best beats r (suc (suc n)) b
        go b h true e = (suc n, rw add-one at (best_next h e))
        go b h false e = (b, rw add-one at (best_stays h e))

    pub unbeaten_best : 0 < length r → Best beats r (length r) (unbeaten beats r)
    unbeaten_best l =
        let (b, h) = best (length r - 1) in
        let whole : suc (length r - 1) ≡ length r = omega arith in
        let k : Best beats r (length r) b = rw whole at h in
        rw (best_done k) k

module _ (r : List ℤ) (l : 0 < length r) where
  pub lowest_place : FirstAt (length r) (λ i. (j : ℕ) → j < length r → at r i ≤ℤ at r j) (lowest_in r)
  lowest_place =
      let b = unbeaten_best beating_lower r l in
      record {
        within = b.within;
        here = λ j k. lt_z_false _ _ (b.unbeaten j k);
        before = λ j k h. clash_ℤ (lt_z_true _ _ (b.first j k)) (h _ b.within);
      }

  pub highest_place : FirstAt (length r) (λ i. (j : ℕ) → j < length r → at r j ≤ℤ at r i) (highest_in r)
  highest_place =
      let b = unbeaten_best beating_higher r l in
      record {
        within = b.within;
        here = λ j k. lt_z_false _ _ (b.unbeaten j k);
        before = λ j k h. clash_ℤ (lt_z_true _ _ (b.first j k)) (h _ b.within);
      }
