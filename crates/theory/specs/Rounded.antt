-- A quotient rounded by a mode: a half to the even neighbour in mode 0, else upward.
--   downward z d     z over d to the nearest whole number, a half downward
--   goes_up mode q    the half above q goes up
-- Laws: even_twice (an even number is twice a whole one);
-- rounded_below, rounded_above (by quotient and rest: the one below, or the one above), rounded_nearest (no whole number is nearer), rounded_size;
-- nearest_even_half (of two as near, the even one), nearest_even_negated (of the negative, the negative).
use Rattle.std.specs.Prelude.{ℕ, zero, suc, ◌+◌, ◌*◌, ◌≤◌, ◌<◌, ◌≡◌, ◌⊎◌, Bool, ◌||◌, eqb, ℤ, negsuc, nat_abs, ◌+ℤ◌, ◌-ℤ◌, ◌*ℤ◌, ◌≤ℤ◌}
use Rattle.std.proofs.Math.Path.{refl, sym, ap}
use Rattle.std.proofs.Common.{◌∙◌, inl, inr, ⊎_elim, arith, eqb-true}
use Rattle.std.proofs.Math.Bool.{true, false, cond, not, not-not}
use Rattle.std.proofs.Math.Decide.{dec_lt}
use Rattle.std.proofs.Math.IntN.{pos, neg_ℤ, +ℤ_idr, neg_ℤ-+ℤ, neg_ℤ-neg_ℤ}
use Rattle.algebra.specs.Order.{zarith, of+, of-, of_neg, ≤ℤ-antisym}
use Rattle.algebra.specs.Size.{nat_abs_neg}
use Rattle.algebra.specs.Ring.{*ℤ-negℤ}
use Rattle.algebra.specs.Division.{Divided, divided_next, divided_turn, divided_neg_whole, divided_neg}
use Rattle.meaning.specs.Extension.{emod}
use Rattle.meaning.specs.Values.{floor, nearest, even, nearest_even, rounded}
use Rattle.theory.specs.Remainder.{emod_divided, emod_is}
use Rattle.theory.specs.Nearest.{nearest_below, nearest_above, nearest_size, nearest_nearest, nearest_half}

-- ---- even and odd
even_next : (q : ℤ) → even (q +ℤ pos 1) ≡ not (even q)
unfolding even
even_next q = go (emod q 2) (emod_divided q (omega arith))
  where
    go : (r : ℕ) → Divided q 2 (floor q 2) r → eqb (emod (q +ℤ pos 1) 2) 0 ≡ not (eqb r 0)
    go zero d = rw (emod_is (divided_next d (omega arith)))
    go (suc zero) d = rw (emod_is (divided_turn d refl))
    go (suc (suc r)) d = absurd (omega (arith, d.below))

even_neg : (q : ℤ) → even (neg_ℤ q) ≡ even q
unfolding even
even_neg q = go (emod q 2) (emod_divided q (omega arith))
  where
    go : (r : ℕ) → Divided q 2 (floor q 2) r → eqb (emod (neg_ℤ q) 2) 0 ≡ eqb r 0
    go zero d = rw (emod_is (divided_neg_whole d))
    go (suc zero) d = rw (emod_is (divided_neg d (omega arith)))
    go (suc (suc r)) d = absurd (omega (arith, d.below))

pub even_twice : (q : ℤ) → even q ≡ true → (h : ℤ) × (q ≡ pos 2 *ℤ h)
unfolding even
even_twice q e = (floor q 2, rw (eqb-true (emod q 2) 0 e) at (emod_divided q {p = 2} (omega arith)).is ∙ +ℤ_idr (pos 2 *ℤ floor q 2))

-- ---- a half downward
abbrev downward : ℤ → ℕ → ℤ
downward z d = neg_ℤ (nearest (neg_ℤ z) d)

module _ {z : ℤ} {d : ℕ} {q : ℤ} where
  down_below : {r : ℕ} → Divided z d q r → 2 * r ≤ d → downward z d ≡ q
  down_below {r = zero} h l = ap neg_ℤ (nearest_below (divided_neg_whole h) h.below) ∙ neg_ℤ-neg_ℤ q
  down_below {r = suc r} h l = ap neg_ℤ (nearest_above (divided_neg h (omega arith)) (omega (arith, h.below))) ∙ omega (zarith, of_neg (negsuc 0 -ℤ q +ℤ pos 1), of+ (negsuc 0 -ℤ q) (pos 1), of- (negsuc 0) q)

  down_above : {r : ℕ} → Divided z d q r → d < 2 * r → downward z d ≡ q +ℤ pos 1
  down_above {r = r} h l = ap neg_ℤ (nearest_below (divided_neg h (omega arith)) (omega (arith, h.below))) ∙ omega (zarith, of_neg (negsuc 0 -ℤ q), of- (negsuc 0) q, of+ q (pos 1))

-- ---- a half to the even neighbour, by quotient and rest
cond_same : {A : Type 0} (b : Bool) (x : A) → cond b x x ≡ x
cond_same true x = refl
cond_same false x = refl

cond_not : {A : Type 0} (b : Bool) (x y : A) → cond (not b) x y ≡ cond b y x
cond_not true x y = refl
cond_not false x y = refl

module _ {z : ℤ} {d : ℕ} {q : ℤ} {r : ℕ} (h : Divided z d q r) where
  nearest_even_below : 2 * r < d → nearest_even z d ≡ q
  unfolding nearest_even
  nearest_even_below l = rw (nearest_below h l, down_below h (omega arith)) (cond_same (even q) q)

  nearest_even_above : d < 2 * r → nearest_even z d ≡ q +ℤ pos 1
  unfolding nearest_even
  nearest_even_above l = rw (nearest_above h (omega arith), down_above h l) (cond_same (even (q +ℤ pos 1)) (q +ℤ pos 1))

  nearest_even_tie : 2 * r ≡ d → nearest_even z d ≡ cond (even q) q (q +ℤ pos 1)
  unfolding nearest_even
  nearest_even_tie l = rw (nearest_above h (omega arith), down_below h (omega arith), even_next q) (cond_not (even q) (q +ℤ pos 1) q)

-- ---- by a mode
abbrev pub goes_up : ℕ → ℤ → Bool
goes_up mode q = not (eqb mode 0) || not (even q)

module _ {z : ℤ} {d : ℕ} {q : ℤ} {r : ℕ} (h : Divided z d q r) (mode : ℕ) where
  pub rounded_below : 2 * r + cond (goes_up mode q) 1 0 ≤ d → rounded mode z d ≡ q
  rounded_below l = go (eqb mode 0) (even q) refl l (dec_lt (2 * r) d)
    where
      go : (m e : Bool) → even q ≡ e → 2 * r + cond (not m || not e) 1 0 ≤ d → Dec (2 * r < d) → cond m (nearest_even z d) (nearest z d) ≡ q
      go false e i l k = nearest_below h (omega arith)
      go true e i l (yes k) = nearest_even_below h k
      go true true i l (no k) = nearest_even_tie h (omega arith) ∙ rw i
      go true false i l (no k) = absurd (omega arith)

  pub rounded_above : d < 2 * r + cond (goes_up mode q) 1 0 → rounded mode z d ≡ q +ℤ pos 1
  rounded_above l = go (eqb mode 0) (even q) refl l (dec_lt d (2 * r))
    where
      go : (m e : Bool) → even q ≡ e → d < 2 * r + cond (not m || not e) 1 0 → Dec (d < 2 * r) → cond m (nearest_even z d) (nearest z d) ≡ q +ℤ pos 1
      go false e i l k = nearest_above h (omega arith)
      go true e i l (yes k) = nearest_even_above h k
      go true false i l (no k) = nearest_even_tie h (omega arith) ∙ rw i
      go true true i l (no k) = absurd (omega arith)

-- ---- how near it is
-- what holds of upward and of downward holds of rounded
rounded_of : (P : ℤ → Type 0) (mode : ℕ) (z : ℤ) (d : ℕ) → P (nearest z d) → P (downward z d) → P (rounded mode z d)
unfolding nearest_even
rounded_of P mode z d up down = go (eqb mode 0) (even (nearest z d))
  where
    go : (m e : Bool) → P (cond m (cond e (nearest z d) (downward z d)) (nearest z d))
    go false e = up
    go true true = up
    go true false = down

module _ (d : ℕ) (h : 0 < d) (z : ℤ) where
  abbrev far : ℤ → ℕ
  far k = nat_abs (z -ℤ pos d *ℤ k)

  -- the same of the negatives
  far_negated : (k : ℤ) → nat_abs (neg_ℤ z -ℤ pos d *ℤ neg_ℤ k) ≡ far k
  far_negated k = ap nat_abs (ap (λ x. neg_ℤ z -ℤ x) (*ℤ-negℤ (pos d) k) ∙ sym (neg_ℤ-+ℤ z (neg_ℤ (pos d *ℤ k)))) ∙ nat_abs_neg (z -ℤ pos d *ℤ k)

  far_downward : nat_abs (neg_ℤ z -ℤ pos d *ℤ nearest (neg_ℤ z) d) ≡ far (downward z d)
  far_downward = ap (λ x. nat_abs (neg_ℤ z -ℤ pos d *ℤ x)) (sym (neg_ℤ-neg_ℤ (nearest (neg_ℤ z) d))) ∙ far_negated (downward z d)

  pub rounded_nearest : (mode : ℕ) (k : ℤ) → far (rounded mode z d) ≤ far k
  rounded_nearest mode k = rounded_of (λ x. far x ≤ far k) mode z d (nearest_nearest d h z k) (rw (far_downward, far_negated k) at (nearest_nearest d h (neg_ℤ z) (neg_ℤ k)))

  pub rounded_size : (mode M : ℕ) → nat_abs z ≤ M * d → nat_abs (rounded mode z d) ≤ M
  rounded_size mode M l = rounded_of (λ x. nat_abs x ≤ M) mode z d (nearest_size d h z M l) (rw (nat_abs_neg (nearest (neg_ℤ z) d)) (nearest_size d h (neg_ℤ z) M (rw (nat_abs_neg z) l)))

  -- upward and downward are one, or at a half neighbours
  sides : (nearest z d ≡ downward z d) ⊎ (nearest z d ≡ downward z d +ℤ pos 1)
  sides = go (dec_lt (2 * emod z d) d) (dec_lt d (2 * emod z d))
    where
      v : Divided z d (floor z d) (emod z d)
      v = emod_divided z h

      go : Dec (2 * emod z d < d) → Dec (d < 2 * emod z d) → (nearest z d ≡ downward z d) ⊎ (nearest z d ≡ downward z d +ℤ pos 1)
      go (yes l) m = inl (nearest_below v l ∙ sym (down_below v (omega arith)))
      go (no l) (yes m) = inl (nearest_above v (omega arith) ∙ sym (down_above v m))
      go (no l) (no m) = inr (nearest_above v (omega arith) ∙ ap (λ q. q +ℤ pos 1) (sym (down_below v (omega arith))))

  -- ---- where they are one
  one_even : nearest z d ≡ downward z d → nearest_even z d ≡ nearest z d
  unfolding nearest_even
  one_even e = ap (cond (even (nearest z d)) (nearest z d)) (sym e) ∙ cond_same (even (nearest z d)) (nearest z d)

  one_nearest : nearest z d ≡ downward z d → (k : ℤ) → far k ≡ far (nearest z d) → k ≡ nearest z d
  one_nearest e k i =
      let high : neg_ℤ k ≤ℤ nearest (neg_ℤ z) d = nearest_half d h (neg_ℤ z) (neg_ℤ k) (far_negated k ∙ i ∙ ap far e ∙ sym far_downward) in
      ≤ℤ-antisym (nearest_half d h z k i) (omega (zarith, e, of_neg k, of_neg (nearest (neg_ℤ z) d)))

  one_negated : nearest z d ≡ downward z d → nearest_even (neg_ℤ z) d ≡ neg_ℤ (nearest_even z d)
  unfolding nearest_even
  one_negated e = rw (neg_ℤ-neg_ℤ z, e, neg_ℤ-neg_ℤ (nearest (neg_ℤ z) d)) (cond_same (even (nearest (neg_ℤ z) d)) _ ∙ sym (ap neg_ℤ (cond_same (even (downward z d)) (downward z d)) ∙ neg_ℤ-neg_ℤ (nearest (neg_ℤ z) d)))

  -- ---- where they are neighbours
  two_even : nearest z d ≡ downward z d +ℤ pos 1 → even (nearest z d) ≡ not (even (downward z d))
  two_even e = ap even e ∙ even_next (downward z d)

  two_chosen : nearest z d ≡ downward z d +ℤ pos 1 → even (nearest_even z d) ≡ true
  unfolding nearest_even
  two_chosen e = go (even (nearest z d)) refl (two_even e)
    where
      go : (b : Bool) → even (nearest z d) ≡ b → even (nearest z d) ≡ not (even (downward z d)) → even (cond b (nearest z d) (downward z d)) ≡ true
      go true i j = i
      go false i j = sym (not-not (even (downward z d))) ∙ ap not (sym j ∙ i)

  two_negated : nearest z d ≡ downward z d +ℤ pos 1 → nearest_even (neg_ℤ z) d ≡ neg_ℤ (nearest_even z d)
  unfolding nearest_even
  two_negated e = rw (neg_ℤ-neg_ℤ z, two_even e, even_neg (nearest (neg_ℤ z) d)) (go (even (nearest (neg_ℤ z) d)))
    where
      go : (b : Bool) → cond b (nearest (neg_ℤ z) d) (neg_ℤ (nearest z d)) ≡ neg_ℤ (cond (not b) (nearest z d) (downward z d))
      go true = sym (neg_ℤ-neg_ℤ (nearest (neg_ℤ z) d))
      go false = refl

  pub nearest_even_half : (k : ℤ) → far k ≡ far (nearest_even z d) → (k ≡ nearest_even z d → ⊥) → even (nearest_even z d) ≡ true
  nearest_even_half k i n = ⊎_elim (λ e. absurd (n (one_nearest e k (i ∙ ap far (one_even e)) ∙ sym (one_even e)))) two_chosen sides

  pub nearest_even_negated : nearest_even (neg_ℤ z) d ≡ neg_ℤ (nearest_even z d)
  nearest_even_negated = ⊎_elim one_negated two_negated sides
