-- Doubles that are whole numbers, and the whole number that each is cut to.
-- Laws: takes_whole, whole_takes (a double is taken exactly where it is a whole number of size at most the bound);
-- taken_size, taken_same (what it is cut to has at most that size, and is that double), back_taken (a whole number as a double is taken as that number), minus_zero;
-- low_untaken, high_untaken, large_untaken, cut_taken (the tests by which code takes one); zero_cut, taken_casts (its cast to a signed number).
-- A number of h is signed, and has h bits beside its sign.
use Rattle.std.specs.Prelude.{◌≡◌, refl, ◌⊎◌, Bool, true, false, cond, ℕ, zero, suc, ◌+◌, ◌*◌, ◌-◌, ◌/◌, ◌%◌, ◌^◌, ◌≤◌, ◌<◌, min, T, eqb, ℤ, pos, negsuc, neg_ℤ, nat_abs, Float}
use Rattle.std.proofs.Common.{sym, ap, ◌∙◌, inl, inr, true≢false, arith, le_refl, mul-one, zero-mul, mul_right_comm, mul-div_cancel, div-add-mod', mul-lt-mul_of_pos_right, leb-true, eqb-true, le-leb, lt-ltb, le-ltb, eq-eqb, ne_eqb}
use Rattle.std.proofs.Math.Logic.{⊎_map}
use Rattle.std.specs.Bool.{beq}
use mathlib.Mathlib.Data.Bool.Basic.{eq-false_of_not-eq-true}
use Rattle.std.proofs.Math.Nat.{mul-mod_left, eq_of_mul-eq-mul_right}
use Rattle.std.specs.Int.Signed.{lt_z}
use Rattle.std.specs.Float.{nan, inf, fin, binary64}
use Rattle.std.specs.Float.Ieee.{up, down, of_int, to_signed, lt, le, eq, whole, in_signed}
use Rattle.std.specs.Float.Ieee.Fits.{down_pos}
use Rattle.algebra.specs.Size.{nat_abs_neg}
use Rattle.meaning.specs.Limits.{max_result}
use Rattle.meaning.specs.Values.{takes, plus_zero}
use Rattle.meaning.specs.Bounds.{WholeDouble}
use Rattle.theory.specs.Tests.{and_yes, yes_and, yes_or, same_when}
use Rattle.theory.specs.Values.{whole_exact}

-- ---- which doubles are taken: a finite one is m times up e over down e, and a whole number q where m times up e is q times down e
cut_at : (m : ℕ) (e : ℤ) (q : ℕ) → m * up e * 1 ≡ q * down e → (m * up e / down e ≡ q) × (m * up e % down e ≡ 0)
cut_at m e q v = let h : m * up e ≡ q * down e = sym (mul-one (m * up e)) ∙ v in rw h (mul-div_cancel q (down_pos e), mul-mod_left q (down e))

pub takes_whole : (M : ℕ) (x : Float) → takes M x ≡ true → WholeDouble M x
unfolding takes
takes_whole M nan t = absurd (true≢false (sym t))
takes_whole M (inf s) t = absurd (true≢false (sym t))
takes_whole M (fin s m e) t =
    let (r, l) = and_yes (eqb (m * up e % down e) 0) _ t in
    record { negative = s; size = m * up e / down e; most = leb-true _ _ l; is = (refl, omega (arith, div-add-mod' (m * up e) (down e), eqb-true (m * up e % down e) 0 r)) }

pub whole_takes : {M : ℕ} (x : Float) → WholeDouble M x → takes M x ≡ true
unfolding takes
whole_takes nan w = absurd w.is
whole_takes (inf s) w = absurd w.is
whole_takes (fin s m e) w = let (q, r) = cut_at m e w.size w.is.1 in rw (q, r) (le-leb _ _ w.most)

-- ---- what a whole number is cut to
abbrev signed : Bool → ℕ → ℤ
signed s q = cond s (neg_ℤ (pos q)) (pos q)

signed_size : (s : Bool) (q : ℕ) → nat_abs (signed s q) ≡ q
signed_size true q = nat_abs_neg (pos q)
signed_size false q = refl

signed_back : (z : ℤ) → signed (lt_z z (pos 0)) (nat_abs z) ≡ z
signed_back (pos n) = rw (le-ltb n 0 (omega arith))
signed_back (negsuc n) = refl

signed_sign : (s : Bool) (q : ℕ) → (lt_z (signed s q) (pos 0) ≡ s) ⊎ (q ≡ 0)
signed_sign true zero = inr refl
signed_sign true (suc q) = inl refl
signed_sign false q = inl (le-ltb q 0 (omega arith))

whole_cut : (h : ℕ) {M : ℕ} (x : Float) (w : WholeDouble M x) → M < 2 ^ h → to_signed h x ≡ signed w.negative w.size
unfolding to_signed
whole_cut h nan w l = absurd w.is
whole_cut h (inf s) w l = absurd w.is
whole_cut h (fin true m e) w l = let kept : min w.size (2 ^ h) ≡ w.size = omega (arith, w.most) in rw (← w.is.0, (cut_at m e w.size w.is.1).0, kept)
whole_cut h (fin false m e) w l = let kept : min w.size (2 ^ h - 1) ≡ w.size = omega (arith, w.most) in rw (← w.is.0, (cut_at m e w.size w.is.1).0, kept)

-- ---- the same whole number twice
crossed : (a b q c : ℕ) → a * 1 ≡ q * b → a * c ≡ q * c * b
crossed a b q c v = ap (λ n. n * c) (sym (mul-one a) ∙ v) ∙ mul_right_comm q b c

same_sign : {s t : Bool} → s ≡ t → beq s t ≡ true
same_sign {s} e = rw (← e) (go s)
  where
    go : (s : Bool) → beq s s ≡ true
    go true = refl
    go false = refl

same_equal : {L M : ℕ} (y x : Float) (v : WholeDouble L y) (w : WholeDouble M x) → v.size ≡ w.size → (v.negative ≡ w.negative) ⊎ (v.size ≡ 0) → eq y x ≡ true
unfolding eq
same_equal nan x v w h s = absurd v.is
same_equal (inf t) x v w h s = absurd v.is
same_equal (fin t k d) nan v w h s = absurd w.is
same_equal (fin t k d) (inf u) v w h s = absurd w.is
same_equal (fin t k d) (fin u m e) v w h s =
    let left = crossed (k * up d) (down d) v.size (down e) v.is.1 in
    let right = crossed (m * up e) (down e) w.size (down d) w.is.1 in
    yes_and (eq-eqb _ _ (left ∙ rw h (mul_right_comm w.size (down e) (down d)) ∙ sym right)) (yes_or _ _ (⊎_map (λ p. same_sign (v.is.0 ∙ p ∙ sym w.is.0)) (λ z. eq-eqb _ _ (left ∙ rw z (simp zero-mul))) s))

equal_whole : {L : ℕ} (y x : Float) → WholeDouble L y → eq y x ≡ true → WholeDouble L x
unfolding eq
equal_whole nan x v t = absurd v.is
equal_whole (inf s) x v t = absurd v.is
equal_whole (fin s k d) nan v t = absurd (true≢false (sym t))
equal_whole (fin s k d) (inf u) v t = absurd (true≢false (sym t))
equal_whole (fin s k d) (fin u m e) v t =
    let left = crossed (k * up d) (down d) v.size (down e) v.is.1 in
    let level = eqb-true _ _ (and_yes (eqb (k * up d * down e) (m * up e * down d)) _ t).0 in
    record { negative = u; size = v.size; most = v.most; is = (refl, mul-one (m * up e) ∙ eq_of_mul-eq-mul_right (down d) (down_pos d) _ _ (sym level ∙ left)) }

-- ---- a double that is taken, and one made of a whole number
near : (a b q : ℕ) → a * 1 ≡ q * b → 0 < b → q < 2 ^ 63 → a * 1 < 1 * 2 ^ 63 * b
near a b q v p l = omega (arith, mul-lt-mul_of_pos_right l p)

whole_near : {M : ℕ} (x : Float) → WholeDouble M x → M < 2 ^ 63 → (le (fin true 1 (pos 63)) x ≡ true) × (lt x (fin false 1 (pos 63)) ≡ true)
unfolding le
whole_near nan w l = absurd w.is
whole_near (inf s) w l = absurd w.is
whole_near (fin true m e) w l = rw (lt-ltb (m * up e * 1) (1 * 2 ^ 63 * down e) (near (m * up e) (down e) w.size w.is.1 (down_pos e) (omega (arith, w.most))), lt-ltb 0 (m * up e * 1 + 1 * 2 ^ 63 * down e) (omega (arith, down_pos e))) (refl, refl)
whole_near (fin false m e) w l = rw (lt-ltb (m * up e * 1) (1 * 2 ^ 63 * down e) (near (m * up e) (down e) w.size w.is.1 (down_pos e) (omega (arith, w.most))), lt-ltb 0 (1 * 2 ^ 63 * down e + m * up e * 1) (omega (arith, down_pos e))) (refl, refl)

abbrev zero_whole : (s : Bool) (e : ℤ) → WholeDouble 0 (fin s 0 e)
zero_whole s e = record { negative = s; size = 0; most = omega arith; is = (refl, simp zero-mul) }

whole_casts : (h : ℕ) {M : ℕ} (x : Float) → WholeDouble M x → M ≤ max_result → M < 2 ^ h → eq x plus_zero ≡ false → T (in_signed binary64 h x)
unfolding in_signed whole
whole_casts h nan w l k n = absurd w.is
whole_casts h (inf s) w l k n = absurd w.is
whole_casts h (fin s zero e) w l k n = absurd (true≢false (sym (same_equal _ _ (zero_whole s e) (zero_whole false (pos 0)) refl (inr refl)) ∙ n))
whole_casts h (fin true (suc m) e) w l k n = let (q, r) = cut_at (suc m) e w.size w.is.1 in rw (q, r, ne_eqb (suc m) 0 (λ z. omega arith), le-leb w.size (2 ^ 53) (omega (arith, w.most)), le-leb w.size (2 ^ h) (omega (arith, w.most))) tt
whole_casts h (fin false (suc m) e) w l k n = let (q, r) = cut_at (suc m) e w.size w.is.1 in rw (q, r, le-leb w.size (2 ^ 53) (omega (arith, w.most)), lt-ltb w.size (2 ^ h) (omega (arith, w.most))) tt

module _ (M : ℕ) (l : M ≤ max_result) where
  abbrev back_whole : (z : ℤ) → nat_abs z ≤ M → WholeDouble M (of_int binary64 z)
  back_whole z k = record { negative = lt_z z (pos 0); size = nat_abs z; most = k; is = whole_exact z (omega arith) }

  pub back_taken : (h : ℕ) → M < 2 ^ h → (z : ℤ) → nat_abs z ≤ M → (takes M (of_int binary64 z) ≡ true) × (to_signed h (of_int binary64 z) ≡ z)
  back_taken h n z k = (whole_takes _ (back_whole z k), whole_cut h _ (back_whole z k) n ∙ signed_back z)

  module _ (x : Float) where
    module _ (t : takes M x ≡ true) where
      it : WholeDouble M x
      it = takes_whole M x t

      size_is : nat_abs (signed it.negative it.size) ≡ it.size
      size_is = signed_size it.negative it.size

      module _ (h : ℕ) (k : M < 2 ^ h) where
        pub taken_size : nat_abs (to_signed h x) ≤ M
        taken_size = rw (whole_cut h x it k, size_is) it.most

        pub taken_same : eq (of_int binary64 (to_signed h x)) x ≡ true
        taken_same = rw (whole_cut h x it k) (same_equal _ x (back_whole _ (rw size_is it.most)) it size_is (⊎_map (λ e. e) (λ e. size_is ∙ e) (signed_sign it.negative it.size)))

        -- what the cast asks; it has no minus zero
        pub taken_casts : eq x plus_zero ≡ false → T (in_signed binary64 h x)
        taken_casts = whole_casts h x it l k

    -- the tests by which code takes one
    pub low_untaken : le (fin true 1 (pos 63)) x ≡ false → takes M x ≡ false
    low_untaken k = eq-false_of_not-eq-true (λ t. true≢false (sym (whole_near x (it t) (omega arith)).0 ∙ k))

    pub high_untaken : lt x (fin false 1 (pos 63)) ≡ false → takes M x ≡ false
    high_untaken k = eq-false_of_not-eq-true (λ t. true≢false (sym (whole_near x (it t) (omega arith)).1 ∙ k))

    pub large_untaken : M < nat_abs (to_signed 63 x) → takes M x ≡ false
    large_untaken k = eq-false_of_not-eq-true (λ t. omega (arith, taken_size t 63 (omega arith)))

    pub cut_taken : nat_abs (to_signed 63 x) ≤ M → eq (of_int binary64 (to_signed 63 x)) x ≡ takes M x
    cut_taken k = same_when _ _ (λ t. whole_takes x (equal_whole _ x (back_whole _ k) t)) (λ t. taken_same t 63 (omega arith))

-- ---- zero
signed_zero : (s : Bool) → signed s 0 ≡ pos 0
signed_zero true = refl
signed_zero false = refl

pub zero_cut : (h : ℕ) → 0 < 2 ^ h → (x : Float) → eq x plus_zero ≡ true → to_signed h x ≡ pos 0
unfolding eq
zero_cut h k nan t = absurd (true≢false (sym t))
zero_cut h k (inf s) t = absurd (true≢false (sym t))
zero_cut h k (fin s m e) t = whole_cut h _ (record { negative = s; size = 0; most = le_refl 0; is = (refl, eqb-true _ _ (and_yes (eqb (m * up e * 1) (0 * 1 * down e)) _ t).0) }) k ∙ signed_zero s

pub minus_zero : (h : ℕ) → 0 < 2 ^ h → (e : ℤ) → to_signed h (fin true 0 e) ≡ pos 0
minus_zero h k e = whole_cut h _ (zero_whole true e) k
