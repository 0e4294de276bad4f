-- Tests by what they test, and joined.
-- Laws: or_no, no_or (both fail), or_yes, yes_or; and_yes, yes_and (both pass), and_no, no_and (the second fails where the first passes), and_when (the second matters there only);
-- same_when (each of two tests passes where the other does);
-- some_one, some_replicate, some_at, some_none; lt_z_true, lt_z_false, lt_lt_z, le_lt_z (of whole numbers); outside_no, no_outside; differs_no, no_differs; within_yes, within_before, within_behind.
use Rattle.std.specs.Prelude.{◌≡◌, refl, ◌⊎◌, Bool, true, false, not, ◌&&◌, ◌||◌, List, [], ◌∷◌, ℕ, zero, suc, ◌≤◌, ◌<◌, leb, ltb, eqb, length, replicate, get_or, ℤ, ◌≤ℤ◌, ◌<ℤ◌}
use Rattle.std.proofs.Common.{sym, ap, inl, inr, true≢false, arith, ltb-false, lt-ltb, le-ltb, le-leb, eqb-true, eq-eqb}
use Rattle.std.proofs.Math.Bool.{or-false, or_self, and-false}
use Rattle.std.specs.Int.Signed.{lt_z, lt_z_yes, lt_z_no, clash_ℤ}
use Rattle.std.proofs.lemmas.Bool.{lt-leb, not-false}
use Rattle.meaning.specs.Refusals.{some, outside, differs, within}

pub or_no : (a b : Bool) → (a || b) ≡ false → (a ≡ false) × (b ≡ false)
or_no false b e = (refl, e)
or_no true b e = absurd (true≢false e)

pub no_or : {a b : Bool} → a ≡ false → b ≡ false → (a || b) ≡ false
no_or {a} {b} h k = rw (h, k)

pub or_yes : (a b : Bool) → (a || b) ≡ true → (a ≡ true) ⊎ (b ≡ true)
or_yes true b e = inl refl
or_yes false b e = inr e

pub yes_or : (a b : Bool) → (a ≡ true) ⊎ (b ≡ true) → (a || b) ≡ true
yes_or a b (inl h) = rw h
yes_or true b (inr h) = refl
yes_or false b (inr h) = h

pub and_yes : (a b : Bool) → (a && b) ≡ true → (a ≡ true) × (b ≡ true)
and_yes true b e = (refl, e)
and_yes false b e = absurd (true≢false (sym e))

pub yes_and : {a b : Bool} → a ≡ true → b ≡ true → (a && b) ≡ true
yes_and {a} {b} h k = rw (h, k)

pub and_no : (a b : Bool) → (a && b) ≡ false → a ≡ true → b ≡ false
and_no true b e h = e
and_no false b e h = absurd (true≢false (sym h))

pub no_and : (a b : Bool) → (a ≡ true → b ≡ false) → (a && b) ≡ false
no_and true b h = h refl
no_and false b h = refl

pub and_when : (a : Bool) {b c : Bool} → (a ≡ true → b ≡ c) → (a && b) ≡ (a && c)
and_when true h = h refl
and_when false h = refl

pub same_when : (a b : Bool) → (a ≡ true → b ≡ true) → (b ≡ true → a ≡ true) → a ≡ b
same_when true b h k = sym (h refl)
same_when false true h k = k refl
same_when false false h k = refl

pub some_one : {A : Type 0} (t : A → Bool) (x : A) → some t (x ∷ []) ≡ t x
unfolding some
some_one t x = or-false (t x)

pub some_replicate : {A : Type 0} (t : A → Bool) (n : ℕ) (x : A) → 0 < n → some t (replicate n x) ≡ t x
unfolding some
some_replicate t zero x l = absurd (omega arith)
some_replicate t (suc zero) x l = or-false (t x)
some_replicate t (suc (suc n)) x l = rw (some_replicate t (suc n) x (omega arith)) (or_self (t x))

pub some_at : {A : Type 0} (t : A → Bool) (xs : List A) (x : A) (i : ℕ) → i < length xs → t (get_or xs i x) ≡ true → some t xs ≡ true
unfolding some
some_at t [] x i l e = absurd (omega arith)
some_at t (y ∷ xs) x zero l e = rw e
some_at t (y ∷ xs) x (suc i) l e = yes_or (t y) (some t xs) (inr (some_at t xs x i (omega arith) e))

pub some_none : {A : Type 0} (t : A → Bool) (xs : List A) (x : A) → ((i : ℕ) → i < length xs → t (get_or xs i x) ≡ false) → some t xs ≡ false
unfolding some
some_none t [] x e = refl
some_none t (y ∷ xs) x e = no_or (e 0 (omega arith)) (some_none t xs x (λ i l. e (suc i) (omega arith)))

pub lt_z_true : (a b : ℤ) → lt_z a b ≡ true → a <ℤ b
lt_z_true a b e = lt_z_yes (rw e tt)

pub lt_z_false : (a b : ℤ) → lt_z a b ≡ false → b ≤ℤ a
lt_z_false a b e = lt_z_no (rw e tt)

pub lt_lt_z : (a b : ℤ) → a <ℤ b → lt_z a b ≡ true
lt_lt_z a b h = go (lt_z a b) refl
  where
    go : (t : Bool) → lt_z a b ≡ t → t ≡ true
    go true e = refl
    go false e = clash_ℤ h (lt_z_false a b e)

pub le_lt_z : (a b : ℤ) → b ≤ℤ a → lt_z a b ≡ false
le_lt_z a b h = go (lt_z a b) refl
  where
    go : (t : Bool) → lt_z a b ≡ t → t ≡ false
    go true e = clash_ℤ (lt_z_true a b e) h
    go false e = refl

pub outside_no : (low high x : ℕ) → outside low high x ≡ false → (low ≤ x) × (x ≤ high)
outside_no low high x e = let (a, b) = or_no (ltb x low) (ltb high x) e in (ltb-false x low a, ltb-false high x b)

pub no_outside : {low high x : ℕ} → low ≤ x → x ≤ high → outside low high x ≡ false
no_outside {low} {high} {x} h k = no_or (le-ltb x low h) (le-ltb high x k)

pub differs_no : (n asked : ℕ) → differs n asked ≡ false → n ≡ asked
differs_no n asked e = eqb-true n asked (not-false (eqb n asked) e)

pub no_differs : {n asked : ℕ} → n ≡ asked → differs n asked ≡ false
no_differs {n} {asked} e = ap not (eq-eqb n asked e)

pub within_yes : (start end i : ℕ) → start ≤ i → i < end → within start end i ≡ true
within_yes start end i h k = rw (le-leb start i h, lt-ltb i end k)

pub within_before : (start end i : ℕ) → i < start → within start end i ≡ false
within_before start end i h = rw (lt-leb start i h)

pub within_behind : (start end i : ℕ) → end ≤ i → within start end i ≡ false
within_behind start end i h = rw (le-ltb i end h, and-false (leb start i))
