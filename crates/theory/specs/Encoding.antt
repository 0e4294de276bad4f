-- Numbers as bytes and as text.
-- Laws: bytes_take, bytes_drop (of a part);
-- length_bytes, bytes_none, bytes_last (the last byte apart); number_more, number_below, number_part (of a stretch);
-- number_bytes, bytes_number (they undo each other);
-- decimal_digit, decimal_next (the last digit apart), decimal_negative; length_decimal.
use Rattle.std.specs.Prelude.{◌≡◌, refl, Bool, true, false, cond, List, [], ◌∷◌, ◌++◌, ℕ, zero, suc, ◌+◌, ◌-◌, ◌*◌, ◌/◌, ◌%◌, ◌^◌, ◌≤◌, ◌<◌, ltb, length, take, drop, get_or, ℤ, pos, negsuc}
use Rattle.std.proofs.Common.{sym, ◌∙◌, ap, ap₂, pow-suc, mul_assoc, div-lt_iff_lt-mul, mul_comm, div-one, mod-eq_of_lt, add-one, arith, ltb-false, lt-ltb, le-ltb, length-append, length-take, take-suc, get_or-take, get_or-drop}
use Prim.Native.Char.{code}
use Rattle.std.proofs.Math.Nat.{pow-le-pow_right, div-div-eq-div-mul, pow-succ', one-le-pow, mod-one, mul-add-mod_self_right, mul-add-div_right}
use Rattle.std.proofs.Math.Decide.{dec_lt}
use Rattle.std.proofs.Math.Arith.{digits_div, digits_lt, mod-mul}
use Rattle.std.proofs.Math.ListN.{get_or-eq_default}
use Rattle.meaning.specs.Encoding.{bytes, number, text, digits, decimal, Bytes}

-- ---- lists of bytes
pub bytes_drop : (n : ℕ) {s : List ℕ} → Bytes s → Bytes (drop n s)
bytes_drop n {s} h = record { byte = λ i. rw (get_or-drop n s i 0) (h.byte (n + i)) }

pub bytes_take : (n : ℕ) {s : List ℕ} → Bytes s → Bytes (take n s)
bytes_take n {s} h = record { byte = λ i. go i (dec_lt i n) }
  where
    go : (i : ℕ) → Dec (i < n) → get_or (take n s) i 0 < 256
    go i (yes l) = rw (get_or-take n s i 0 l) (h.byte i)
    go i (no l) = rw (get_or-eq_default (take n s) 0 {n = i} (omega (arith, length-take n s))) (omega arith)

-- ---- numbers as bytes
pub length_bytes : (n x : ℕ) → length (bytes n x) ≡ n
unfolding bytes
length_bytes zero x = refl
length_bytes (suc n) x = ap suc (length_bytes n x)

bytes_suc : (n x : ℕ) → bytes (suc n) x ≡ bytes n (x / 256) ++ (x % 256) ∷ []
unfolding bytes
bytes_suc zero x = rw (div-one x) refl
bytes_suc (suc n) x = rw (bytes_suc n x, pow-succ' 256 n) (rw (← div-div-eq-div-mul x 256 (256 ^ n)) refl)

pub bytes_none : (x : ℕ) → bytes 0 x ≡ []
unfolding bytes
bytes_none x = refl

pub bytes_last : (n x : ℕ) → 0 < n → bytes n x ≡ bytes (n - 1) (x / 256) ++ (x % 256) ∷ []
bytes_last zero x h = absurd (omega arith)
bytes_last (suc n) x h = let one : suc n - 1 ≡ n = omega arith in rw one (bytes_suc n x)

number_last : (bs : List ℕ) (b : ℕ) → number (bs ++ b ∷ []) ≡ number bs * 256 + b
unfolding number
number_last [] b = omega arith
number_last (a ∷ bs) b =
    let more : length (bs ++ b ∷ []) ≡ suc (length bs) = omega (arith, length-append bs (b ∷ [])) in
    rw (more, number_last bs b, pow-suc) (omega (arith, mul_assoc a (256 ^ length bs) 256))

pub number_more : (bs : List ℕ) (i : ℕ) → i < length bs → number (take (i + 1) bs) ≡ number (take i bs) * 256 + get_or bs i 0
number_more bs i h = rw (add-one, take-suc bs i 0) (number_last (take i bs) (get_or bs i 0))

pub number_below : (bs : List ℕ) → Bytes bs → number bs < 256 ^ length bs
unfolding number
number_below [] h = omega arith
number_below (b ∷ bs) h = rw (pow-suc, mul_comm (256 ^ length bs) 256) (digits_lt (h.byte 0) (number_below bs (bytes_drop 1 h)))

pub number_part : (n at : ℕ) {s : List ℕ} → Bytes s → number (take n (drop at s)) < 256 ^ n
number_part n at {s} h =
    let size : length (take n (drop at s)) ≤ n = omega (arith, length-take n (drop at s)) in
    omega (arith, number_below (take n (drop at s)) (bytes_take n (bytes_drop at h)), pow-le-pow_right {n = 256} (omega arith) size)

number_low : (n x : ℕ) → number (bytes n x) ≡ x % 256 ^ n
unfolding bytes number
number_low zero x = sym (mod-one x)
number_low (suc n) x = rw (length_bytes n x, number_low n x, pow-succ' 256 n) (sym (mod-mul x {m = 256} {c = 256 ^ n} (omega arith) (one-le-pow n 256 (omega arith))))

pub number_bytes : (n x : ℕ) → x < 256 ^ n → number (bytes n x) ≡ x
number_bytes n x h = number_low n x ∙ mod-eq_of_lt h

bytes_low : (n q r : ℕ) → bytes n (q * 256 ^ n + r) ≡ bytes n r
unfolding bytes
bytes_low zero q r = refl
bytes_low (suc n) q r =
    let shift : q * 256 ^ suc n + r ≡ q * 256 * 256 ^ n + r = ap (λ (x : ℕ). x + r) (ap (λ (x : ℕ). q * x) (pow-succ' 256 n) ∙ sym (mul_assoc q 256 (256 ^ n))) in
    let first : (q * 256 * 256 ^ n + r) / 256 ^ n % 256 ≡ r / 256 ^ n % 256 = rw (mul-add-div_right (one-le-pow n 256 (omega arith)) (q * 256) r) (mul-add-mod_self_right q 256 (r / 256 ^ n)) in
    rw shift (ap₂ ◌∷◌ first (bytes_low n (q * 256) r))

pub bytes_number : (bs : List ℕ) → Bytes bs → bytes (length bs) (number bs) ≡ bs
unfolding bytes number
bytes_number [] h = refl
bytes_number (b ∷ bs) h =
    let rest = number_below bs (bytes_drop 1 h) in
    ap₂ ◌∷◌ (rw (digits_div b rest) (mod-eq_of_lt (h.byte 0))) (bytes_low (length bs) b (number bs) ∙ bytes_number bs (bytes_drop 1 h))

-- ---- numbers as text
last_digit : (b : Bool) (xs ys : List ℕ) (d : ℕ) → (b ≡ false → xs ≡ ys) → cond b [] xs ++ d ∷ [] ≡ cond b [] ys ++ d ∷ []
last_digit true xs ys d e = refl
last_digit false xs ys d e = rw (e refl) refl

-- a number that n + 1 digits hold has no more
digits_more : (n x : ℕ) → x < 10 ^ suc n → digits (suc (suc n)) x ≡ digits (suc n) x
unfolding digits
digits_more zero x h = last_digit (ltb x 10) _ _ _ (λ e. absurd (omega (arith, ltb-false x 10 e)))
digits_more (suc n) x h = last_digit (ltb x 10) _ _ _ (λ e. digits_more n (x / 10) ((div-lt_iff_lt-mul (omega arith)).1 (rw (← pow-suc 10 (suc n)) h)))

pub decimal_digit : (x : ℕ) → x < 10 → decimal (pos x) ≡ (code "0" + x) ∷ []
unfolding decimal digits
decimal_digit x h = rw (lt-ltb x 10 h, mod-eq_of_lt h) refl

pub decimal_next : (x : ℕ) → 10 ≤ x → x < 10 ^ 20 → decimal (pos x) ≡ decimal (pos (x / 10)) ++ (code "0" + x % 10) ∷ []
unfolding decimal digits
decimal_next x h l = rw (le-ltb x 10 h, ← digits_more 18 (x / 10) (omega arith)) refl

pub decimal_negative : (n : ℕ) → decimal (negsuc n) ≡ code "-" ∷ decimal (pos (suc n))
unfolding decimal text
decimal_negative n = refl

length_digits : (n x : ℕ) → length (digits n x) ≤ n
unfolding digits
length_digits zero x = omega arith
length_digits (suc n) x = go (ltb x 10) (digits n (x / 10)) (length_digits n (x / 10))
  where
    go : (b : Bool) (xs : List ℕ) → length xs ≤ n → length (cond b [] xs ++ (code "0" + x % 10) ∷ []) ≤ suc n
    go true xs h = omega arith
    go false xs h = omega (arith, length-append xs ((code "0" + x % 10) ∷ []))

pub length_decimal : (z : ℤ) → length (decimal z) ≤ 21
unfolding decimal text
length_decimal (pos n) = omega (arith, length_digits 20 n)
length_decimal (negsuc n) = omega (arith, length_digits 20 (suc n))
