-- The library's words for numbers as bytes, in those of the definitions.
-- Laws: high_first (the n low bytes of a number); number_one, number_two, number_four, number_eight (of so many bytes).
use Rattle.std.specs.Prelude.{◌≡◌, refl, List, ◌∷◌, ℕ, zero, suc, ◌/◌, ◌%◌, ◌^◌, length}
use Rattle.std.specs.Int.{w16, w32, w64, bytes_high_first, from_be_bytes}
use Rattle.std.proofs.Common.{ap, arith, div-one, get_or, take, take_all}
use Rattle.meaning.specs.Encoding.{bytes, number}
use Rattle.theory.specs.Encoding.{number_more}

pub high_first : (n x : ℕ) → bytes_high_first n x ≡ bytes n x
unfolding bytes
high_first zero x = refl
high_first (suc zero) x = rw (div-one x) refl
high_first (suc (suc n)) x = ap (λ l. (x / 256 ^ suc n % 256) ∷ l) (high_first (suc n) x)

-- byte by byte
all : (s : List ℕ) {n : ℕ} → length s ≡ n → number (take n s) ≡ number s
all s {n} e = ap number (take_all n s (omega arith))

pub number_one : (s : List ℕ) → length s ≡ 1 → get_or s 0 0 ≡ number s
unfolding number
number_one s e = omega (arith, all s e, number_more s 0 (omega arith))

pub number_two : (s : List ℕ) → length s ≡ 2 → from_be_bytes w16 s ≡ number s
unfolding number
number_two s e = omega (arith, all s e, number_more s 0 (omega arith), number_more s 1 (omega arith))

pub number_four : (s : List ℕ) → length s ≡ 4 → from_be_bytes w32 s ≡ number s
unfolding number
number_four s e = omega (arith, all s e, number_more s 0 (omega arith), number_more s 1 (omega arith), number_more s 2 (omega arith), number_more s 3 (omega arith))

pub number_eight : (s : List ℕ) → length s ≡ 8 → from_be_bytes w64 s ≡ number s
unfolding number
number_eight s e = omega (arith, all s e, number_more s 0 (omega arith), number_more s 1 (omega arith), number_more s 2 (omega arith), number_more s 3 (omega arith), number_more s 4 (omega arith), number_more s 5 (omega arith), number_more s 6 (omega arith), number_more s 7 (omega arith))
