-- Numbers as bytes and as text, each a list of bytes.
--   bytes n x    the n low bytes of x, high byte first
--   number bs    the number that bytes stand for, high byte first; of none, 0
--   text "ab"    the bytes of a text
--   digits n x   x in decimal, for x below 10^n and n above 0
--   decimal z    z in decimal, with a sign where it is negative, for up to 20 digits
--   Bytes s      every element of s is below 256, as the type of a slice of bytes says; past its end s reads as 0
use Rattle.std.specs.Prelude.{ℕ, zero, suc, ◌+◌, ◌*◌, ◌/◌, ◌%◌, ◌^◌, ◌<◌, cond, List, [], ◌∷◌, ◌++◌, ltb, length, get_or, ℤ, pos, negsuc}
use Prim.Native.Char.{code}
use Prim.Native.String.{String}

-- "all high byte first"
unfoldable pub bytes : ℕ → ℕ → List ℕ
bytes zero x = []
bytes (suc n) x = (x / 256 ^ n % 256) ∷ bytes n x

unfoldable pub number : List ℕ → ℕ
number [] = 0
number (b ∷ bs) = b * 256 ^ length bs + number bs

unfoldable pub text : String → List ℕ
text String.[] = []
text (String.◌∷◌ c s) = code c ∷ text s

unfoldable pub digits : ℕ → ℕ → List ℕ
digits zero x = []
digits (suc n) x = cond (ltb x 10) [] (digits n (x / 10)) ++ ((code "0" + x % 10) ∷ [])

-- no number printed has more
unfoldable pub decimal : ℤ → List ℕ
decimal (pos n) = digits 20 n
decimal (negsuc n) = text "-" ++ digits 20 (suc n)

pub record Bytes (s : List ℕ) : Type 0 where
  pub byte : (i : ℕ) → get_or s i 0 < 256
