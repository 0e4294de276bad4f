-- Doubles and the words that they were read from.
--   bits_of (x, w)   the bits of x; of a NaN, whose own cannot be read, w
use Rattle.std.specs.Prelude.{ℕ, is_nan, to_bits, cond}
use lib.Ieee.{Float, binary64}

abbrev pub bits_of : Float × ℕ → ℕ
bits_of p = cond (is_nan p.0) p.1 (to_bits binary64 p.0)
