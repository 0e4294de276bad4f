-- Numbers tested against the largest result, with no wrap: where a product is larger, one above the limit stands for it.
--   capped x   x, or one above the largest result where x is larger
-- Laws: capped_below (a number that is not capped), capped_test; capped_times_lem, capped_again (one factor more); size_rows_capped.
use Rattle.std.specs.Prelude.{ℕ, suc, ◌*◌, ◌≤◌, ◌<◌, min, ◌≡◌, Bool, ltb}
use Rattle.std.proofs.Common.{sym, ◌∙◌, ap, le-mul_of_pos_right, arith, lt-ltb}
use Rattle.std.proofs.Math.Decide.{dec_lt}
use Rattle.meaning.specs.Limits.{max_result}
use Rattle.meaning.specs.Refusals.{size_rows}

abbrev pub capped : ℕ → ℕ
capped x = min x (suc max_result)

pub capped_below : (x y : ℕ) → capped x ≡ capped y → x ≤ max_result → x ≡ y
capped_below x y e l = omega arith

pub capped_test : (x y : ℕ) → capped x ≡ capped y → ltb max_result x ≡ ltb max_result y
capped_test x y e = go (dec_lt max_result x)
  where
    go : Dec (max_result < x) → ltb max_result x ≡ ltb max_result y
    go (yes l) = lt-ltb max_result x l ∙ sym (lt-ltb max_result y (omega arith))
    go (no l) = ap (ltb max_result) (capped_below x y e (omega arith))

pub capped_times_lem : (x y : ℕ) {d : ℕ} → 1 ≤ d → capped x ≡ capped y → capped (x * d) ≡ capped (y * d)
capped_times_lem x y {d} l e = go (dec_lt max_result x)
  where
    go : Dec (max_result < x) → capped (x * d) ≡ capped (y * d)
    go (yes g) = omega (arith, le-mul_of_pos_right x l, le-mul_of_pos_right y l)
    go (no g) = ap (λ n. capped (n * d)) (capped_below x y e (omega arith))

pub capped_again : (x y r : ℕ) {d : ℕ} → 1 ≤ d → capped x ≡ capped y → r ≡ capped (x * d) → capped r ≡ capped (y * d)
capped_again x y r {d} l e f = omega (arith, f, capped_times_lem x y l e)

pub size_rows_capped : (M x y : ℕ) (bad_size wrongLength : Bool) → capped x ≡ capped y → size_rows M x bad_size wrongLength ≡ size_rows M y bad_size wrongLength
unfolding size_rows
size_rows_capped M x y bad_size wrongLength e = rw (capped_test x y e)
