-- Values of results.
-- Laws: whole_held (a cast makes a whole number up to the largest result a double), count_exact, whole_exact (which is that number), ratio_zero (0 over a divisor is plus zero).
use Rattle.std.specs.Prelude.{◌≡◌, Bool, true, false, cond, ℕ, suc, ◌*◌, ◌^◌, ◌≤◌, ◌<◌, T, ℤ, pos, negsuc, nat_abs, Float}
use Rattle.std.proofs.Common.{sym, ap, subst, ◌∙◌, true≢false, arith, zero-mul, mul-pos, mul-one, lt_irrefl, ne_eqb, le-ltb, le→leb, lt→ltb}
use Rattle.std.specs.Int.Signed.{lt_z}
use Rattle.std.specs.Float.{nan, inf, fin, binary64}
use Rattle.std.specs.Float.Ieee.{up, down, round, in_float, of_int, div}
use Rattle.std.specs.Float.Ieee.Exact.{HasValue}
use Rattle.std.specs.Float.Ieee.Back.{round_whole}
use Rattle.std.specs.Float.Ieee.Fits.{down_pos}
use Rattle.std.specs.Float.Ieee.Scale.{round_same}
use Rattle.meaning.specs.Limits.{least, max_result}
use Rattle.meaning.specs.Values.{ratio, plus_zero}

pub whole_held : (z : ℤ) → nat_abs z ≤ max_result → T (in_float binary64 z)
unfolding in_float
whole_held (pos n) h = le→leb n (2 ^ 53) (omega arith)
whole_held (negsuc n) h = lt→ltb n (2 ^ 53) (omega arith)

pub count_exact : (n : ℕ) → n ≤ max_result → HasValue (of_int binary64 (pos n)) false n 1
unfolding of_int
count_exact n h = round_whole binary64 false n (omega arith)

pub whole_exact : (z : ℤ) → nat_abs z ≤ max_result → HasValue (of_int binary64 z) (lt_z z (pos 0)) (nat_abs z) 1
unfolding of_int
whole_exact (pos n) h = subst (λ (b : Bool). HasValue (of_int binary64 (pos n)) b n 1) (sym (le-ltb n 0 (omega arith))) (count_exact n h)
whole_exact (negsuc n) h = round_whole binary64 true (suc n) (omega arith)

round_zero : (a den : ℕ) → 0 < den → a ≡ 0 → round binary64 false a den ≡ plus_zero
unfolding round
round_zero a den h z = round_same binary64 false a den 0 1 h (omega arith) (mul-one a ∙ z ∙ sym (zero-mul den))

zero_by : (y : Float) {n : ℕ} → 0 < n → HasValue y false n 1 → div binary64 plus_zero y ≡ plus_zero
unfolding div
zero_by nan h v = absurd v
zero_by (inf t) h v = absurd v
zero_by (fin true k d) h v = absurd (true≢false v.0)
zero_by (fin false k d) h v =
    let den : 0 < k * up d * 1 = subst (λ (m : ℕ). 0 < m) (sym v.1) (mul-pos h (down_pos d)) in
    let some : k ≡ 0 → ⊥ = λ z. lt_irrefl 0 (subst (λ (m : ℕ). 0 < m) (ap (λ (m : ℕ). m * up d * 1) z ∙ ap (λ (m : ℕ). m * 1) (zero-mul (up d))) den) in
    ap (λ (b : Bool). cond b nan (round binary64 false (0 * down d) (k * up d * 1))) (ne_eqb k 0 some) ∙ round_zero (0 * down d) (k * up d * 1) den (zero-mul (down d))

pub ratio_zero : {d : ℕ} → least ≤ d → d ≤ max_result → ratio (pos 0) d ≡ plus_zero
unfolding ratio of_int
ratio_zero {d} p h = zero_by (of_int binary64 (pos d)) p (count_exact d h)
