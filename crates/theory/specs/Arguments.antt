-- What a host's doubles are taken as, and that every limit refuses the number which stands for all others.
-- Laws: whole_is, whole_not (by whether the double is taken), whole_itself, whole_other (by whether it is a whole number so small), whole_back, count_back (such a number, given as a double, is taken as itself), whole_zero (minus zero is 0);
-- count_negative, count_from, count_below (of a negative number, and of any other); whole_size, count_size (nothing larger comes of a double);
-- plan_numbers, plan_other (of four doubles, and of another number of them);
-- refused_by_passes, refused_by_radius, refused_by_inner, refused_by_edge, refused_by_bound, refused_by_side, refused_by_position, refused_by_value, refused_by_sigma, refused_by_mode (each row applies to it).
use Rattle.std.specs.Prelude.{ℕ, ◌^◌, ◌≤◌, ◌<◌, ◌≡◌, refl, Bool, true, false, cond, List, leb, ltb, length, get_or, ℤ, pos, negsuc, nat_abs, Float}
use Rattle.std.proofs.Common.{sym, ap, ◌∙◌, true≢false, arith, le_refl, zero-mul, lt-ltb, le-leb, le-ltb, ltb-true, eq-eqb, ne_eqb}
use mathlib.Mathlib.Data.Bool.Basic.{eq-false_of_not-eq-true}
use Rattle.std.specs.Int.Signed.{lt_z}
use Rattle.std.specs.Float.{nan, fin, binary64}
use Rattle.std.specs.Float.Ieee.{of_int, to_signed}
use Rattle.meaning.specs.Limits.{least, max_passes, max_radius, max_inner, max_bound, max_result, max_length, max_side, max_mode, max_sigma}
use Rattle.meaning.specs.Refusals.{outside, above}
use Rattle.meaning.specs.Values.{takes}
use Rattle.meaning.specs.Bounds.{WholeDouble}
use Rattle.meaning.specs.Arguments.{refused, whole_of, unsigned, count_of, PlanNumbers, plan_in}
use Rattle.theory.specs.Doubles.{takes_whole, whole_takes, back_taken, taken_size, minus_zero}

-- ---- a whole number
module _ (x : Float) where
  pub whole_is : takes max_result x ≡ true → whole_of x ≡ to_signed 63 x
  unfolding whole_of
  whole_is t = rw t

  pub whole_not : takes max_result x ≡ false → whole_of x ≡ pos refused
  unfolding whole_of
  whole_not t = rw t

  pub whole_itself : WholeDouble max_result x → whole_of x ≡ to_signed 63 x
  whole_itself w = whole_is (whole_takes x w)

  pub whole_other : (WholeDouble max_result x → ⊥) → whole_of x ≡ pos refused
  whole_other n = whole_not (eq-false_of_not-eq-true (λ t. n (takes_whole max_result x t)))

  whole_most : (b : Bool) → takes max_result x ≡ b → nat_abs (whole_of x) ≤ refused
  whole_most true t = rw (whole_is t) (omega (arith, taken_size max_result (le_refl max_result) x t 63 (omega arith)))
  whole_most false t = rw (whole_not t) (omega arith)

  pub whole_size : nat_abs (whole_of x) ≤ refused
  whole_size = whole_most (takes max_result x) refl

pub whole_back : (z : ℤ) → nat_abs z ≤ max_result → whole_of (of_int binary64 z) ≡ z
whole_back z l = let (t, e) = back_taken max_result (le_refl max_result) 63 (omega arith) z l in whole_is _ t ∙ e

pub whole_zero : (e : ℤ) → whole_of (fin true 0 e) ≡ pos 0
whole_zero e = whole_itself _ (record { negative = true; size = 0; most = omega arith; is = (refl, simp zero-mul) }) ∙ minus_zero 63 (omega arith) e

-- ---- a number from 0 on
pub count_negative : (z : ℤ) → lt_z z (pos 0) ≡ true → unsigned z ≡ refused
unfolding unsigned
count_negative (pos n) e = let no : ⊥ = omega (arith, ltb-true n 0 e) in absurd no
count_negative (negsuc n) e = refl

pub count_from : (z : ℤ) → lt_z z (pos 0) ≡ false → unsigned z ≡ nat_abs z
unfolding unsigned
count_from (pos n) e = refl
count_from (negsuc n) e = absurd (true≢false e)

pub count_below : (x : Float) → lt_z (whole_of x) (pos 0) ≡ true → count_of x ≡ refused
unfolding count_of
count_below x e = count_negative (whole_of x) e

pub count_back : (n : ℕ) → n ≤ max_result → count_of (of_int binary64 (pos n)) ≡ n
unfolding count_of unsigned
count_back n l = ap unsigned (whole_back (pos n) l)

unsigned_size : (z : ℤ) → nat_abs z ≤ refused → unsigned z ≤ refused
unfolding unsigned
unsigned_size (pos n) l = l
unsigned_size (negsuc n) l = le_refl refused

pub count_size : (x : Float) → count_of x ≤ refused
unfolding count_of
count_size x = unsigned_size (whole_of x) (whole_size x)

-- ---- a plan
pub plan_other : (xs : List Float) → (length xs ≡ 4 → ⊥) → plan_in xs ≡ record { radius = refused; inner = refused; edge = refused; passes = refused }
unfolding plan_in
plan_other xs h = rw (ne_eqb (length xs) 4 h)

pub plan_numbers : (xs : List Float) → length xs ≡ 4 → plan_in xs ≡ record { radius = count_of (get_or xs 0 nan); inner = count_of (get_or xs 1 nan); edge = count_of (get_or xs 2 nan); passes = count_of (get_or xs 3 nan) }
unfolding plan_in
plan_numbers xs h = rw (eq-eqb (length xs) 4 h)

-- ---- every limit refuses that number
pub refused_by_passes : outside least max_passes refused ≡ true
refused_by_passes = refl

pub refused_by_radius : ltb max_radius refused ≡ true
refused_by_radius = refl

pub refused_by_inner : outside least max_inner refused ≡ true
refused_by_inner = refl

pub refused_by_edge : (b : ℕ) → b ≤ max_inner → leb b refused ≡ true
refused_by_edge b l = le-leb b refused (omega arith)

pub refused_by_bound : outside least max_bound refused ≡ true
refused_by_bound = refl

pub refused_by_side : outside least max_side refused ≡ true
refused_by_side = refl

pub refused_by_position : (N : ℕ) → N ≤ max_length → leb N refused ≡ true
refused_by_position N l = le-leb N refused (omega arith)

pub refused_by_value : (M : ℕ) → M ≤ max_bound → above M (pos refused) ≡ true
refused_by_value M l = lt-ltb M refused (omega arith)

pub refused_by_sigma : outside least max_sigma refused ≡ true
refused_by_sigma = refl

pub refused_by_mode : ltb max_mode refused ≡ true
refused_by_mode = refl
