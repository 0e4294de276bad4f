-- A double that is accepted under the largest bound, cut to a number of 32 bits or of 64.
-- Laws: narrow_taken (it is a whole number that any call accepts); narrow_same (either cut gives the same number); narrow_fits.
use Rattle.std.specs.Prelude.{◌≡◌, true, ◌*◌, ◌/◌, ◌%◌, ◌^◌, ◌-◌, ◌≤◌, min, eqb, Float}
use Rattle.std.proofs.Common.{arith, le_trans, leb-true, SFits}
use Rattle.std.specs.Int.{w32}
use Rattle.std.specs.Float.{nan, inf, fin}
use Rattle.std.specs.Float.Ieee.{up, down, to_signed}
use Rattle.algebra.specs.Size.{fits_abs}
use Rattle.meaning.specs.Limits.{max_bound, max_result}
use Rattle.meaning.specs.Values.{takes}
use Rattle.theory.specs.Tests.{and_yes}
use Rattle.theory.specs.Doubles.{takes_whole, whole_takes, taken_size}

module _ (x : Float) (t : takes max_bound x ≡ true) where
  pub narrow_taken : takes max_result x ≡ true
  narrow_taken = let w = takes_whole max_bound x t in whole_takes x (record { negative = w.negative; size = w.size; most = le_trans w.most (omega arith); is = w.is })

  pub narrow_fits : SFits w32 (to_signed 63 x)
  narrow_fits = fits_abs (record { bound = taken_size max_bound (omega arith) x t 63 (omega arith) }) (omega arith)

pub narrow_same : (x : Float) → takes max_bound x ≡ true → to_signed 63 x ≡ to_signed 31 x
unfolding takes to_signed
narrow_same nan t = cc
narrow_same (inf s) t = cc
narrow_same (fin s m e) t =
    let q = m * up e / down e in
    let l : q ≤ max_bound = leb-true _ _ (and_yes (eqb (m * up e % down e) 0) _ t).1 in
    let a : min q (2 ^ 63) ≡ min q (2 ^ 31) = omega arith in
    let b : min q (2 ^ 63 - 1) ≡ min q (2 ^ 31 - 1) = omega arith in
    rw (a, b)
