-- What is answered besides an answer is held by the number that a host lends for it.
-- Laws: fits_as (in 32 bits); carry_series_held, carry_picture_held (a carry, as a double).
use Rattle.std.specs.Prelude.{ℕ, ◌^◌, ◌≤◌, ◌<◌, ◌≡◌, List, T, length, ℤ, pos}
use Rattle.std.proofs.Common.{arith, Fits}
use Rattle.std.specs.Float.{binary64}
use Rattle.std.specs.Float.Ieee.{in_float}
use Rattle.std.specs.Int.{w32}
use Rattle.meaning.specs.Kernel.{Stage}
use Rattle.meaning.specs.Refusals.{series_of, picture_of}
use Rattle.meaning.specs.Carry.{carry_series, carry_picture}
use Rattle.theory.specs.Values.{whole_held}
use Rattle.theory.specs.AcceptedOutputs.{series_out_allowed, series_out_divisor, picture_out_allowed, picture_out_divisor}
use Rattle.theory.specs.Narrow.{series_cells, picture_cells_lem, carry_most}

pub fits_as : {m n most : ℕ} → m ≡ n → n ≤ most → most < 2 ^ 32 → Fits w32 m
fits_as e l k = omega arith

module _ (M : ℕ) (r cells : List ℤ) {k : ℕ} where
  pub carry_series_held : (ss : List Stage) → k ≡ (carry_series ss M r cells).carry → T (in_float binary64 (pos k))
  carry_series_held ss e = whole_held (pos k) (omega (arith, carry_most (series_of ss (length r)) (series_cells ss (length r)) M r cells (λ z. series_out_divisor ss M r (length cells) (series_out_allowed ss M r (length cells) z))))

  pub carry_picture_held : (hs vs : List Stage) (W H : ℕ) → k ≡ (carry_picture hs vs M W H r cells).carry → T (in_float binary64 (pos k))
  carry_picture_held hs vs W H e = whole_held (pos k) (omega (arith, carry_most (picture_of hs vs W H) (picture_cells_lem hs vs W H) M r cells (λ z. picture_out_divisor hs vs M W H r (length cells) (picture_out_allowed hs vs M W H r (length cells) z))))
