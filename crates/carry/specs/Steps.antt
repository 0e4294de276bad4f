-- One cell, and the two ends of a call, of any shape.
-- Laws: cell_dividend, sum_fits, cell_fits (a result and its carry, and their cell, are small enough); carry_refused, carry_done.
use Rattle.std.specs.Prelude.{ℕ, ◌≡◌, refl, List, length, ℤ, pos, ◌+ℤ◌}
use Rattle.std.proofs.Math.Path.{sym}
use Rattle.std.proofs.Common.{◌∙◌, arith, SFits}
use Rattle.std.specs.Int.{w32, w64}
use Rattle.algebra.specs.Order.{zarith, of+}
use Rattle.algebra.specs.Size.{of_abs, fits_abs}
use Rattle.meaning.specs.Extension.{at}
use Rattle.meaning.specs.Smoothing.{list_of}
use Rattle.meaning.specs.Refusals.{first_of, Shape}
use Rattle.meaning.specs.Values.{output_rows}
use Rattle.meaning.specs.Carry.{carry, carry_cell, carried}
use Rattle.theory.specs.Refusals.{if_done_done, if_done_refused}
use Rattle.theory.specs.Carry.{carry_below, carry_size}
use Rattle.plan.specs.declared.Refusal.{Refusal}
use Rattle.plan.specs.Structs.{plain, refused, refused_number}
use Rattle.quotient.specs.Ready.{Dividend}
use Rattle.outputs.specs.Ready.{PutOut}
use Rattle.carry.specs.Contract.{Gives}

module _ {d : ℕ} (r : List ℤ) (n : ℕ) (h : PutOut (at r n) d) where
  pub cell_dividend : Dividend (at r n +ℤ pos (carry d r n)) d
  cell_dividend =
      let z = at r n +ℤ pos (carry d r n) in
      record { size = omega (zarith, h.small, h.divisor.1, carry_below h.divisor.0 r n, of_abs (at r n), of_abs z, of+ (at r n) (pos (carry d r n))); divisor = h.divisor }

  pub sum_fits : SFits w64 (at r n +ℤ pos (carry d r n))
  sum_fits = fits_abs (record { bound = cell_dividend.size }) (omega arith)

  pub cell_fits : SFits w32 (carry_cell d r n)
  cell_fits = fits_abs (record { bound = carry_size h.divisor.0 r n h.size }) (omega arith)

-- ---- the two ends of a call
module _ (s : Shape) (M : ℕ) (r cells : List ℤ) where
  pub carry_refused : (e : Refusal) → refused e ≡ first_of (output_rows s M r (length cells)) → Gives (carried s M r cells) (refused e) 0 cells
  unfolding carried
  carry_refused e h = rw (← h) (record { answer = refl; carry = sym (if_done_refused (refused e) _ 0 (refused_number e)); cells = sym (if_done_refused (refused e) _ cells (refused_number e)) })

  pub carry_done : plain 0 ≡ first_of (output_rows s M r (length cells)) → {d k : ℕ} → d ≡ s.divisor → k ≡ carry d r (length r) → {left : List ℤ} → left ≡ list_of (length r) (carry_cell d r) → Gives (carried s M r cells) (plain 0) k left
  unfolding carried
  carry_done h f l m = rw (← h) (record { answer = refl; carry = l ∙ rw f (sym (if_done_done (plain 0) _ 0 refl)); cells = m ∙ rw f (sym (if_done_done (plain 0) _ cells refl)) })
