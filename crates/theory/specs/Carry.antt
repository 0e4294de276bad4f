-- Cells that carry their remainders on, of results r over d.
-- Laws: carry_cell_lem, carry_next (a cell and the carry behind it, by the one before), carry_none (of the first); carry_divided (result and carry by the cell and the next carry), carry_below; carry_near (a cell is less than 1 from its quotient), carry_size;
-- carry_sum (d times the first cells, and the carry behind them, are the first results); carry_whole (where d divides the results' sum, nothing is left).
use Prim.Native.Nat.{ℕ, zero, suc, ◌+◌, ◌*◌, ◌≤◌, ◌<◌}
use Rattle.std.specs.Prelude.{◌≡◌, List, ℤ, nat_abs, ◌+ℤ◌, ◌-ℤ◌, ◌*ℤ◌}
use Rattle.std.proofs.Math.Path.{refl, ap}
use Rattle.std.proofs.Common.{sym, ◌∙◌, add-one, arith}
use Rattle.std.proofs.Math.Nat.{lt_of_mul-lt-mul_left}
use Rattle.std.proofs.Math.IntN.{pos, +ℤ_idr}
use Rattle.algebra.specs.Difference.{plus, minus}
use Rattle.algebra.specs.Order.{zarith, of+, of-, of*}
use Rattle.algebra.specs.Size.{of_abs}
use Rattle.algebra.specs.Solver.{ring, ◌≗◌}
use Rattle.algebra.specs.Expression.{◌⊕◌, ◌⊗◌}
use Rattle.algebra.specs.Division.{Divided, divided_unique}
use Rattle.algebra.specs.Sum.{sum}
use Rattle.meaning.specs.Extension.{at, emod}
use Rattle.meaning.specs.Values.{floor}
use Rattle.meaning.specs.Carry.{carry, carry_cell}
use Rattle.theory.specs.Remainder.{emod_divided, emod_below}

-- a quotient of z and a carry is less than 1 from that of z alone
near_quotient : (z q : ℤ) (c : ℕ) {d e : ℕ} → Divided (z +ℤ pos c) d q e → c < d → nat_abs (z -ℤ pos d *ℤ q) < d
near_quotient z q c {d} {e} h l = omega (zarith, h.is, h.below, of+ z (pos c), of+ (pos d *ℤ q) (pos e), of- z (pos d *ℤ q), of_abs (z -ℤ pos d *ℤ q))

near_size : (z q : ℤ) {d : ℕ} (M : ℕ) → nat_abs (z -ℤ pos d *ℤ q) < d → nat_abs z ≤ M * d → nat_abs q ≤ M
near_size z q {d} M h l =
    let up : d * plus q < d * (minus q + M + 1) = omega (zarith, of_abs z, of_abs (z -ℤ pos d *ℤ q), of- z (pos d *ℤ q), of* (pos d) q) in
    let down : d * minus q < d * (plus q + M + 1) = omega (zarith, of_abs z, of_abs (z -ℤ pos d *ℤ q), of- z (pos d *ℤ q), of* (pos d) q) in
    omega (zarith, of_abs q, lt_of_mul-lt-mul_left d up, lt_of_mul-lt-mul_left d down)

sum_next : (d t c z q e : ℤ) → z +ℤ c ≡ d *ℤ q +ℤ e → d *ℤ t +ℤ c +ℤ z ≡ d *ℤ (t +ℤ q) +ℤ e
sum_next d t c z q e h = ring 4 (λ d t c z. d ⊗ t ⊕ c ⊕ z ≗ d ⊗ t ⊕ (z ⊕ c)) refl d t c z ∙ ap (λ x. d *ℤ t +ℤ x) h ∙ ring 4 (λ d t q e. d ⊗ t ⊕ (d ⊗ q ⊕ e) ≗ d ⊗ (t ⊕ q) ⊕ e) refl d t q e

module _ (d : ℕ) (r : List ℤ) where
  pub carry_cell_lem : (n : ℕ) → carry_cell d r n ≡ floor (at r n +ℤ pos (carry d r n)) d
  unfolding carry_cell
  carry_cell_lem n = refl

  pub carry_none : carry d r 0 ≡ 0
  unfolding carry
  carry_none = refl

  pub carry_next : (n : ℕ) → carry d r (n + 1) ≡ emod (at r n +ℤ pos (carry d r n)) d
  unfolding carry
  carry_next n = ap (carry d r) (add-one n)

module _ {d : ℕ} (h : 0 < d) (r : List ℤ) where
  pub carry_divided : (n : ℕ) → Divided (at r n +ℤ pos (carry d r n)) d (carry_cell d r n) (carry d r (suc n))
  unfolding carry carry_cell
  carry_divided n = emod_divided (at r n +ℤ pos (carry d r n)) h

  pub carry_below : (n : ℕ) → carry d r n < d
  unfolding carry
  carry_below zero = h
  carry_below (suc n) = emod_below (at r n +ℤ pos (carry d r n)) h

  pub carry_near : (n : ℕ) → nat_abs (at r n -ℤ pos d *ℤ carry_cell d r n) < d
  carry_near n = near_quotient (at r n) (carry_cell d r n) (carry d r n) (carry_divided n) (carry_below n)

  pub carry_size : {M : ℕ} (n : ℕ) → nat_abs (at r n) ≤ M * d → nat_abs (carry_cell d r n) ≤ M
  carry_size {M} n l = near_size (at r n) (carry_cell d r n) M (carry_near n) l

  pub carry_sum : (n : ℕ) → sum n (at r) ≡ pos d *ℤ sum n (carry_cell d r) +ℤ pos (carry d r n)
  unfolding sum carry
  carry_sum zero = ap pos (omega arith)
  carry_sum (suc n) = ap (λ x. x +ℤ at r n) (carry_sum n) ∙ sum_next (pos d) (sum n (carry_cell d r)) (pos (carry d r n)) (at r n) (carry_cell d r n) _ (carry_divided n).is

  pub carry_whole : (n : ℕ) {k : ℤ} → sum n (at r) ≡ pos d *ℤ k → (sum n (carry_cell d r) ≡ k) × (carry d r n ≡ 0)
  carry_whole n {k} e = divided_unique {r = carry d r n} {s = 0} (record { below = carry_below n; is = carry_sum n }) (record { below = h; is = e ∙ sym (+ℤ_idr (pos d *ℤ k)) })
