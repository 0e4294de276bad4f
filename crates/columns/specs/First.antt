-- The first row of a pass down, from a row of zeros.
--   lower s e t   the pass of stage s over e around 0, but for the high edge; the cell at the radius stands at t, and at the low edge too
-- Laws: same_room (for as many cells elsewhere), period_fits; cleared (the row of zeros), weight_fits (of whole periods), periods_none, periods_added (whole periods), rest_added (and the rest), low_added, high_added; first_is, first_written (in its place).
use Rattle.std.specs.Prelude.{ℕ, ◌+◌, ◌*◌, ◌^◌, ◌≤◌, ◌<◌, ◌≡◌, refl, List, [], ◌++◌, length, replicate, take, ℤ, ◌+ℤ◌, ◌*ℤ◌}
use Rattle.std.proofs.Math.Path.{sym, ap}
use Rattle.std.proofs.Common.{◌∙◌, zero-mul, le_trans, le-mul_of_pos_right, arith}
use Rattle.std.proofs.Math.Nat.{mul-le-mul, mul-le-mul_right}
use Rattle.std.proofs.Math.IntN.{pos, +ℤ_idl, *ℤ-zero}
use Rattle.algebra.specs.Ring.{*ℤ-assoc, *ℤ-+ℤ}
use Rattle.algebra.specs.Size.{Abs, abs_self, abs-+, abs-*}
use Rattle.meaning.specs.Extension.{fold}
use Rattle.meaning.specs.Kernel.{Stage, tap_sum, pass_at}
use Rattle.meaning.specs.Smoothing.{list_of, pass}
use Rattle.meaning.specs.Picture as P
use Rattle.theory.specs.Lists.{list_of_ext, list_of_const}
use Rattle.theory.specs.Fill.{fill_part}
use Rattle.theory.specs.Walk.{Stands, stands_periods, stands_next}
use Rattle.theory.specs.Period.{up_to, up_to_none, up_to_size, up_to_periods, up_to_whole, Repeats, pass_at_mirrored, ext_mirrored}
use Rattle.theory.specs.Picture.{length_row, row_part, length_down, cell_passed}
use Rattle.plan.specs.declared.Plan.{Plan}
use Rattle.plan.specs.Structs.{stage_of}
use Rattle.columns.specs.Ready.{Passable, passed, line, row_of, sides, Begins}
use Rattle.columns.specs.Adding.{Adds, AddsRows, line_size, line_repeats, line_stands, adds, adds_rows}

pub same_room : {p : Plan} {W H : ℕ} {src : List ℤ} {m n : ℕ} → Passable p W H src m → n ≡ W * H → Passable p W H src n
same_room h e = rw (e ∙ sym h.same) h

pub period_fits : {p : Plan} {W H : ℕ} {src : List ℤ} {n : ℕ} → Passable p W H src n → 2 * H < 2 ^ 64
period_fits {H} h = omega (arith, h.few, le-mul_of_pos_right H h.wide)

abbrev pub lower : Stage → (ℤ → ℤ) → ℕ → ℤ
lower s e t = sides s e s.radius +ℤ pos (s.inner + s.edge) *ℤ e (pos t)

sides_size : (s : Stage) {M : ℕ} {e : ℤ → ℤ} → ((n : ℤ) → Abs (e n) M) → (k : ℕ) → Abs (sides s e k) (2 * s.inner * (k * M))
unfolding sides
sides_size s h k = abs-* (abs_self (pos (2 * s.inner))) (up_to_size h k)

sides_none : (s : Stage) (e : ℤ → ℤ) → sides s e 0 ≡ pos 0
unfolding sides
sides_none s e = rw (up_to_none e) (*ℤ-zero (pos (2 * s.inner)))

module _ (s : Stage) {p : ℕ} {e : ℤ → ℤ} (h : Repeats p e) where
  sides_whole : (q : ℕ) → pos 0 +ℤ pos (2 * s.inner * q) *ℤ up_to e p ≡ sides s e (q * p)
  unfolding sides
  sides_whole q = +ℤ_idl _ ∙ *ℤ-assoc (pos (2 * s.inner)) (pos q) (up_to e p) ∙ ap (λ z. pos (2 * s.inner) *ℤ z) (sym (up_to_whole h q))

  sides_rest : (q t : ℕ) → sides s e (q * p) +ℤ pos (2 * s.inner) *ℤ up_to e t ≡ sides s e (q * p + t)
  unfolding sides
  sides_rest q t = sym (*ℤ-+ℤ (pos (2 * s.inner)) (up_to e (q * p)) (up_to e t)) ∙ rw (up_to_periods h q t, up_to_whole h q)

pub cleared : {W : ℕ} (row : List ℤ) → length row ≡ W → {new : List ℤ} → new ≡ replicate (length row) (pos 0) → new ≡ list_of W (λ x. pos 0)
cleared row l e = e ∙ ap (λ n. replicate n (pos 0)) l ∙ sym (list_of_const _ (pos 0))

pub weight_fits : {p : Plan} {W H : ℕ} {src : List ℤ} {n : ℕ} → Passable p W H src n → (q : ℕ) → q * (2 * H) ≤ p.radius → 2 * p.inner * q < 2 ^ 63
weight_fits {H} h q l =
    let tall : 0 < 2 * H = omega (arith, h.tall) in
    omega (arith, h.plan.radius, mul-le-mul h.plan.inner.1 (le_trans (le-mul_of_pos_right q tall) l))

module _ {p : Plan} {W H : ℕ} {src : List ℤ} {n : ℕ} (h : Passable p W H src n) {row : List ℤ} where
  pub periods_none : row ≡ list_of W (λ x. pos 0) → {q : ℕ} → q ≡ 0 → row ≡ row_of W H src (λ e. sides (stage_of p) e (q * (2 * H)))
  periods_none e z = e ∙ list_of_ext W (λ x l. rw (z, zero-mul (2 * H)) (sym (sides_none (stage_of p) (line W H src x))))

  pub periods_added : row ≡ list_of W (λ x. pos 0) → (q : ℕ) → q * (2 * H) ≤ p.radius → {w : ℤ} → w ≡ pos (2 * p.inner * q) → AddsRows W H src w (2 * H) row (λ x. sides (stage_of p) (line W H src x) (q * (2 * H)))
  unfolding tap_sum
  periods_added e q l i =
      adds_rows h i (omega arith) (λ x. pos 0) e {B = 0} (λ x m. abs_self (pos 0)) (omega (arith, mul-le-mul_right (p.inner * h.largest) l, h.room)) (λ x. sides_whole (stage_of p) (line_repeats W H src x) q)

  module _ (q : ℕ) {t : ℕ} (r : p.radius ≡ q * (2 * H) + t) (l : t < 2 * H) where
    pub rest_added : row ≡ row_of W H src (λ e. sides (stage_of p) e (q * (2 * H))) → {w : ℤ} → w ≡ pos (2 * p.inner) → AddsRows W H src w t row (λ x. sides (stage_of p) (line W H src x) p.radius)
    unfolding tap_sum
    rest_added e i =
        adds_rows h i (omega arith) (λ x. sides (stage_of p) (line W H src x) (q * (2 * H))) e (λ x m. sides_size (stage_of p) (line_size W H h.sized x) (q * (2 * H)))
        (omega (arith, ap (λ (k : ℕ). k * (p.inner * h.largest)) r, h.room)) (λ x. sides_rest (stage_of p) (line_repeats W H src x) q t ∙ ap (sides (stage_of p) (line W H src x)) (sym r))

    pub low_added : {i : ℕ} → Begins W H (pos t) i → {w : ℤ} → w ≡ pos (p.inner + p.edge) → row ≡ row_of W H src (λ e. sides (stage_of p) e p.radius) → Adds W src w i row (λ x. lower (stage_of p) (line W H src x) t)
    unfolding tap_sum
    low_added b i e = adds h.tall h.cells h.sized b i (λ x. sides (stage_of p) (line W H src x) p.radius) e (λ x m. sides_size (stage_of p) (line_size W H h.sized x) p.radius) (omega (arith, h.room)) (λ x. refl)

    pub high_added : {i high : ℕ} → Stands H (pos (t + 1)) high → Begins W H (pos high) i → {w : ℤ} → w ≡ pos p.edge → row ≡ row_of W H src (λ e. lower (stage_of p) e t) → Adds W src w i row (λ x. pass_at (stage_of p) (line W H src x) (pos 0))
    unfolding tap_sum
    high_added u b i e =
        adds h.tall h.cells h.sized b i (λ x. lower (stage_of p) (line W H src x) t) e
        (λ x m. abs-+ (sides_size (stage_of p) (line_size W H h.sized x) p.radius) (abs-* (abs_self (pos (p.inner + p.edge))) (line_size W H h.sized x (pos t))))
        (omega (arith, h.room))
        (λ x. unfold sides in rw (line_stands W src x (stands_periods q l r), line_stands W src x (stands_next (stands_periods q l r) u {y = pos (p.radius + 1)} refl)) (sym (pass_at_mirrored (ext_mirrored (P.column W H src x)) (stage_of p))))

  pub first_is : row ≡ row_of W H src (λ e. pass_at (stage_of p) e (pos 0)) → row ≡ P.row W (passed p W H src) 0
  unfolding P.row
  first_is e = e ∙ list_of_ext W (λ x l. sym (cell_passed fold (stage_of p) W H src x 0 l h.tall))

  -- put in its place
  pub first_written : (rest : List ℤ) → row ≡ P.row W (passed p W H src) 0 → take (0 * W + W) (row ++ rest) ≡ take (0 * W + W) (passed p W H src)
  first_written rest e =
      let T = passed p W H src in
      let first = row_part W H T (length_down (pass fold (stage_of p)) W H src) 0 h.tall in
      rw (zero-mul W) (fill_part T [] 0 refl row rest (omega arith) (ap length e ∙ length_row W T 0) (e ∙ sym (rw (zero-mul W) at first)))
