-- One turn of a pass by running sums, over any row e; and of a first window that grows from the centre outward.
--   Windowed r e                   room for every window of radius up to r
--   Roomy s e                      room for every sum of a pass of stage s
--   Widening e j s lo hi           the locals of that window at radius j: s so far, lo and hi the cells on either side
--   Turn s e n b a w lo first hi   the locals of the pass at cell n: b and a the weights, w the window, lo and hi the cells
--                                  on either side, first the one that leaves
-- Laws: windowed (room for a pass is room for its windows), room_step (and for each of its steps), room_fits; widened_is, pair_fits, widened_fits; cell_is, cell_fits, low_next, slide_is, slide_fits;
-- pass_room, summable (of a series, what the words of Ready say).
use Rattle.std.specs.Prelude.{ℕ, suc, ◌+◌, ◌*◌, ◌≤◌, ◌<◌, ◌≡◌, List, ℤ, pos, negsuc, ◌+ℤ◌, ◌-ℤ◌, ◌*ℤ◌}
use Rattle.std.proofs.Common.{sym, ◌∙◌, ap, ap₂, le_trans, mul-le-mul_right, le-mul_of_pos_right, add-one, arith, SFits}
use Rattle.std.proofs.Math.IntN.{+ℤ_idl, +ℤ-neg_ℤ_cancel}
use Rattle.std.specs.Int.{w64}
use Rattle.algebra.specs.Difference.{diff, linear}
use Rattle.algebra.specs.Size.{Abs, abs-+, fits_abs}
use Rattle.meaning.specs.Limits.{max_result}
use Rattle.meaning.specs.Extension.{fold, ext}
use Rattle.meaning.specs.Kernel.{Stage, tap_sum, pass_at}
use Rattle.theory.specs.Sizes.{ext_size}
use Rattle.theory.specs.Slide.{window, window_grow, window_slide, window_size, pass_at_window, Step, step_size}
use Rattle.plan.specs.declared.Plan.{Plan}
use Rattle.plan.specs.Structs.{stage_of}
use Rattle.pass.specs.Ready.{Summable, Passable, CellFits, SlideFits}

pub record Windowed (r : ℕ) (e : ℤ → ℤ) : Type 0 where
  pub largest : ℕ
  pub size : (n : ℤ) → Abs (e n) largest
  pub room : (2 * r + 1) * largest ≤ max_result

pub record Roomy (s : Stage) (e : ℤ → ℤ) : Type 0 where
  pub some : 0 < s.inner
  pub largest : ℕ
  pub size : (n : ℤ) → Abs (e n) largest
  pub room : largest * tap_sum s ≤ max_result

pub windowed : {s : Stage} {e : ℤ → ℤ} → Roomy s e → Windowed s.radius e
unfolding tap_sum
windowed {s} h =
    let one = le-mul_of_pos_right h.largest h.some in
    let more = le-mul_of_pos_right (s.radius * h.largest) h.some in
    record { largest = h.largest; size = h.size; room = omega (arith, one, more, h.room) }

pub room_step : {s : Stage} {e : ℤ → ℤ} → Roomy s e → Step s e (2 * max_result)
room_step {s} h = step_size s h.size h.some (omega (arith, h.room))

pub room_fits : {z : ℤ} → Abs z (2 * max_result) → SFits w64 z
room_fits h = fits_abs h (omega arith)

-- ---- a window from the centre outward
pub record Widening (e : ℤ → ℤ) (j : ℕ) (s lo hi : ℤ) : Type 0 where
  pub sum : s ≡ window e j (pos 0)
  pub low : lo ≡ e (negsuc j)
  pub high : hi ≡ e (pos (j + 1))

module _ {r : ℕ} {e : ℤ → ℤ} (h : Windowed r e) {j : ℕ} (l : j < r) {s lo hi : ℤ} (t : Widening e j s lo hi) where
  room : (2 * (j + 1) + 1) * h.largest ≤ max_result
  room = le_trans (mul-le-mul_right h.largest (omega arith)) h.room

  pub pair_fits : SFits w64 (lo +ℤ hi)
  pair_fits = rw (t.low, t.high) (fits_abs (abs-+ (h.size _) (h.size _)) (omega (arith, room)))

  pub widened_is : s +ℤ (lo +ℤ hi) ≡ window e (j + 1) (pos 0)
  widened_is =
      rw (t.sum, t.low, t.high, add-one j)
      (sym (window_grow e j (pos 0) ∙ ap₂ (λ x y. window e j (pos 0) +ℤ (e x +ℤ e y)) (+ℤ_idl (negsuc j)) (+ℤ_idl (pos (suc j)))))

  pub widened_fits : SFits w64 (s +ℤ (lo +ℤ hi))
  widened_fits = rw widened_is (fits_abs (window_size h.size (j + 1) (pos 0)) (omega (arith, room)))

-- ---- the pass
pub record Turn (s : Stage) (e : ℤ → ℤ) (n : ℕ) (b a w lo first hi : ℤ) : Type 0 where
  pub inner : b ≡ pos s.inner
  pub edge : a ≡ pos s.edge
  pub sum : w ≡ window e s.radius (pos n)
  pub low : lo ≡ e (pos n -ℤ pos (s.radius + 1))
  pub leaves : first ≡ e (pos n -ℤ pos s.radius)
  pub enters : hi ≡ e (pos (n + s.radius + 1))

back : (n r : ℕ) → pos n -ℤ pos r ≡ pos (n + 1) -ℤ pos (r + 1)
back n r = simp diff (omega linear)

on : (n r : ℕ) → n + r + 1 ≡ n + suc r
on n r = omega arith

module _ {s : Stage} {e : ℤ → ℤ} {n : ℕ} {b a w lo first hi : ℤ} (t : Turn s e n b a w lo first hi) where
  weighed_is : b *ℤ w +ℤ a *ℤ (lo +ℤ hi) ≡ pass_at s e (pos n)
  weighed_is = rw (t.inner, t.edge, t.sum, t.low, t.enters, on n s.radius, add-one s.radius) (sym (pass_at_window e s (pos n)))

  pub cell_is : {r : ℤ} → r ≡ b *ℤ w +ℤ a *ℤ (lo +ℤ hi) → r ≡ pass_at s e (pos n)
  cell_is i = i ∙ weighed_is

  -- what leaves is the next cell on the low side
  pub low_next : first ≡ e (pos (n + 1) -ℤ pos (s.radius + 1))
  low_next = t.leaves ∙ ap e (back n s.radius)

  pub slide_is : w +ℤ hi -ℤ first ≡ window e s.radius (pos (n + 1))
  slide_is =
      rw (t.sum, t.leaves, t.enters, on n s.radius, add-one n)
      (ap (λ z. z -ℤ e (pos n -ℤ pos s.radius)) (sym (window_slide e s.radius (pos n))) ∙ +ℤ-neg_ℤ_cancel _ _)

  module _ (h : Roomy s e) where
    pub cell_fits : CellFits b a w lo hi
    cell_fits =
        let step = room_step h in
        record {
          within = rw (t.inner, t.sum) (room_fits (step.weighed _));
          pair = rw (t.low, t.enters) (room_fits (step.pair _ _));
          beside = rw (t.edge, t.low, t.enters) (room_fits (step.edges _ _));
          cell = rw weighed_is (room_fits (step.written _));
        }

    pub slide_fits : SlideFits w hi first
    slide_fits = record { entered = rw (t.sum, t.enters) (room_fits ((room_step h).entered _ _)); left = rw slide_is (room_fits ((room_step h).held _)) }

-- ---- of a series
module _ {p : Plan} {f : List ℤ} {N : ℕ} (h : Passable p f N) where
  pub pass_room : Roomy (stage_of p) (ext fold f)
  pass_room = record { some = h.plan.inner.0; largest = h.largest; size = ext_size fold h.sized; room = h.room }

  pub summable : {k : ℕ} → k ≡ 2 * p.radius + 1 → Summable k f
  unfolding windowed pass_room
  summable e = record { some = h.some; few = omega (arith, h.plan.radius); largest = h.largest; sized = h.sized; room = rw e (windowed pass_room).room }
