-- One pass down all columns: each row but the first from the one above it.
--   Turn s e y v o i   the locals at a cell of row y + 1: v the cell above it, o and i what changes at the edges of the window and within
-- Laws: line_room; change_is, change_fits; above_is, cell_next (one cell of row y + 1 more); stepped_is, stepped_fits; edges_fit, within_fit, step_fits, row_next (a cell of the next row);
-- around (where the four rows begin, by walking).
use Rattle.std.specs.Prelude.{ℕ, suc, ◌+◌, ◌*◌, ◌<◌, ◌≡◌, List, length, take, set, ℤ, pos, ◌-ℤ◌}
use Rattle.std.proofs.Common.{sym, ◌∙◌, ap, ap₂, add-one, arith, SFits}
use Rattle.std.specs.Int.{w64}
use Rattle.meaning.specs.Extension.{at, fold}
use Rattle.meaning.specs.Kernel.{Stage, pass_at}
use Rattle.meaning.specs.Smoothing.{pass}
use Rattle.theory.specs.Slide.{pass_at_slide}
use Rattle.theory.specs.Fill.{fill_at, fill_next}
use Rattle.theory.specs.Walk.{Stands, stands_fold}
use Rattle.theory.specs.Picture.{row_inside, length_down, cell_passed}
use Rattle.plan.specs.declared.Plan.{Plan}
use Rattle.plan.specs.Structs.{stage_of}
use Rattle.pass.specs.Ready.{Beside}
use Rattle.pass.specs.Walking.{leaves_at, enters_at}
use Rattle.pass.specs.Turn.{Roomy, room_step, room_fits}
use Rattle.columns.specs.Ready.{Passable, passed, line, Begins, Around, StepFits, stepped}
use Rattle.columns.specs.Adding.{line_size, begins_read}

-- ---- cells
module _ {p : Plan} {W H : ℕ} {src : List ℤ} {n : ℕ} (h : Passable p W H src n) where
  pub line_room : (x : ℕ) → Roomy (stage_of p) (line W H src x)
  line_room x = record { some = h.plan.inner.0; largest = h.largest; size = line_size W H h.sized x; room = h.room }

  module _ {y z : ℤ} {i j : ℕ} (b : Begins W H y i) (c : Begins W H z j) (x : ℕ) where
    pub change_is : at src (i + x) -ℤ at src (j + x) ≡ line W H src x y -ℤ line W H src x z
    change_is = ap₂ ◌-ℤ◌ (begins_read h.tall src b x) (begins_read h.tall src c x)

    pub change_fits : SFits w64 (at src (i + x) -ℤ at src (j + x))
    change_fits = rw change_is (room_fits ((room_step (line_room x)).change _ _))

  -- row y + 1 is written up to cell x
  module _ (y : ℕ) {x : ℕ} (hx : x < W) (hy : y + 1 < H) (d : List ℤ) (e : take (y * W + W + x) d ≡ take (y * W + W + x) (passed p W H src)) where
    pub above_is : at d (y * W + x) ≡ pass_at (stage_of p) (line W H src x) (pos y)
    above_is = fill_at (passed p W H src) d (y * W + W + x) e (y * W + x) (omega arith) ∙ cell_passed fold (stage_of p) W H src x y hx (omega arith)

    pub cell_next : length d ≡ n → {v : ℤ} → v ≡ pass_at (stage_of p) (line W H src x) (pos (y + 1)) → take (y * W + W + (x + 1)) (set d (y * W + W + x) v) ≡ take (y * W + W + (x + 1)) (passed p W H src)
    cell_next l {v} w =
        let here : (y + 1) * W + x ≡ y * W + W + x = omega arith in
        let on : y * W + W + (x + 1) ≡ y * W + W + x + 1 = omega arith in
        let i = row_inside W hy in
        rw on
        (fill_next (passed p W H src) d (y * W + W + x) e v (omega (arith, h.same)) (omega (arith, length_down (pass fold (stage_of p)) W H src))
        (w ∙ sym (cell_passed fold (stage_of p) W H src x (y + 1) hx hy) ∙ ap (at (passed p W H src)) here))

-- ---- the next row
pub record Turn (s : Stage) (e : ℤ → ℤ) (y : ℕ) (v o i : ℤ) : Type 0 where
  pub above : v ≡ pass_at s e (pos y)
  pub edges : o ≡ e (pos (y + s.radius + 2)) -ℤ e (pos y -ℤ pos (s.radius + 1))
  pub within : i ≡ e (pos (y + s.radius + 1)) -ℤ e (pos y -ℤ pos s.radius)

on : (y r : ℕ) → (y + r + 1 ≡ y + suc r) × (y + r + 2 ≡ y + suc (suc r))
on y r = omega arith

module _ {s : Stage} {e : ℤ → ℤ} {y : ℕ} {v o i : ℤ} (t : Turn s e y v o i) where
  pub stepped_is : stepped s v o i ≡ pass_at s e (pos (y + 1))
  stepped_is = rw (t.above, t.edges, t.within, (on y s.radius).0, (on y s.radius).1, add-one s.radius, add-one y) (sym (pass_at_slide e s (pos y)))

  pub stepped_fits : Roomy s e → StepFits s v o i
  stepped_fits h =
      let step = room_step h in
      record {
        outer = rw t.edges (room_fits (step.outer _ _));
        between = rw (t.above, t.edges) (room_fits (step.between _ _ _));
        inside = rw t.within (room_fits (step.inside _ _));
        cell = rw stepped_is (room_fits (step.written _));
      }

-- ---- cell x of row y + 1, where the rows that leave or enter begin at a, b, c and k
module _ {p : Plan} {W H : ℕ} {src : List ℤ} {n : ℕ} {y a b c k : ℕ} (h : Passable p W H src n) (m : Around p W H y a b c k) {x : ℕ} (l : x < W) where
  pub edges_fit : SFits w64 (at src (k + x) -ℤ at src (a + x))
  edges_fit = change_fits h m.high m.low x

  pub within_fit : SFits w64 (at src (c + x) -ℤ at src (b + x))
  within_fit = change_fits h m.enters m.leaves x

  module _ (d : List ℤ) (e : take (y * W + W + x) d ≡ take (y * W + W + x) (passed p W H src)) where
    turn : Turn (stage_of p) (line W H src x) y (at d (y * W + x)) (at src (k + x) -ℤ at src (a + x)) (at src (c + x) -ℤ at src (b + x))
    turn = record { above = above_is h y l m.below d e; edges = change_is h m.high m.low x; within = change_is h m.enters m.leaves x }

    pub step_fits : StepFits (stage_of p) (at d (y * W + x)) (at src (k + x) -ℤ at src (a + x)) (at src (c + x) -ℤ at src (b + x))
    step_fits = stepped_fits turn (line_room h x)

    pub row_next : length d ≡ n
        → take (y * W + W + (x + 1)) (set d (y * W + W + x) (stepped (stage_of p) (at d (y * W + x)) (at src (k + x) -ℤ at src (a + x)) (at src (c + x) -ℤ at src (b + x)))) ≡ take (y * W + W + (x + 1)) (passed p W H src)
    row_next i = cell_next h y l m.below d e i (stepped_is turn)

-- ---- the rows, by walking
begins_stands : {W H : ℕ} {z : ℤ} {m i : ℕ} → Stands H z m → Begins W H (pos m) i → Begins W H z i
begins_stands {W} s b = record { is = b.is ∙ ap (λ k. k * W) (stands_fold s); inside = b.inside }

pub around : {p : Plan} {W H y low enters : ℕ} → Beside p H y low enters → y + 1 < H → {leaves high : ℕ} → Stands H (pos (low + 1)) leaves → Stands H (pos (enters + 1)) high
    → {a b c d : ℕ} → Begins W H (pos low) a → Begins W H (pos leaves) b → Begins W H (pos enters) c → Begins W H (pos high) d → Around p W H y a b c d
around {p} {W} {y = y} h l s t a b c d = record {
  below = l;
  inside = omega (arith, row_inside W l);
  low = begins_stands h.low_stands a;
  leaves = begins_stands (leaves_at h s) b;
  enters = begins_stands h.high_stands c;
  high = begins_stands (enters_at h t) d;
}
