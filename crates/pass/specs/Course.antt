-- How far a pass over f has come, cell by cell.
-- Laws: same_room (what was written has as many cells), reached_start, reached_next (one cell more, by a turn), reached_done;
-- inside_read, inside_back (within the series, a cell and one k back from n); inside_cell, inside_slide, inside_next (a turn where all three cells read lie there).
use Rattle.std.specs.Prelude.{ℕ, ◌+◌, ◌-◌, ◌≤◌, ◌<◌, ◌≡◌, refl, List, length, set, ℤ, pos, ◌+ℤ◌, ◌-ℤ◌, ◌*ℤ◌}
use Rattle.std.proofs.Common.{sym, ◌∙◌, ap, arith}
use Rattle.algebra.specs.Difference.{sub_pos}
use Rattle.meaning.specs.Extension.{at, fold, ext}
use Rattle.meaning.specs.Smoothing.{pass}
use Rattle.theory.specs.HalfSample.{half_sample}
use Rattle.theory.specs.Passes.{length_pass, at_pass}
use Rattle.theory.specs.Fill.{fill_next, fill_done}
use Rattle.theory.specs.Slide.{window}
use Rattle.plan.specs.declared.Plan.{Plan}
use Rattle.plan.specs.Structs.{stage_of}
use Rattle.pass.specs.Ready.{Passable, CellFits, SlideFits, Reached}
use Rattle.pass.specs.Turn.{Turn, cell_is, cell_fits, slide_is, slide_fits, pass_room}

pub same_room : {p : Plan} {f : List ℤ} {m n : ℕ} → Passable p f m → n ≡ m → Passable p f n
same_room h e = rw e h

module _ {p : Plan} {f d : List ℤ} where
  pub reached_start : {k : ℕ} {w : ℤ} → p.radius ≡ k → w ≡ window (ext fold f) k (pos 0) → Reached p f d 0 w
  reached_start e i = record { sum = rw e i; front = refl }

  module _ {n : ℕ} {w b a lo first hi : ℤ} (h : Reached p f d n w) (t : Turn (stage_of p) (ext fold f) n b a w lo first hi) where
    -- v' is v and u' is u, as their words hold them
    pub reached_next : length d ≡ length f → n < length f → {v v' : ℤ} → v' ≡ v → v ≡ b *ℤ w +ℤ a *ℤ (lo +ℤ hi) → {u u' : ℤ} → u' ≡ u → u ≡ w +ℤ hi -ℤ first → Reached p f (set d n v') (n + 1) u'
    reached_next s l {v' = v'} iv i ju j = record {
      sum = ju ∙ j ∙ slide_is t;
      front = fill_next _ d n h.front v' (omega arith) (rw length_pass l) (iv ∙ cell_is t i ∙ sym (at_pass fold _ _ n l));
    }

  pub reached_done : {n : ℕ} {w : ℤ} → Reached p f d n w → length d ≡ length f → n ≡ length f → d ≡ pass fold (stage_of p) f
  reached_done {n} h s e = fill_done _ d n h.front (omega arith) (rw length_pass (omega arith))

-- ---- within the series
pub inside_read : (f : List ℤ) {i : ℕ} → i < length f → {x : ℤ} → x ≡ at f i → x ≡ ext fold f (pos i)
unfolding ext
inside_read f l e = e ∙ ap (at f) (sym (half_sample.here l))

pub inside_back : (f : List ℤ) {n k : ℕ} → k ≤ n → n - k < length f → {x : ℤ} → x ≡ at f (n - k) → x ≡ ext fold f (pos n -ℤ pos k)
inside_back f {n} {k} l m e = rw (sub_pos n k l) (inside_read f m e)

module _ {p : Plan} {f d : List ℤ} {N n : ℕ} {w : ℤ} (h : Passable p f N) (s : Reached p f d n w) (l : p.radius + 1 ≤ n) (m : n + (p.radius + 1) < length f) where
  inside_turn : Turn (stage_of p) (ext fold f) n (pos p.inner) (pos p.edge) w (at f (n - (p.radius + 1))) (at f (n - p.radius)) (at f (n + (p.radius + 1)))
  inside_turn =
      let on : n + (p.radius + 1) ≡ n + p.radius + 1 = omega arith in
      record {
        inner = refl;
        edge = refl;
        sum = s.sum;
        low = inside_back f l (omega arith) refl;
        leaves = inside_back f (omega arith) (omega arith) refl;
        enters = rw (← on) (inside_read f m refl);
      }

  pub inside_cell : CellFits (pos p.inner) (pos p.edge) w (at f (n - (p.radius + 1))) (at f (n + (p.radius + 1)))
  inside_cell = cell_fits inside_turn (pass_room h)

  pub inside_slide : SlideFits w (at f (n + (p.radius + 1))) (at f (n - p.radius))
  inside_slide = slide_fits inside_turn (pass_room h)

  pub inside_next : length d ≡ length f
      → Reached p f (set d n (pos p.inner *ℤ w +ℤ pos p.edge *ℤ (at f (n - (p.radius + 1)) +ℤ at f (n + (p.radius + 1))))) (n + 1) (w +ℤ at f (n + (p.radius + 1)) -ℤ at f (n - p.radius))
  inside_next e = reached_next s inside_turn e (omega arith) refl refl refl refl
