-- The kernel from its centre outward.
--   mirrored xs i      xs read at a whole i, alike on both sides of the centre; 0 past its end
--   staged s xs        a pass of stage s over that, as far as xs goes
--   taps_of L ss        the kernel of ss at 0, 1, .. L - 1
--   Held ss xs         xs holds the kernel of ss: at every offset, 0 past its end
--   Stageable p xs n   one stage more of p from xs into n cells: as many cells, and room for every sum
--   Ready p nd no      an accepted plan, and as many cells as it has taps or more, in both slices
-- Laws: mirrored_apart, widening (the window around the centre, one tap more on either side), length_staged, at_staged; stage_cell, stage_slide, stage_low, stage_slid, stage_written (a turn of one stage more); taps_of_none, taps_of_held, held_nonneg (no tap is negative);
-- swapped, stageable, stage_next (the steps of the recursion).
use Rattle.std.specs.Prelude.{ℕ, zero, suc, ◌+◌, ◌<◌, ◌≡◌, refl, List, [], ◌∷◌, length, take, set, replicate, ℤ, pos, negsuc, nat_abs, ◌+ℤ◌, ◌-ℤ◌, ◌*ℤ◌, ◌≤ℤ◌}
use Rattle.std.proofs.Math.Path.{sym}
use Rattle.std.proofs.Common.{◌∙◌, ap, one-mul, add-one, le_trans, arith}
use Rattle.std.proofs.Math.Decide.{dec_lt}
use Rattle.algebra.specs.Size.{nat_abs_sub}
use Rattle.meaning.specs.Extension.{at}
use Rattle.meaning.specs.Kernel.{Stage, kernel, reach, divisor, pass_at}
use Rattle.meaning.specs.Smoothing.{list_of, apart}
use Rattle.meaning.specs.Bounds.{AcceptedPlan}
use Rattle.theory.specs.Lists.{length_list_of, at_list_of, list_of_ext, list_of_const, at_past}
use Rattle.theory.specs.Kernel.{kernel_cons, kernel_symmetric, kernel_nonneg, kernel_outside}
use Rattle.theory.specs.Convolution.{pass_at_ext}
use Rattle.theory.specs.Fill.{fill_next}
use Rattle.theory.specs.Slide.{window}
use Rattle.theory.specs.Stages.{reach_part, room_replicate}
use Rattle.theory.specs.Sizes.{kernel_size}
use Rattle.plan.specs.declared.Plan.{Plan}
use Rattle.plan.specs.Structs.{stage_of, stages_of}
use Rattle.plan.specs.Tested.{Tested, allowed_tested}
use Rattle.pass.specs.Ready.{CellFits, SlideFits}
use Rattle.pass.specs.Turn.{Roomy, Widening, Turn, cell_is, cell_fits, low_next, slide_is, slide_fits}

unfoldable pub mirrored : List ℤ → ℤ → ℤ
mirrored xs i = at xs (nat_abs i)

unfoldable pub staged : Stage → List ℤ → List ℤ
staged s xs = list_of (length xs) (λ n. pass_at s (mirrored xs) (pos n))

unfoldable pub taps_of : ℕ → List Stage → List ℤ
taps_of L ss = list_of L (λ m. kernel ss (pos m))

pub record Held (ss : List Stage) (xs : List ℤ) : Type 0 where
  pub tap : (m : ℕ) → at xs m ≡ kernel ss (pos m)

pub record Stageable (p : Plan) (xs : List ℤ) (n : ℕ) : Type 0 where
  pub plan : Tested p
  pub same : n ≡ length xs
  pub room : Roomy (stage_of p) (mirrored xs)

pub record Ready (p : Plan) (nd no : ℕ) : Type 0 where
  pub accepted : AcceptedPlan (stages_of p)
  pub same : no ≡ nd
  pub enough : reach (stages_of p) < nd

-- ---- by the code's own indices
pub mirrored_apart : (xs : List ℤ) (n d : ℕ) {i : ℕ} → i ≡ apart n d → at xs i ≡ mirrored xs (pos n -ℤ pos d)
unfolding mirrored
mirrored_apart xs n d e = rw (e, nat_abs_sub n d)

-- on either side of the centre stands the same tap
pub widening : (xs : List ℤ) {j : ℕ} {s : ℤ} → s ≡ window (mirrored xs) j (pos 0) → Widening (mirrored xs) j s (at xs (j + 1)) (at xs (j + 1))
unfolding mirrored
widening xs {j} e = record { sum = e; low = rw (add-one j); high = refl }

module _ (s : Stage) (xs : List ℤ) where
  pub length_staged : length (staged s xs) ≡ length xs
  unfolding staged
  length_staged = length_list_of (length xs) _

  pub at_staged : (n : ℕ) → n < length xs → at (staged s xs) n ≡ pass_at s (mirrored xs) (pos n)
  unfolding staged
  at_staged n l = at_list_of (length xs) _ n l

-- ---- a turn of one stage more: what leaves the window is read at m, and what enters it beyond
module _ {p : Plan} {xs : List ℤ} {N : ℕ} (n : ℕ) {m : ℕ} {w lo : ℤ} (h : Stageable p xs N) (i : w ≡ window (mirrored xs) p.radius (pos n)) (j : lo ≡ mirrored xs (pos n -ℤ pos (p.radius + 1))) (k : m ≡ apart n p.radius) where
  stage_turn : Turn (stage_of p) (mirrored xs) n (pos p.inner) (pos p.edge) w lo (at xs m) (at xs (n + p.radius + 1))
  unfolding mirrored
  stage_turn = record { inner = refl; edge = refl; sum = i; low = j; leaves = mirrored_apart xs n p.radius k; enters = refl }

  pub stage_cell : CellFits (pos p.inner) (pos p.edge) w lo (at xs (n + p.radius + 1))
  stage_cell = cell_fits stage_turn h.room

  pub stage_slide : SlideFits w (at xs (n + p.radius + 1)) (at xs m)
  stage_slide = slide_fits stage_turn h.room

  pub stage_low : at xs m ≡ mirrored xs (pos (n + 1) -ℤ pos (p.radius + 1))
  stage_low = low_next stage_turn

  pub stage_slid : w +ℤ at xs (n + p.radius + 1) -ℤ at xs m ≡ window (mirrored xs) p.radius (pos (n + 1))
  stage_slid = slide_is stage_turn

  pub stage_written : (d : List ℤ) → length d ≡ length xs → n < length xs → take n d ≡ take n (staged (stage_of p) xs)
      → take (n + 1) (set d n (pos p.inner *ℤ w +ℤ pos p.edge *ℤ (lo +ℤ at xs (n + p.radius + 1)))) ≡ take (n + 1) (staged (stage_of p) xs)
  stage_written d e l t = fill_next _ d n t _ (omega arith) (rw length_staged (omega arith)) (cell_is stage_turn refl ∙ sym (at_staged _ _ n l))

pub taps_of_none : (L : ℕ) → set (replicate L (pos 0)) 0 (pos 1) ≡ taps_of L []
unfolding taps_of list_of kernel reach
taps_of_none zero = refl
taps_of_none (suc L) = ap (λ l. pos 1 ∷ l) (sym (list_of_ext L (λ i l. kernel_outside [] (pos (suc i)) (omega arith)) ∙ list_of_const L (pos 0)))

-- ---- the kernel held
length_taps_of : (L : ℕ) (ss : List Stage) → length (taps_of L ss) ≡ L
unfolding taps_of
length_taps_of L ss = length_list_of L _

pub taps_of_held : {L : ℕ} {ss : List Stage} {xs : List ℤ} → reach ss < L → xs ≡ taps_of L ss → Held ss xs
taps_of_held {L} {ss} h e = record { tap = λ m. ap (λ l. at l m) e ∙ go m (dec_lt m L) }
  where
    go : (m : ℕ) → Dec (m < L) → at (taps_of L ss) m ≡ kernel ss (pos m)
    go m (yes l) = unfold taps_of in at_list_of L _ m l
    go m (no l) = at_past (taps_of L ss) m (rw (length_taps_of L ss) (omega arith)) ∙ sym (kernel_outside ss (pos m) (omega arith))

module _ {ss : List Stage} {xs : List ℤ} (h : Held ss xs) where
  pub held_nonneg : (m : ℕ) → pos 0 ≤ℤ at xs m
  held_nonneg m = rw (h.tap m) (kernel_nonneg ss (pos m))

  mirrored_held : (i : ℤ) → mirrored xs i ≡ kernel ss i
  unfolding mirrored
  mirrored_held (pos n) = h.tap n
  mirrored_held (negsuc n) = h.tap (suc n) ∙ sym (kernel_symmetric ss (pos (suc n)))

staged_taps : (s : Stage) (ss : List Stage) {L : ℕ} {xs : List ℤ} → reach ss < L → xs ≡ taps_of L ss → staged s xs ≡ taps_of L (s ∷ ss)
unfolding staged
staged_taps s ss {L} {xs} h e =
    ap (λ n. list_of n (λ m. pass_at s (mirrored xs) (pos m))) (ap length e ∙ length_taps_of L ss)
    ∙ unfold taps_of in list_of_ext L (λ m l. pass_at_ext s (mirrored_held (taps_of_held h e)) (pos m) ∙ sym (kernel_cons s ss (pos m)))

-- ---- stage after stage
module _ {p : Plan} {nd no : ℕ} (h : Ready p nd no) where
  pub swapped : Ready p no nd
  swapped = record { accepted = h.accepted; same = sym h.same; enough = rw h.same h.enough }

  module _ {k : ℕ} (l : k < p.passes) {xs : List ℤ} (e : xs ≡ taps_of no (replicate k (stage_of p))) where
    abbrev done : List Stage
    done = replicate k (stage_of p)

    narrow : reach done < no
    narrow = omega (arith, h.enough, h.same, reach_part (stage_of p) {k = k} {K = p.passes} (omega arith))

    pub stageable : {n : ℕ} → n ≡ nd → Stageable p xs n
    stageable s =
        let plan = allowed_tested p h.accepted.plan in
        record {
          plan = plan;
          same = s ∙ sym h.same ∙ sym (ap length e ∙ length_taps_of no done);
          room = record {
            some = plan.inner.0;
            largest = divisor done;
            size = λ i. rw (mirrored_held (taps_of_held narrow e) i) (kernel_size done i);
            room = le_trans (rw (one-mul (divisor done), one-mul (divisor (stages_of p))) at (room_replicate 1 (stage_of p) plan.inner.0 l)) h.accepted.divides;
          };
        }

    pub stage_next : {ys : List ℤ} → ys ≡ staged (stage_of p) xs → ys ≡ taps_of nd (replicate (suc k) (stage_of p))
    stage_next f = f ∙ staged_taps (stage_of p) done (omega (arith, narrow, h.same)) (e ∙ ap (λ n. taps_of n done) h.same)
