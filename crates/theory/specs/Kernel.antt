-- One pass's taps and the kernel of a list of stages: symmetric, never negative, 0 beyond the reach.
-- Laws: tap_inside, tap_edge, tap_nonneg, tap_split; tap_reach_width, tap_outside (0 beyond its reach), tap_positive;
-- kernel_none, kernel_cons (a stage more is a pass over the kernel), kernel_symmetric, kernel_nonneg;
-- reach_width, kernel_outside (0 beyond the reach), kernel_beyond (so beyond the width).
use Rattle.std.specs.Prelude.{◌≡◌, refl, cond, List, [], ◌∷◌, ℕ, suc, ◌+◌, ◌≤◌, ◌<◌, eqb, ℤ, pos, negsuc, neg_ℤ, nat_abs, ◌+ℤ◌, ◌-ℤ◌, ◌*ℤ◌, ◌≤ℤ◌, ◌<ℤ◌}
use Rattle.std.proofs.Common.{sym, ◌∙◌, ap, ap₂, le_refl, arith}
use Rattle.std.proofs.Math.Decide.{ℕ_discrete, dec_le}
use Rattle.std.proofs.Math.IntN.{neg_ℤ-+ℤ, neg_ℤ-neg_ℤ}
use borrow.Author.Tests.{le-leb, lt-leb, eq-eqb, ne_eqb}
use Rattle.algebra.specs.Ring.{*ℤ-zero_l, *ℤ-zero_r, *ℤ-+ℤ}
use Rattle.algebra.specs.Order.{nonneg_pos, nonneg-*, positive_pos}
use Rattle.algebra.specs.Size.{nat_abs_neg, nat_abs_back}
use Rattle.algebra.specs.Within.{sum_within, Beyond, within_ext, within_none, within-*, within_neg, within_nonneg}
use Rattle.meaning.specs.Kernel.{Stage, tap, kernel, width, tap_reach, reach, pass_at}

-- ---- one pass
pub tap_inside : (s : Stage) (m : ℤ) → nat_abs m ≤ s.radius → tap s m ≡ pos s.inner
unfolding tap
tap_inside s m h = rw (le-leb _ _ h)

pub tap_edge : (s : Stage) (m : ℤ) → nat_abs m ≡ suc s.radius → tap s m ≡ pos s.edge
unfolding tap
tap_edge s m h = rw (lt-leb (nat_abs m) s.radius (omega arith), eq-eqb _ _ h)

tap_symmetric : (s : Stage) (m : ℤ) → tap s (neg_ℤ m) ≡ tap s m
unfolding tap
tap_symmetric s m = rw (nat_abs_neg m)

pub tap_nonneg : (s : Stage) (m : ℤ) → pos 0 ≤ℤ tap s m
unfolding tap
tap_nonneg s m = nonneg_pos

-- the inner taps, and the two at the edge
pub tap_split : (s : Stage) (g : ℤ → ℤ) → sum_within (suc s.radius) (λ j. tap s j *ℤ g j) ≡ pos s.inner *ℤ sum_within s.radius g +ℤ pos s.edge *ℤ (g (pos (suc s.radius)) +ℤ g (negsuc s.radius))
unfolding sum_within
tap_split s g = ap₂ ◌+ℤ◌
    (within_ext r (λ j l. ap (λ z. z *ℤ g j) (tap_inside s j l)) ∙ within-* r (pos s.inner) g)
    (ap₂ (λ x y. x *ℤ g (pos (suc r)) +ℤ y *ℤ g (negsuc r)) (tap_edge s (pos (suc r)) refl) (tap_edge s (negsuc r) refl) ∙ sym (*ℤ-+ℤ (pos s.edge) (g (pos (suc r))) (g (negsuc r))))
  where
    r : ℕ
    r = s.radius

-- ---- how far its taps go
data Edge (s : Stage) : Type 0 where
  plain : s.edge ≡ 0 → tap_reach s ≡ s.radius → Edge s
  edged : 0 < s.edge → tap_reach s ≡ suc s.radius → Edge s

edge : (s : Stage) → Edge s
edge s = go (ℕ_discrete s.edge 0)
  where
    go : Dec (s.edge ≡ 0) → Edge s
    go (yes e) = plain e (rw (eq-eqb _ _ e))
    go (no e) = edged (omega arith) (rw (ne_eqb _ _ e))

pub tap_reach_width : (s : Stage) → tap_reach s ≤ suc s.radius
tap_reach_width s = go (edge s)
  where
    go : Edge s → tap_reach s ≤ suc s.radius
    go (plain e i) = omega arith
    go (edged e i) = omega arith

pub tap_outside : (s : Stage) → Beyond (tap_reach s) (tap s)
tap_outside s m h = go (edge s) (ℕ_discrete (nat_abs m) (suc s.radius))
  where
    outside : suc s.radius < nat_abs m → tap s m ≡ pos 0
    outside l = unfold tap in rw (lt-leb (nat_abs m) s.radius (omega arith), ne_eqb (nat_abs m) (suc s.radius) (omega arith))

    go : Edge s → Dec (nat_abs m ≡ suc s.radius) → tap s m ≡ pos 0
    go (plain e i) (yes j) = tap_edge s m j ∙ ap pos e
    go (plain e i) (no j) = outside (omega arith)
    go (edged e i) d = outside (omega arith)

pub tap_positive : (s : Stage) → 0 < s.inner → (m : ℤ) → nat_abs m ≤ tap_reach s → pos 0 <ℤ tap s m
tap_positive s b m h = go (edge s) (dec_le (nat_abs m) s.radius)
  where
    go : Edge s → Dec (nat_abs m ≤ s.radius) → pos 0 <ℤ tap s m
    go d (yes l) = rw (tap_inside s m l) (positive_pos b)
    go (plain e i) (no l) = let no : ⊥ = omega arith in absurd no
    go (edged e i) (no l) = rw (tap_edge s m (omega arith)) (positive_pos e)

-- ---- the kernel
pub kernel_none : (m : ℤ) → kernel [] m ≡ pos (cond (eqb (nat_abs m) 0) 1 0)
unfolding kernel
kernel_none m = refl

pub kernel_cons : (s : Stage) (ss : List Stage) (m : ℤ) → kernel (s ∷ ss) m ≡ pass_at s (kernel ss) m
unfolding kernel
kernel_cons s ss m = refl

neg_sub : (m j : ℤ) → neg_ℤ m -ℤ j ≡ neg_ℤ (m -ℤ neg_ℤ j)
neg_sub m j = simp (neg_ℤ-+ℤ, neg_ℤ-neg_ℤ)

pub kernel_symmetric : (ss : List Stage) (m : ℤ) → kernel ss (neg_ℤ m) ≡ kernel ss m
unfolding kernel pass_at
kernel_symmetric [] m = rw (nat_abs_neg m)
kernel_symmetric (s ∷ ss) m =
    within_ext _ (λ j l. ap₂ ◌*ℤ◌ (sym (tap_symmetric s j)) (ap (kernel ss) (neg_sub m j) ∙ kernel_symmetric ss (m -ℤ neg_ℤ j)))
    ∙ within_neg _ (λ j. tap s j *ℤ kernel ss (m -ℤ j))

pub kernel_nonneg : (ss : List Stage) (m : ℤ) → pos 0 ≤ℤ kernel ss m
unfolding kernel pass_at
kernel_nonneg [] m = nonneg_pos
kernel_nonneg (s ∷ ss) m = within_nonneg _ (λ j l. nonneg-* (tap_nonneg s j) (kernel_nonneg ss (m -ℤ j)))

far : (m j : ℤ) {w R : ℕ} → w + R < nat_abs m → nat_abs j ≤ R → w < nat_abs (m -ℤ j)
far m j h l = omega (arith, nat_abs_back m j)

pub reach_width : (ss : List Stage) → reach ss ≤ width ss
unfolding reach width
reach_width [] = le_refl 0
reach_width (s ∷ ss) = omega (arith, reach_width ss, tap_reach_width s)

pub kernel_outside : (ss : List Stage) → Beyond (reach ss) (kernel ss)
unfolding kernel pass_at reach
kernel_outside [] m h = rw (ne_eqb (nat_abs m) 0 (omega arith))
kernel_outside (s ∷ ss) m h = within_none _ (λ j l. term (kernel_outside ss) j (dec_le (nat_abs j) (tap_reach s)))
  where
    term : Beyond (reach ss) (kernel ss) → (j : ℤ) → Dec (nat_abs j ≤ tap_reach s) → tap s j *ℤ kernel ss (m -ℤ j) ≡ pos 0
    term ih j (yes l) = *ℤ-zero_r (tap s j) (ih (m -ℤ j) (far m j h l))
    term ih j (no l) = *ℤ-zero_l (kernel ss (m -ℤ j)) (tap_outside s j (omega arith))

pub kernel_beyond : (ss : List Stage) → Beyond (width ss) (kernel ss)
kernel_beyond ss m h = kernel_outside ss m (omega (arith, reach_width ss))
