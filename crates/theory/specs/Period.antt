-- Sums of a row e from 0 on, whole periods at once; and by them the window around 0, and the pass there.
--   up_to e k      e 0 + e 1 + .. + e (k - 1)
--   Repeats p e   from 0 on, e repeats after p
--   Mirrored e    what stands at -1 - n stands at n
-- Laws: up_to_none, up_to_next, up_to_size, up_to_periods (q periods and t cells more), up_to_whole (q periods); window_mirrored, pass_at_mirrored; ext_repeats, ext_mirrored (of a series).
use Rattle.std.specs.Prelude.{◌≡◌, refl, List, [], ◌∷◌, ℕ, zero, suc, ◌+◌, ◌*◌, length, ℤ, pos, negsuc, ◌+ℤ◌, ◌*ℤ◌}
use Rattle.std.proofs.Common.{sym, ◌∙◌, ap₂, add_comm, add-one, arith}
use Rattle.std.proofs.Math.Path.{ap}
use Rattle.std.proofs.Math.IntN.{+ℤ_idl, +ℤ_idr, zero-*ℤ, suc_ℤ-*ℤ}
use Rattle.algebra.specs.Expression.{◌⊕◌, ◌⊗◌}
use Rattle.algebra.specs.Solver.{ring, ◌≗◌}
use Rattle.algebra.specs.Ring.{ac}
use Rattle.algebra.specs.Size.{Abs}
use Rattle.algebra.specs.Sum.{sum, sum_ext, sum_split, sum_abs}
use Rattle.meaning.specs.Extension.{at, fold, ext}
use Rattle.meaning.specs.Kernel.{Stage, pass_at}
use Rattle.theory.specs.HalfSample.{fold_period, ext_negsuc}
use Rattle.theory.specs.Slide.{window, window_none, window_grow, pass_at_window}

unfoldable pub up_to : (ℤ → ℤ) → ℕ → ℤ
up_to e k = sum k (λ i. e (pos i))

pub record Repeats (p : ℕ) (e : ℤ → ℤ) : Type 0 where
  pub again : (n : ℕ) → e (pos (p + n)) ≡ e (pos n)

pub record Mirrored (e : ℤ → ℤ) : Type 0 where
  pub back : (n : ℕ) → e (negsuc n) ≡ e (pos n)

-- ---- sums
pub up_to_none : (e : ℤ → ℤ) → up_to e 0 ≡ pos 0
unfolding up_to sum
up_to_none e = refl

pub up_to_next : (e : ℤ → ℤ) (k : ℕ) → up_to e (k + 1) ≡ up_to e k +ℤ e (pos k)
unfolding up_to sum
up_to_next e k = rw (add-one k)

pub up_to_size : {M : ℕ} {e : ℤ → ℤ} → ((n : ℤ) → Abs (e n) M) → (k : ℕ) → Abs (up_to e k) (k * M)
unfolding up_to
up_to_size {M} h k = sum_abs k M (λ i l. h (pos i))

module _ {p : ℕ} {e : ℤ → ℤ} (h : Repeats p e) where
  one_more : (k : ℕ) → up_to e (p + k) ≡ up_to e p +ℤ up_to e k
  unfolding up_to
  one_more k = sum_split p k _ ∙ ap (λ z. sum p (λ i. e (pos i)) +ℤ z) (sum_ext k (λ i l. h.again i))

  pub up_to_periods : (q t : ℕ) → up_to e (q * p + t) ≡ pos q *ℤ up_to e p +ℤ up_to e t
  up_to_periods zero t =
      let none : 0 * p + t ≡ t = omega arith in
      rw (none, zero-*ℤ (up_to e p)) (sym (+ℤ_idl (up_to e t)))
  up_to_periods (suc q) t =
      let on : suc q * p + t ≡ p + (q * p + t) = omega arith in
      rw (on, one_more (q * p + t), up_to_periods q t, suc_ℤ-*ℤ (pos q) (up_to e p)) (simp ac)

  pub up_to_whole : (q : ℕ) → up_to e (q * p) ≡ pos q *ℤ up_to e p
  up_to_whole q =
      let none : q * p ≡ q * p + 0 = omega arith in
      ap (up_to e) none ∙ up_to_periods q 0 ∙ rw (up_to_none e) (+ℤ_idr _)

-- ---- around 0
module _ {e : ℤ → ℤ} (h : Mirrored e) where
  pub window_mirrored : (r : ℕ) → window e r (pos 0) ≡ up_to e r +ℤ up_to e r +ℤ e (pos r)
  window_mirrored zero = window_none e (pos 0) ∙ rw (up_to_none e) (sym (+ℤ_idl (e (pos 0))))
  window_mirrored (suc r) =
      window_grow e r (pos 0)
      ∙ ap₂ (λ x y. window e r (pos 0) +ℤ (x +ℤ y)) (ap e (+ℤ_idl (negsuc r)) ∙ h.back r) (ap e (+ℤ_idl (pos (suc r))))
      ∙ rw (window_mirrored r, ← add-one r, up_to_next e r) (simp ac)

  pub pass_at_mirrored : (s : Stage) → pass_at s e (pos 0) ≡ pos (2 * s.inner) *ℤ up_to e s.radius +ℤ pos (s.inner + s.edge) *ℤ e (pos s.radius) +ℤ pos s.edge *ℤ e (pos (s.radius + 1))
  pass_at_mirrored s =
      let r = s.radius in
      let twice : 2 * s.inner ≡ s.inner + s.inner = omega arith in
      pass_at_window e s (pos 0)
      ∙ ap₂ (λ x y. pos s.inner *ℤ window e r (pos 0) +ℤ pos s.edge *ℤ (x +ℤ y)) (ap e (+ℤ_idl (negsuc r)) ∙ h.back r) (ap e (+ℤ_idl (pos (suc r))))
      ∙ rw (window_mirrored r, ← add-one r, twice) (weighed (pos s.inner) (pos s.edge) (up_to e r) (e (pos r)) (e (pos (r + 1))))
    where
      weighed : (b a u x y : ℤ) → b *ℤ (u +ℤ u +ℤ x) +ℤ a *ℤ (x +ℤ y) ≡ (b +ℤ b) *ℤ u +ℤ (b +ℤ a) *ℤ x +ℤ a *ℤ y
      weighed = ring 5 (λ b a u x y. b ⊗ (u ⊕ u ⊕ x) ⊕ a ⊗ (x ⊕ y) ≗ (b ⊕ b) ⊗ u ⊕ (b ⊕ a) ⊗ x ⊕ a ⊗ y) refl

-- ---- of a series
ext_period : (f : List ℤ) (n : ℕ) → ext fold f (pos (2 * length f + n)) ≡ ext fold f (pos n)
unfolding ext
ext_period [] n = refl
ext_period (x ∷ f) n = ap (at (x ∷ f)) (ap (λ i. fold (length (x ∷ f)) (pos i)) (add_comm (2 * length (x ∷ f)) n) ∙ fold_period (length (x ∷ f)) (omega arith) (pos n))

pub ext_repeats : (f : List ℤ) → Repeats (2 * length f) (ext fold f)
ext_repeats f = record { again = ext_period f }

pub ext_mirrored : (f : List ℤ) → Mirrored (ext fold f)
ext_mirrored f = record { back = ext_negsuc f }
