-- An edge weight that is the inner weight: one radius more without edge has the same taps.
-- Laws: widened_full, widened_below (what `widened` makes of a stage), widened_either (what holds of both holds of it), widened_taps.
use Rattle.std.specs.Prelude.{◌≡◌, refl, ◌≢◌, suc, ◌≤◌, pos, nat_abs}
use Rattle.std.proofs.Common.{sym, ◌∙◌, ap, arith, eq-eqb, ne_eqb}
use Rattle.std.proofs.Math.Decide.{ℕ_discrete, dec_le}
use Rattle.meaning.specs.Kernel.{Stage, tap}
use Rattle.meaning.specs.Planner.{wider, widened}
use Rattle.theory.specs.Kernel.{tap_inside, tap_edge, tap_outside, tap_reach_width}
use Rattle.theory.specs.SameTaps.{SameTaps}

module _ (t : Stage) where
  pub widened_full : t.edge ≡ t.inner → widened t ≡ wider t
  unfolding widened
  widened_full e = rw (eq-eqb _ _ e)

  pub widened_below : t.edge ≢ t.inner → widened t ≡ t
  unfolding widened
  widened_below e = rw (ne_eqb _ _ e)

  pub widened_either : (P : Stage → Type 0) → (t.edge ≡ t.inner → P (wider t)) → (t.edge ≢ t.inner → P t) → P (widened t)
  widened_either P f g = go (ℕ_discrete t.edge t.inner)
    where
      go : Dec (t.edge ≡ t.inner) → P (widened t)
      go (yes e) = rw (widened_full e) (f e)
      go (no e) = rw (widened_below e) (g e)

  wider_taps : t.edge ≡ t.inner → SameTaps (wider t) t
  wider_taps e m = go (dec_le (nat_abs m) t.radius) (ℕ_discrete (nat_abs m) (suc t.radius))
    where
      go : Dec (nat_abs m ≤ t.radius) → Dec (nat_abs m ≡ suc t.radius) → tap (wider t) m ≡ tap t m
      go (yes l) d = tap_inside (wider t) m (omega arith) ∙ sym (tap_inside t m l)
      go (no l) (yes i) = tap_inside (wider t) m (omega arith) ∙ ap pos (sym e) ∙ sym (tap_edge t m i)
      go (no l) (no i) = tap_outside (wider t) m (omega arith) ∙ sym (tap_outside t m (omega (arith, tap_reach_width t)))

  pub widened_taps : SameTaps (widened t) t
  widened_taps = widened_either (λ u. SameTaps u t) wider_taps (λ e m. refl)
