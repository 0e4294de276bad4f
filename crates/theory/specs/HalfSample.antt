-- The half-sample symmetric fold, document 01's extension, is a Folding, has Nearness and is Balanced.
--   half_sample            the Folding
--   half_sample_near       the Nearness
--   half_sample_balanced   the balance
-- Laws: reflect_low, reflect_high, reflect_min (both, for omega);
-- fold_at (a place by its period), fold_small (one of the first period), fold_period, fold_mirror (-1 - z reads as z does), fold_negsuc (the same of pos n), ext_negsuc (of a series).
use Rattle.std.specs.Prelude.{◌≡◌, refl, List, [], ◌∷◌, ℕ, suc, ◌+◌, ◌*◌, ◌-◌, ◌≤◌, ◌<◌, min, length, ℤ, pos, negsuc, nat_abs, ◌+ℤ◌, ◌-ℤ◌}
use Rattle.std.proofs.Common.{sym, ◌∙◌, ap₂, arith, lt-ltb, le-ltb}
use Rattle.std.proofs.Math.Path.{ap}
use Rattle.std.proofs.Math.Decide.{dec_lt}
use Rattle.algebra.specs.Difference.{⊖-is, rep, diff, linear}
use Rattle.algebra.specs.Size.{nat_abs_sub}
use Rattle.meaning.specs.Extension.{at, emod, reflect, fold, ext}
use Rattle.meaning.specs.Smoothing.{apart}
use Rattle.theory.specs.Remainder.{emod_below, emod_periods, emod_small, emod_period, emod_shift, emod_mirror}
use Rattle.theory.specs.Folding.{Follows, forward, backward, Folding, Nearness, Balanced}

-- ---- reflection
pub reflect_low : {N m : ℕ} → m < N → reflect N m ≡ m
unfolding reflect
reflect_low h = rw (lt-ltb _ _ h)

pub reflect_high : {N m : ℕ} → N ≤ m → reflect N m ≡ 2 * N - 1 - m
unfolding reflect
reflect_high h = rw (le-ltb _ _ h)

pub reflect_min : (N m : ℕ) → reflect N m ≡ min m (2 * N - suc m)
reflect_min N m = go (dec_lt m N)
  where
    go : Dec (m < N) → reflect N m ≡ min m (2 * N - suc m)
    go (yes l) = reflect_low l ∙ omega arith
    go (no l) = reflect_high {N = N} {m = m} (omega arith) ∙ omega arith

reflect_mirror : (N m : ℕ) → m < 2 * N → reflect N (2 * N - suc m) ≡ reflect N m
reflect_mirror N m h = omega (arith, reflect_min N m, reflect_min N (2 * N - suc m))

-- ---- the fold
pub fold_at : (N i : ℕ) {t : ℕ} → t < 2 * N → fold N (pos (i * (2 * N) + t)) ≡ reflect N t
unfolding fold
fold_at N i h = ap (reflect N) (emod_periods i h)

pub fold_small : (N : ℕ) {m : ℕ} → m < 2 * N → fold N (pos m) ≡ reflect N m
unfolding fold
fold_small N h = ap (reflect N) (emod_small h)

module _ (N : ℕ) (h : 0 < N) where
  fold_below : (z : ℤ) → fold N z < N
  unfolding fold
  fold_below z = omega (arith, reflect_min N (emod z (2 * N)), emod_below z {p = 2 * N} (omega arith))

  pub fold_period : (z : ℤ) → fold N (z +ℤ pos (2 * N)) ≡ fold N z
  unfolding fold
  fold_period z = ap (reflect N) (emod_period z (omega arith))

  fold_shift : (z d : ℤ) → fold N (z +ℤ d) ≡ fold N (pos (emod z (2 * N)) +ℤ d)
  unfolding fold
  fold_shift z d = ap (reflect N) (emod_shift z d (omega arith))

  pub fold_mirror : (z : ℤ) → fold N (negsuc 0 -ℤ z) ≡ fold N z
  unfolding fold
  fold_mirror z = ap (reflect N) (emod_mirror z (omega arith)) ∙ reflect_mirror N (emod z (2 * N)) (emod_below z (omega arith))

  pub fold_negsuc : (n : ℕ) → fold N (negsuc n) ≡ fold N (pos n)
  fold_negsuc n = ap (fold N) (simp diff (omega linear)) ∙ fold_mirror (pos n)

  -- what goes on from m goes back from its mirror
  fold_back : (m : ℕ) (d : ℤ) → m < 2 * N → fold N (pos m +ℤ d) ≡ fold N (pos (2 * N - 1 - m) -ℤ d)
  fold_back m d l = sym (fold_mirror (pos m +ℤ d)) ∙ sym (fold_period _) ∙ ap (fold N) (rw (rep d) (simp diff (omega linear)))

  fold_follows : (z : ℤ) → Follows (fold N) z (fold N z)
  unfolding fold
  fold_follows z = go (emod z (2 * N)) (emod_below z (omega arith)) (fold_shift z) (dec_lt _ N)
    where
      go : (m : ℕ) → m < 2 * N → ((d : ℤ) → fold N (z +ℤ d) ≡ fold N (pos m +ℤ d)) → Dec (m < N) → Follows (fold N) z (reflect N m)
      go m l same (yes t) = rw (reflect_low t) (forward same)
      go m l same (no t) = rw (reflect_high {N = N} {m = m} (omega arith)) (backward (λ d. same d ∙ fold_back m d l))

pub half_sample : Folding fold
half_sample = record { below = λ {N}. fold_below N; here = λ {N} l. fold_small N (omega arith) ∙ reflect_low l; follows = λ {N}. fold_follows N }

pub ext_negsuc : (f : List ℤ) (n : ℕ) → ext fold f (negsuc n) ≡ ext fold f (pos n)
unfolding ext
ext_negsuc [] n = refl
ext_negsuc (x ∷ f) n = ap (at (x ∷ f)) (fold_negsuc (length (x ∷ f)) (omega arith) n)

-- ---- nearness
-- from 0 on: what stands at a reads a sample no farther out than a, and no farther from any sample n
fold_near : {N n : ℕ} → n < N → (a : ℕ) → (fold N (pos a) ≤ a) × (apart n (fold N (pos a)) ≤ apart n a)
fold_near {N} {n} h a = go (dec_lt a (2 * N))
  where
    go : Dec (a < 2 * N) → (fold N (pos a) ≤ a) × (apart n (fold N (pos a)) ≤ apart n a)
    go (yes l) = rw (fold_small N l) (omega (arith, reflect_min N a))
    go (no l) = omega (arith, fold_below N (omega arith) (pos a))

pub half_sample_near : Nearness fold
half_sample_near = record { nearest = nearest }
  where
    nearest : {N n : ℕ} → n < N → (x : ℤ) → apart n (fold N x) ≤ nat_abs (pos n -ℤ x)
    nearest {n} h (pos a) = rw (nat_abs_sub n a) (fold_near h a).1
    nearest {N} {n} h (negsuc a) = rw (fold_negsuc N (omega arith) a) (omega (arith, fold_near h a))

-- ---- balance
pub half_sample_balanced : Balanced fold
half_sample_balanced = record { ends = λ {N} h m g. ap₂ (λ a b. g a +ℤ g b) (fold_negsuc N h m) (behind N h m) }
  where
    behind : (N : ℕ) → 0 < N → (m : ℕ) → fold N (pos (N + m)) ≡ fold N (pos N -ℤ pos (suc m))
    behind N h m = fold_back N h N (pos m) (omega arith) ∙ ap (fold N) (rw (⊖-is N (suc m)) (simp diff (omega linear)))
