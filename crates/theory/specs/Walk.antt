-- Walking the half-sample extension of N samples forward, by where one stands in its period of 2N.
--   Stands N z m   the whole number z stands at m, one of 0 to 2N - 1
-- Laws: stands_here (those stand at themselves), stands_periods (so does what lies whole periods farther),
-- stands_next (one on), stands_mirror (-1 - z), stands_fold, stands_ext (what z reads is read there).
use Rattle.std.specs.Prelude.{◌≡◌, List, ℕ, ◌+◌, ◌*◌, ◌-◌, ◌<◌, length, ℤ, pos, negsuc, ◌+ℤ◌, ◌-ℤ◌}
use Rattle.std.proofs.Math.Path.{sym, ap}
use Rattle.std.proofs.Common.{◌∙◌, arith}
use Rattle.meaning.specs.Extension.{at, emod, reflect, fold, ext}
use Rattle.theory.specs.Remainder.{emod_periods, emod_small, emod_shift, emod_mirror}

pub record Stands (N : ℕ) (z : ℤ) (m : ℕ) : Type 0 where
  pub below : m < 2 * N
  pub is : emod z (2 * N) ≡ m

-- ---- whole numbers from 0 on
pub stands_periods : {N : ℕ} (q : ℕ) {i m : ℕ} → m < 2 * N → i ≡ q * (2 * N) + m → Stands N (pos i) m
stands_periods q h e = record { below = h; is = rw e (emod_periods q h) }

pub stands_here : {N m : ℕ} → m < 2 * N → Stands N (pos m) m
stands_here h = stands_periods 0 h (omega arith)

-- ---- from one to another
module _ {N : ℕ} {z : ℤ} {m : ℕ} (s : Stands N z m) where
  pub stands_next : {k : ℕ} → Stands N (pos (m + 1)) k → {y : ℤ} → y ≡ z +ℤ pos 1 → Stands N y k
  stands_next t e = record { below = t.below; is = ap (λ x. emod x (2 * N)) e ∙ emod_shift z (pos 1) (omega (arith, s.below)) ∙ ap (λ i. emod (pos i +ℤ pos 1) (2 * N)) s.is ∙ t.is }

  pub stands_mirror : {y : ℤ} → y ≡ negsuc 0 -ℤ z → Stands N y (2 * N - 1 - m)
  stands_mirror e = record { below = omega (arith, s.below); is = ap (λ x. emod x (2 * N)) e ∙ emod_mirror z (omega (arith, s.below)) ∙ rw s.is (omega arith) }

  pub stands_fold : fold N (pos m) ≡ fold N z
  unfolding fold
  stands_fold = ap (reflect N) (emod_small s.below ∙ sym s.is)

pub stands_ext : (f : List ℤ) {z : ℤ} {m : ℕ} → Stands (length f) z m → ext fold f (pos m) ≡ ext fold f z
unfolding ext
stands_ext f s = ap (at f) (stands_fold s)
