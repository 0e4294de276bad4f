-- The ring laws that lib.IntN does not have.
--   ac  rules for simp: a sum of products, each sorted; nothing cancels and no coefficients are joined
-- A goal that needs cancelling is for Solver.
-- Laws: sub_back; *ℤ-assoc, *ℤ-left_comm, *ℤ-idl, *ℤ-idr, *ℤ-zero_l, *ℤ-zero_r, *ℤ-+ℤ, +ℤ-*ℤ; negℤ-*ℤ, *ℤ-negℤ.
use Rattle.std.specs.Prelude.{◌≡◌, ℤ, pos, neg_ℤ, ◌+ℤ◌, ◌-ℤ◌, ◌*ℤ◌}
use Rattle.std.proofs.Math.IntN.{+ℤ_comm, +ℤ_assoc, *ℤ_comm, neg_ℤ-neg_ℤ, neg_ℤ-+ℤ, zero-*ℤ, *ℤ-zero}
use Rattle.algebra.specs.Difference.{+ℤ-left-comm, rep, diff, linear}

pub sub_back : (a b : ℤ) → a -ℤ (a -ℤ b) ≡ b
sub_back a b = rw (rep a, rep b) (simp diff (omega linear))

pub *ℤ-assoc : (a b c : ℤ) → (a *ℤ b) *ℤ c ≡ a *ℤ (b *ℤ c)
*ℤ-assoc a b c = rw (rep a, rep b, rep c) (simp diff (omega linear))

pub *ℤ-left_comm : (a b c : ℤ) → a *ℤ (b *ℤ c) ≡ b *ℤ (a *ℤ c)
*ℤ-left_comm a b c = rw (rep a, rep b, rep c) (simp diff (omega linear))

pub *ℤ-idl : (a : ℤ) → pos 1 *ℤ a ≡ a
*ℤ-idl a = rw (rep a) (simp diff (omega linear))

pub *ℤ-idr : (a : ℤ) → a *ℤ pos 1 ≡ a
*ℤ-idr a = rw (rep a) (simp diff (omega linear))

-- a product is 0 where one factor is
pub *ℤ-zero_l : {a : ℤ} (b : ℤ) → a ≡ pos 0 → a *ℤ b ≡ pos 0
*ℤ-zero_l b e = rw e (zero-*ℤ b)

pub *ℤ-zero_r : (a : ℤ) {b : ℤ} → b ≡ pos 0 → a *ℤ b ≡ pos 0
*ℤ-zero_r a e = rw e (*ℤ-zero a)

pub *ℤ-+ℤ : (a b c : ℤ) → a *ℤ (b +ℤ c) ≡ a *ℤ b +ℤ a *ℤ c
*ℤ-+ℤ a b c = rw (rep a, rep b, rep c) (simp diff (omega linear))

pub +ℤ-*ℤ : (a b c : ℤ) → (a +ℤ b) *ℤ c ≡ a *ℤ c +ℤ b *ℤ c
+ℤ-*ℤ a b c = rw (rep a, rep b, rep c) (simp diff (omega linear))

pub negℤ-*ℤ : (a b : ℤ) → neg_ℤ a *ℤ b ≡ neg_ℤ (a *ℤ b)
negℤ-*ℤ a b = rw (rep a, rep b) (simp diff (omega linear))

pub *ℤ-negℤ : (a b : ℤ) → a *ℤ neg_ℤ b ≡ neg_ℤ (a *ℤ b)
*ℤ-negℤ a b = rw (rep a, rep b) (simp diff (omega linear))

pub ruleset ac = (*ℤ-+ℤ, +ℤ-*ℤ, *ℤ-assoc, +ℤ_assoc, *ℤ_comm, +ℤ_comm, neg_ℤ-+ℤ, neg_ℤ-neg_ℤ, +ℤ-left-comm, *ℤ-left_comm, negℤ-*ℤ, *ℤ-negℤ)
