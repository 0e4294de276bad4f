-- What a sample moves, and what a result depends on: exactly what lies within reach.
-- Laws: near_yes, near_no, near_true, near_false (the test and the fact), near_within (as a stretch of indices); weight_outside, weight_positive;
-- result_local; set_outside (of a sample set to another value), no_gain.
use Rattle.std.specs.Prelude.{◌≡◌, true, false, List, ℕ, ◌+◌, ◌-◌, ◌≤◌, ◌<◌, min, leb, ltb, length, set, ℤ, pos, nat_abs, ◌+ℤ◌, ◌-ℤ◌, ◌*ℤ◌, ◌<ℤ◌}
use Rattle.std.proofs.Common.{sym, ◌∙◌, arith, le-leb, leb-true, leb-false, lt-ltb, le-ltb}
use Rattle.std.proofs.Math.Decide.{dec_le, dec_lt}
use Rattle.std.proofs.Math.IntN.{*ℤ-zero, zero-*ℤ, +ℤ_idr}
use Rattle.std.proofs.lemmas.Bool.{lt-leb}
use Rattle.algebra.specs.Order.{zarith, of+, nonneg_pos, positive_pos, *ℤ-cancel_r}
use Rattle.algebra.specs.Size.{nat_abs_sub}
use Rattle.meaning.specs.Extension.{at, IndexMap, ext}
use Rattle.meaning.specs.Kernel.{Stage, reach, divisor}
use Rattle.meaning.specs.Smoothing.{result, weight, apart, near}
use Rattle.meaning.specs.Refusals.{within}
use Rattle.theory.specs.Folding.{Folding, Nearness}
use Rattle.theory.specs.Tests.{yes_and, no_and}
use Rattle.theory.specs.Lists.{at_past}
use Rattle.theory.specs.Convolution.{convolved_const}
use Rattle.theory.specs.Stages.{PositiveInner}
use Rattle.theory.specs.Reach.{convolved_local, convolved_positive}
use Rattle.theory.specs.Weights.{reads_yes, reads_no, result_set}

pub near_yes : (ss : List Stage) (n p : ℕ) → apart n p ≤ reach ss → near ss n p ≡ true
unfolding near
near_yes ss n p h = le-leb _ _ h

pub near_no : (ss : List Stage) (n p : ℕ) → reach ss < apart n p → near ss n p ≡ false
unfolding near
near_no ss n p h = lt-leb _ _ h

pub near_true : (ss : List Stage) (n p : ℕ) → near ss n p ≡ true → apart n p ≤ reach ss
unfolding near
near_true ss n p h = leb-true _ _ h

pub near_false : (ss : List Stage) (n p : ℕ) → near ss n p ≡ false → reach ss < apart n p
unfolding near
near_false ss n p h = leb-false _ _ h

pub near_within : (ss : List Stage) {N n : ℕ} (p : ℕ) → n < N → near ss n p ≡ within (p - reach ss) (min N (p + reach ss + 1)) n
near_within ss {N} {n} p h = go (dec_le (apart n p) (reach ss))
  where
    go : Dec (apart n p ≤ reach ss) → near ss n p ≡ within (p - reach ss) (min N (p + reach ss + 1)) n
    go (yes l) = near_yes ss n p l ∙ sym (yes_and (le-leb (p - reach ss) n (omega arith)) (lt-ltb n (min N (p + reach ss + 1)) (omega arith)))
    go (no l) = near_no ss n p (omega arith) ∙ sym (no_and (leb (p - reach ss) n) (ltb n (min N (p + reach ss + 1))) (λ k. le-ltb n (min N (p + reach ss + 1)) (omega (arith, leb-true (p - reach ss) n k))))

-- what reads p stands no nearer to n than p does
pub weight_outside : {φ : IndexMap} → Nearness φ → (ss : List Stage) {N : ℕ} (n p : ℕ) → n < N → reach ss < apart n p → weight φ ss N (pos n) p ≡ pos 0
unfolding weight
weight_outside {φ} C ss {N} n p h far =
    convolved_local ss (pos n) (λ x l. reads_no φ N x (λ e. other x l (rw e at (C.nearest h x))))
    ∙ convolved_const ss (pos 0) (pos n) ∙ *ℤ-zero (pos (divisor ss))
  where
    other : (x : ℤ) → nat_abs (pos n -ℤ x) ≤ reach ss → apart n p ≤ nat_abs (pos n -ℤ x) → ⊥
    other x l k = omega arith

-- p itself reads p
pub weight_positive : {φ : IndexMap} → Folding φ → {ss : List Stage} → PositiveInner ss → {N : ℕ} (n p : ℕ) → p < N → apart n p ≤ reach ss → pos 0 <ℤ weight φ ss N (pos n) p
unfolding weight
weight_positive {φ} F b {N} n p h l = convolved_positive b (λ x. nonneg_pos) (pos n) (pos p) (rw (nat_abs_sub n p) l) (rw (reads_yes φ N (pos p) (F.here h)) (positive_pos (omega arith)))

pub result_local : {φ : IndexMap} → Nearness φ → (ss : List Stage) (f g : List ℤ) → length f ≡ length g → {n : ℕ} → n < length f → ((p : ℕ) → p < length f → apart n p ≤ reach ss → at f p ≡ at g p) → result φ ss f (pos n) ≡ result φ ss g (pos n)
unfolding result ext
result_local {φ} C ss f g e {n} h k = convolved_local ss (pos n) (λ x l. rw (← e) (go x l (C.nearest h x) (dec_lt (φ (length f) x) (length f))))
  where
    go : (x : ℤ) {p : ℕ} → nat_abs (pos n -ℤ x) ≤ reach ss → apart n p ≤ nat_abs (pos n -ℤ x) → Dec (p < length f) → at f p ≡ at g p
    go x {p} l q (yes t) = k p t (omega arith)
    go x {p} l q (no t) = at_past f p (omega arith) ∙ sym (at_past g p (omega arith))

-- ---- a sample set to another value moves no result outside its reach
pub set_outside : {φ : IndexMap} → Nearness φ → (ss : List Stage) (f : List ℤ) (n p : ℕ) (v : ℤ) → n < length f → p < length f → reach ss < apart n p → result φ ss (set f p v) (pos n) ≡ result φ ss f (pos n)
set_outside {φ} C ss f n p v hn hp l = rw (result_set φ ss f p v hp (pos n), weight_outside C ss n p hn l, *ℤ-zero (v -ℤ at f p)) (+ℤ_idr (result φ ss f (pos n)))

-- by a weight above 0 only no change gives no gain
pub no_gain : (x : ℤ) {d w : ℤ} → pos 0 <ℤ w → x +ℤ d *ℤ w ≡ x → d ≡ pos 0
no_gain x {d} {w} h e = *ℤ-cancel_r h (omega (zarith, of+ x (d *ℤ w)) ∙ sym (zero-*ℤ w))
