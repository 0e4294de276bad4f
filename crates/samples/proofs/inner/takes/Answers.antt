-- What passes both tests is cut by the call, and what is cut and no larger than the bound is x exactly where x is taken.
use Rattle.std.proofs.Common.{◌≡◌, nat_abs, sym, ap, ◌∙◌, to_z-of_z, w64, to_z, of_z, true≢false}
use Rattle.std.proofs.lemmas.Bool.{lt-leb}
use borrow.Author.Rules.{sfits_of}
use lib.Ieee.{of_bits, neg, to_signed}
use Rattle.theory.specs.Doubles.{low_untaken, high_untaken, large_untaken, cut_taken}
use Rattle.samples.proofs.inner.takes.Goals as goal
use Rattle.samples.proofs.inner.takes.Goals.{then-x, else-x, After-unsigned_abs, After-truncating_f64_to_i64-whole}

pub returns-then-not-x : goal.returns-then-not-x
unfolding of_bits neg
returns-then-not-x c = elim c.if-x.branch [
  | then-x w ↦ sym (high_untaken _ c.requires _ (sym w.value-is ∙ c.if-not-x.true))
  | else-x w ↦ sym (low_untaken _ c.requires _ w.if-x.false)
]

pub truncating_f64_to_i64-whole-requires-clause-lower_bound : goal.truncating_f64_to_i64-whole-requires-clause-lower_bound
unfolding of_bits neg
truncating_f64_to_i64-whole-requires-clause-lower_bound c = elim c.if-x.branch [
  | then-x w ↦ rw w.if-x.true tt
  | else-x w ↦ absurd (true≢false (sym c.if-not-x.false ∙ w.value-is ∙ w.if-x.false))
]

pub truncating_f64_to_i64-whole-requires-clause-upper_bound : goal.truncating_f64_to_i64-whole-requires-clause-upper_bound
unfolding of_bits neg
truncating_f64_to_i64-whole-requires-clause-upper_bound c = elim c.if-x.branch [
  | then-x w ↦ rw (sym w.value-is ∙ c.if-not-x.false) tt
  | else-x w ↦ absurd (true≢false (sym c.if-not-x.false ∙ w.value-is ∙ w.if-x.false))
]

-- the local that holds what was cut
whole-read : (c : After-truncating_f64_to_i64-whole) → to_z w64 (of_z w64 c.truncating_f64_to_i64-whole.result) ≡ to_signed 63 c.args.x
whole-read c = to_z-of_z {w = w64} (sfits_of c.truncating_f64_to_i64-whole.type_inv) ∙ c.truncating_f64_to_i64-whole.ensures

size_is : (c : After-unsigned_abs) → c.unsigned_abs.result ≡ nat_abs (to_signed 63 c.args.x)
size_is c = c.unsigned_abs.ensures.value ∙ ap nat_abs (whole-read c.before)

pub returns-then-unsigned_abs-bound : goal.returns-then-unsigned_abs-bound
returns-then-unsigned_abs-bound c =
    let s = size_is (goal.at.returns-then-unsigned_abs-bound c).After-unsigned_abs in
    rw (whole-read (goal.at.returns-then-unsigned_abs-bound c).After-truncating_f64_to_i64-whole) (cut_taken _ c.requires _ (rw s at c.if-unsigned_abs-bound.true))

pub returns-else-unsigned_abs-bound : goal.returns-else-unsigned_abs-bound
returns-else-unsigned_abs-bound c =
    let s = size_is (goal.at.returns-else-unsigned_abs-bound c).After-unsigned_abs in
    lt-leb c.unsigned_abs.result c.args.bound c.if-unsigned_abs-bound.false ∙ sym (large_untaken _ c.requires _ (rw s at c.if-unsigned_abs-bound.false))
