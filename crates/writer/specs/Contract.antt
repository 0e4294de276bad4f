-- What the writer promises.
--   Writes o a s   the answer a, and the slice s that the call leaves, are those of the outcome o
-- Laws: few, asked (the samples and the length, where no row applies); refused_writes, done_writes (the promise, by what the rows answer).
use Rattle.std.specs.Prelude.{◌≡◌, List, ℕ, ◌≤◌, length, ℤ}
use Rattle.std.proofs.Math.Path.{sym}
use Rattle.std.proofs.Common.{◌∙◌, ap}
use Rattle.meaning.specs.Limits.{least, max_samples}
use Rattle.meaning.specs.Refusals.{Answer, first_of}
use Rattle.meaning.specs.Record.{Written, record_of, record_size, write_rows, write_record}
use Rattle.theory.specs.Refusals.{done_off, if_done_done, if_done_refused}
use Rattle.theory.specs.Tests.{differs_no, outside_no}
use Rattle.theory.specs.Records.{length_record_of}

pub record Writes (o : Written) (a : Answer) (s : List ℕ) : Type 0 where
  pub answer : a ≡ o.answer
  pub slice : s ≡ o.slice

module _ (N room need : ℕ) {k : Answer} (e : k ≡ first_of (write_rows N room need)) (done : k.number ≡ 0) where
  pub few : N ≤ max_samples
  few = (outside_no least max_samples N (done_off (write_rows N room need) tt (ap (λ a. a.number) (sym e) ∙ done)).0).1

  pub asked : room ≡ need
  asked = differs_no room need (done_off (write_rows N room need) tt (ap (λ a. a.number) (sym e) ∙ done)).1.0

module _ (r b a K M : ℕ) (f : List ℤ) (old : List ℕ) {k : Answer} (e : k ≡ first_of (write_rows (length f) (length old) (record_size (length f)))) where
  answered : k ≡ first_of (write_rows (length f) (length old) (length (record_of r b a K M f)))
  answered = rw (length_record_of r b a K M f) e

  pub refused_writes : (k.number ≡ 0 → ⊥) → Writes (write_record r b a K M f old) k old
  unfolding write_record
  refused_writes h = record { answer = answered; slice = rw (← answered) (sym (if_done_refused k (record_of r b a K M f) old h)) }

  pub done_writes : k.number ≡ 0 → {new : List ℕ} → new ≡ record_of r b a K M f → Writes (write_record r b a K M f old) k new
  unfolding write_record
  done_writes z i = record { answer = answered; slice = rw (← answered) (i ∙ sym (if_done_done k (record_of r b a K M f) old z)) }
