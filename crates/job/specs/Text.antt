-- The text of smoothing a job, as the code puts it together.
--   samples_in st        the samples in a stretch of a record
--   series_text ss M f   what is printed of smoothing the samples f
--   most_text            bytes of the longest text: a first line, and a line for each of as many samples as a record holds
--   Lent n s r w out    lengths of what is lent for n samples: samples, results, work, and the slice for the text
-- Laws: first_room, lines_room (there is room); refused_text, done_text (the lines after the call).
use Rattle.std.specs.Prelude.{◌≡◌, List, ◌++◌, ℕ, ◌+◌, ◌*◌, ◌/◌, ◌≤◌, ℤ, pos}
use Rattle.std.proofs.Common.{sym, ◌∙◌, arith}
use Rattle.std.proofs.Math.Path.{ap}
use Rattle.std.proofs.Math.ListN.{length, length-drop, length-replicate}
use Rattle.meaning.specs.Limits.{max_samples}
use Rattle.meaning.specs.Extension.{fold}
use Rattle.meaning.specs.Kernel.{Stage, divisor}
use Rattle.meaning.specs.Smoothing.{list_of}
use Rattle.meaning.specs.Refusals.{Answer, plan_divisor, zeros}
use Rattle.meaning.specs.Calls.{smooth_series}
use Rattle.meaning.specs.Record.{sample_at}
use Rattle.meaning.specs.Program.{first_line, result_lines, report}
use Rattle.theory.specs.Lists.{length_list_of}
use Rattle.theory.specs.Programs.{length_first_line, length_result_lines, report_refused, report_done, report_lent, done_divisor}
use Rattle.encoding.specs.declared.inner.cursor.Cursor.{Cursor}
use Rattle.encoding.specs.Append.{rest, Wrote, Room}
use Rattle.series.specs.Contract.{Gives}

abbrev pub samples_in : List ℕ → List ℤ
samples_in st = list_of (length st / 4) (sample_at st)

unfoldable pub series_text : List Stage → ℕ → List ℤ → List ℕ
series_text ss M f = report (divisor ss) (smooth_series fold ss M f (zeros f) (zeros f))

abbrev pub most_text : ℕ
most_text = 73 + 44 * max_samples

pub record Lent (n s r w out : ℕ) : Type 0 where
  pub samples : s ≡ n
  pub results : r ≡ n
  pub work : w ≡ n
  pub few : n ≤ max_samples
  pub text : most_text ≤ out

pub first_room : (a b c : ℕ) {o : Cursor} → most_text ≤ length (rest o) → Room o (first_line a b c)
first_room a b c h = record { room = omega (arith, length_first_line a b c) }

pub lines_room : (a b c : ℕ) (zs : List ℤ) {o p : Cursor} → length zs ≤ max_samples → most_text ≤ length (rest o) → Wrote o (first_line a b c) p → Room p (result_lines 0 zs)
lines_room a b c zs {o} h k w = record { room = omega (arith, length_first_line a b c, length_result_lines 0 zs, ap length w.rest, length-drop (length (first_line a b c)) (rest o)) }

-- after the call on the samples f that were loaded from a stretch
module _ (ss : List Stage) (M : ℕ) (st : List ℕ) (f r w : List ℤ) {n out : ℕ} (loaded : f ≡ list_of n (sample_at st)) (lent : Lent (length st / 4) n (length r) (length w) out) {a : Answer} {new work : List ℤ} (g : Gives (smooth_series fold ss M f r w) a new work) where
  number : a.number ≡ (smooth_series fold ss M f r w).answer.number
  number = ap (λ (x : Answer). x.number) g.answer

  same : series_text ss M (samples_in st) ≡ report (divisor ss) (smooth_series fold ss M f r w)
  unfolding series_text
  same =
      let all : f ≡ samples_in st = loaded ∙ ap (λ k. list_of k (sample_at st)) lent.samples in
      let count : length f ≡ n = rw loaded (length_list_of n (sample_at st)) in
      let zero = length-replicate (length f) (pos 0) in
      rw (← all) (report_lent fold ss M f (divisor ss) (zeros f) (zeros f) r w (omega (arith, lent.samples, lent.results)) (omega (arith, lent.samples, lent.work)))

  pub refused_text : (a.number ≡ 0 → ⊥) → series_text ss M (samples_in st) ≡ first_line a.number a.position 0
  refused_text h =
      same ∙ report_refused (divisor ss) (smooth_series fold ss M f r w) (λ z. h (number ∙ z))
      ∙ ap (λ (x : Answer). first_line x.number x.position 0) (sym g.answer)

  pub done_text : a.number ≡ 0 → {d : ℕ} → d ≡ plan_divisor ss → series_text ss M (samples_in st) ≡ first_line 0 d (length new) ++ result_lines 0 new
  done_text z {d} i =
      let done = sym number ∙ z in
      rw (g.results, i, done_divisor fold ss M f r w done) (same ∙ report_done (divisor ss) (smooth_series fold ss M f r w) done)
