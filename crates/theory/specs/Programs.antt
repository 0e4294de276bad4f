-- What the program prints, line by line.
-- Laws: first_line_words, line_words (a line by its words, each with the byte that ends it); lines_next (one line more), lines_rest (the others behind them);
-- length_first_line, length_result_lines; report_refused, report_done; done_divisor (what a plan answers of itself is the divisor printed),
-- report_lent (what the lent slices held does not matter); program_long, program_malformed, program_read; program_front (no more than a byte too many is read).
use Rattle.std.specs.Prelude.{◌≡◌, Bool, true, false, cond, List, [], ◌∷◌, ◌++◌, ℕ, suc, ◌+◌, ◌*◌, ◌≤◌, ◌<◌, ltb, eqb, length, take, drop, ℤ, pos}
use Rattle.std.proofs.Math.Path.{refl}
use Rattle.std.proofs.Common.{sym, ◌∙◌, ap, append_assoc, add-one, arith, length-append, take-append-drop, take-suc, take_all, length-take-le}
use Rattle.std.proofs.Math.Bool.{or-true}
use Rattle.std.proofs.Math.Decide.{dec_lt}
use borrow.Author.Tests.{lt-ltb, le-ltb}
use Rattle.meaning.specs.Limits.{max_job}
use Rattle.meaning.specs.Encoding.{text, decimal}
use Rattle.meaning.specs.Extension.{at, IndexMap}
use Rattle.meaning.specs.Kernel.{Stage, divisor}
use Rattle.meaning.specs.Refusals.{Answer, if_done, plan_divisor}
use Rattle.meaning.specs.Calls.{Smoothed, smoothed, smooth_series}
use Rattle.meaning.specs.Record.{read_record}
use Rattle.meaning.specs.Program.{first_line, result_lines, report, job_stages, job_smoothed, program}
use Rattle.theory.specs.Encoding.{length_decimal}
use Rattle.theory.specs.Refusals.{if_done_done, if_done_refused}
use Rattle.theory.specs.Accepted.{length_accepted, accepted_divisor}
use Rattle.theory.specs.AcceptedSmoothings.{series_allowed}

-- ---- the first line
pub first_line_words : (a b c : ℕ) → first_line a b c ≡ text "smooth " ++ (decimal (pos a) ++ 32 ∷ []) ++ (decimal (pos b) ++ 32 ∷ []) ++ (decimal (pos c) ++ 10 ∷ [])
unfolding first_line text
first_line_words a b c = simp append_assoc

pub length_first_line : (a b c : ℕ) → length (first_line a b c) ≤ 73
unfolding first_line text
length_first_line a b c = simp length-append (omega (arith, length_decimal (pos a), length_decimal (pos b), length_decimal (pos c)))

-- ---- the lines of results
pub line_words : (i : ℕ) (z : ℤ) → result_lines i (z ∷ []) ≡ (decimal (pos i) ++ 32 ∷ []) ++ decimal z ++ 10 ∷ []
unfolding result_lines text
line_words i z = simp append_assoc

lines_append : (i j : ℕ) (zs ws : List ℤ) → j ≡ i + length zs → result_lines i (zs ++ ws) ≡ result_lines i zs ++ result_lines j ws
unfolding result_lines
lines_append i j [] ws e = let same : i ≡ j = omega arith in ap (λ k. result_lines k ws) same
lines_append i j (z ∷ zs) ws e = rw (lines_append (suc i) j zs ws (omega arith)) (simp append_assoc)

pub lines_next : (zs : List ℤ) (i : ℕ) → i < length zs → result_lines 0 (take (i + 1) zs) ≡ result_lines 0 (take i zs) ++ result_lines i (at zs i ∷ [])
lines_next zs i h = rw (add-one, take-suc zs i (pos 0) h) (lines_append 0 i (take i zs) (at zs i ∷ []) (omega (arith, length-take-le i zs (omega arith))))

pub lines_rest : (zs : List ℤ) (i : ℕ) → result_lines 0 zs ≡ result_lines 0 (take i zs) ++ result_lines (length (take i zs)) (drop i zs)
lines_rest zs i = ap (result_lines 0) (sym (take-append-drop i zs)) ∙ lines_append 0 (length (take i zs)) (take i zs) (drop i zs) (omega arith)

pub length_result_lines : (i : ℕ) (zs : List ℤ) → length (result_lines i zs) ≤ 44 * length zs
unfolding result_lines text
length_result_lines i [] = omega arith
length_result_lines i (z ∷ zs) = simp length-append (omega (arith, length_decimal (pos i), length_decimal z, length_result_lines (suc i) zs))

-- ---- the report
module _ (D : ℕ) (o : Smoothed) where
  pub report_refused : (o.answer.number ≡ 0 → ⊥) → report D o ≡ first_line o.answer.number o.answer.position 0
  unfolding report
  report_refused h = if_done_refused o.answer _ _ h

  pub report_done : o.answer.number ≡ 0 → report D o ≡ first_line 0 D (length o.results) ++ result_lines 0 o.results
  unfolding report
  report_done z = if_done_done o.answer _ _ z

inside : (a : Answer) (P : List ℤ → List ℕ) (new r s : List ℤ) (other : List ℕ) → if_done a (P (if_done a new r)) other ≡ if_done a (P (if_done a new s)) other
unfolding if_done
inside a P new r s other = go (eqb a.number 0)
  where
    go : (b : Bool) → cond b (P (cond b new r)) other ≡ cond b (P (cond b new s)) other
    go true = refl
    go false = refl

module _ (φ : IndexMap) (ss : List Stage) (M : ℕ) (f : List ℤ) where
  pub done_divisor : (r w : List ℤ) → (smooth_series φ ss M f r w).answer.number ≡ 0 → plan_divisor ss ≡ divisor ss
  unfolding smoothed
  done_divisor r w z = accepted_divisor ss (length_accepted (series_allowed ss M f (length r) (length w) z).common)

  -- neither line says what the results and work held
  pub report_lent : (D : ℕ) (r w s v : List ℤ) → length r ≡ length s → length w ≡ length v → report D (smooth_series φ ss M f r w) ≡ report D (smooth_series φ ss M f s v)
  unfolding smoothed report
  report_lent D r w s v e g = rw (e, g) (inside _ (λ zs. first_line 0 D (length zs) ++ result_lines 0 zs) _ r s _)

-- ---- the program
module _ (s : List ℕ) where
  pub program_long : max_job < length s → program s ≡ first_line 14 0 0
  unfolding program
  program_long h = rw (lt-ltb max_job (length s) h) refl

  pub program_malformed : ((read_record s).answer.number ≡ 0 → ⊥) → program s ≡ first_line 14 0 0
  unfolding program
  program_malformed h = rw (lt-ltb 0 (read_record s).answer.number (omega (arith, h)), or-true (ltb max_job (length s))) refl

  pub program_read : length s ≤ max_job → (read_record s).answer.number ≡ 0 → let j = read_record s in program s ≡ report (divisor (job_stages j)) (job_smoothed j s)
  unfolding program
  program_read h z = rw (le-ltb max_job (length s) h, le-ltb 0 (read_record s).answer.number (omega arith)) refl

-- so of a longer input the rest may be left unread
pub program_front : (s : List ℕ) → program (take (suc max_job) s) ≡ program s
program_front s = go (dec_lt max_job (length s))
  where
    go : Dec (max_job < length s) → program (take (suc max_job) s) ≡ program s
    go (yes h) = program_long (take (suc max_job) s) (omega (arith, length-take-le (suc max_job) s (omega arith))) ∙ sym (program_long s h)
    go (no h) = ap program (take_all (suc max_job) s (omega arith))
