-- What the program `smooth` prints, as bytes, for the bytes of standard input.
--   first_line, result_lines i zs   the first line; the lines of results zs from index i on
--   report D o      the text for the outcome o under divisor D
--   job_stages, job_smoothed   the plan of a job, and the outcome of smoothing it
--   program s       the text for the input s
use Rattle.std.specs.Prelude.{ℕ, suc, cond, ◌||◌, List, [], ◌∷◌, ◌++◌, ltb, length, ℤ, pos}
use Rattle.meaning.specs.Limits.{max_job}
use Rattle.meaning.specs.Encoding.{text, decimal}
use Rattle.meaning.specs.Extension.{fold}
use Rattle.meaning.specs.Kernel.{Stage, plan, divisor}
use Rattle.meaning.specs.Refusals.{if_done, zeros}
use Rattle.meaning.specs.Calls.{Smoothed, smooth_series}
use Rattle.meaning.specs.Record.{Job, samples_of, read_record}

unfoldable pub first_line : ℕ → ℕ → ℕ → List ℕ
first_line a b c = text "smooth " ++ decimal (pos a) ++ text " " ++ decimal (pos b) ++ text " " ++ decimal (pos c) ++ text "\n"

-- "Then index and result."
unfoldable pub result_lines : ℕ → List ℤ → List ℕ
result_lines i [] = []
result_lines i (z ∷ zs) = decimal (pos i) ++ text " " ++ decimal z ++ text "\n" ++ result_lines (suc i) zs

-- "First line: name, number, divisor, sample count." "A refusal prints one line: name, number, position, 0."
unfoldable pub report : ℕ → Smoothed → List ℕ
report D o = if_done o.answer (first_line 0 D (length o.results) ++ result_lines 0 o.results) (first_line o.answer.number o.answer.position 0)

-- ---- a job read as j from the bytes s
abbrev pub job_stages : Job → List Stage
job_stages j = plan j.radius j.inner j.edge j.passes

-- its smoothing; results and work are lent as zeros
abbrev pub job_smoothed : Job → List ℕ → Smoothed
job_smoothed j s = let f = samples_of j s in smooth_series fold (job_stages j) j.bound f (zeros f) (zeros f)

-- "(above 4,123 bytes is 14)"; "14 comes before all others"
unfoldable pub program : List ℕ → List ℕ
program s =
    let j = read_record s in
    cond (ltb max_job (length s) || ltb 0 j.answer.number) (first_line 14 0 0) (report (divisor (job_stages j)) (job_smoothed j s))
