-- The text of one job, of what was read.
-- Laws, of a stretch that was read as done: few_samples, job_text.
use Rattle.std.specs.Prelude.{◌≡◌, List, ℕ, ◌/◌, ◌≤◌, length, drop}
use Rattle.std.proofs.Common.{arith, length-take-le}
use Rattle.std.proofs.Math.ListN.{length-drop}
use Rattle.meaning.specs.Limits.{max_samples, max_job}
use Rattle.meaning.specs.Record.{Job, stretch, samples_of, read_record}
use Rattle.meaning.specs.Program.{program}
use Rattle.theory.specs.Records.{Stretch, read_stretch}
use Rattle.theory.specs.Programs.{program_read}
use Rattle.plan.specs.declared.Plan.{Plan}
use Rattle.plan.specs.Structs.{stages_of}
use Rattle.job.specs.Text.{samples_in, series_text}

module _ (s st : List ℕ) {j : Job} (read : j ≡ read_record s) (done : j.answer.number ≡ 0) (holds : st ≡ stretch j.start j.size s) where
  lies : Stretch s j
  lies = rw read (read_stretch s (rw (← read) done))

  size : length st ≡ j.size
  unfolding stretch
  size = rw holds (length-take-le j.size (drop j.start s) (omega (arith, length-drop j.start s, lies.whole)))

  pub few_samples : length st / 4 ≤ max_samples
  few_samples = rw size lies.few

  samples : samples_of j s ≡ samples_in st
  unfolding samples_of
  samples = rw (size, holds)

  pub job_text : {p : Plan} → p ≡ record { radius = j.radius; inner = j.inner; edge = j.edge; passes = j.passes } → length s ≤ max_job → program s ≡ series_text (stages_of p) j.bound (samples_in st)
  unfolding series_text
  job_text e l = rw (e, ← samples, read) (program_read s l (rw (← read) done))
