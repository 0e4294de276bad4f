-- The code's answer, as the definitions have it.
--   job_of r   the reader's answer: refused, every number is 0 and the stretch is empty
use Rattle.std.specs.Prelude.{Result, Ok, Err}
use Rattle.meaning.specs.Record as meant
use Rattle.plan.specs.declared.Refusal.{Refusal}
use Rattle.plan.specs.Structs.{refused}
use Rattle.record.specs.declared.Job.{Job}

abbrev pub job_of : Result Job Refusal → meant.Job
job_of (Ok j) = let f = j.fields in meant.job_read f.radius f.inner f.edge f.passes f.bound j.start j.size
job_of (Err e) = record { answer = refused e; radius = 0; inner = 0; edge = 0; passes = 0; bound = 0; start = 0; size = 0 }
