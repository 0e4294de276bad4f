-- What a host is told besides, where a call that gives a struct is refused: zeros.
--   no_plan, no_fields, no_job   of which all numbers are 0;  no_summary   with plus zeros
--   told_job n j   the number n, and the numbers of the job j
-- Laws: planned_found, job_found, summary_found (what is told is the outcome);
-- plain_first, number_below (of rows without place the answer is its number, and how large that is).
use Rattle.std.specs.Prelude.{ℕ, ◌≡◌, refl, ◌<◌, List, [], Result, Ok, Err}
use Rattle.std.proofs.Common.{sym, ap, ◌∙◌, ⊎_elim}
use Rattle.std.specs.Result.{result_unwrap_or}
use Rattle.meaning.specs.Refusals.{Answer, Row, first_of}
use Rattle.meaning.specs.Planner as planner
use Rattle.meaning.specs.Planner.{planner_rows, plan_for}
use Rattle.meaning.specs.Record as meant
use Rattle.meaning.specs.Record.{read_record}
use Rattle.meaning.specs.Values as values
use Rattle.meaning.specs.Values.{plus_zero}
use Rattle.theory.specs.Refusals.{Unplaced, first_parts, first_alone}
use Rattle.theory.specs.Records.{read_refused}
use Rattle.plan.specs.declared.Refusal.{Refusal}
use Rattle.plan.specs.Structs.{plain, refused, refused_number, answer_of}
use Rattle.planner.specs.declared.Planned.{Planned}
use Rattle.planner.specs.Structs.{planned_of}
use Rattle.record.specs.declared.Fields.{Fields}
use Rattle.record.specs.declared.Job.{Job}
use Rattle.record.specs.Structs.{job_of}
use Rattle.summary.specs.declared.Summary.{Summary}
use Rattle.summary.specs.Structs.{summary_of}

pub plain_first : (m : ℕ) (rows : List Row) → Unplaced m rows → {a : Answer} → a ≡ first_of rows → plain a.number ≡ a
unfolding first_of
plain_first m rows u {a} e = ⊎_elim (λ b. rw (b.1, b.2)) (λ p. rw p.1) (first_parts m rows [] u (first_alone rows e))

pub number_below : (m : ℕ) (rows : List Row) → Unplaced m rows → 0 < m → {a : Answer} → a ≡ first_of rows → a.number < m
unfolding first_of
number_below m rows u l e = ⊎_elim (λ b. b.0) (λ p. rw p.1 l) (first_parts m rows [] u (first_alone rows e))

abbrev pub no_plan : Planned
no_plan = record { radius = 0; edge = 0 }

pub planned_found : (s K b : ℕ) (r : Result Planned Refusal) → planned_of r ≡ plan_for s K b
    → record { answer = plain (answer_of r).number; radius = (result_unwrap_or r no_plan).radius; edge = (result_unwrap_or r no_plan).edge } ≡ plan_for s K b
unfolding plan_for planner_rows
planned_found s K b (Ok p) h = h
planned_found s K b (Err e) h = rw (plain_first 16 (planner_rows s K b) tt {a = refused e} (ap (λ (p : planner.Planned). p.answer) h)) h

abbrev pub no_fields : Fields
no_fields = record { radius = 0; inner = 0; edge = 0; passes = 0; bound = 0 }

abbrev pub no_job : Job
no_job = record { fields = no_fields; start = 0; size = 0 }

abbrev pub told_job : ℕ → Job → meant.Job
told_job n j = let f = j.fields in record { answer = plain n; radius = f.radius; inner = f.inner; edge = f.edge; passes = f.passes; bound = f.bound; start = j.start; size = j.size }

pub job_found : (s : List ℕ) (r : Result Job Refusal) → job_of r ≡ read_record s → told_job (answer_of r).number (result_unwrap_or r no_job) ≡ read_record s
job_found s (Ok j) h = h
job_found s (Err e) h =
    let n = read_refused s (λ z. refused_number e (ap (λ (j : meant.Job). j.answer.number) h ∙ z)) in
    rw (ap (λ (j : meant.Job). j.answer.number) (h ∙ n)) (sym n)

abbrev pub no_summary : Summary
no_summary = record { lowest = plus_zero; highest = plus_zero; lowest_at = 0; highest_at = 0 }

pub summary_found : (r : Result Summary Refusal) → let f = result_unwrap_or r no_summary in record { answer = answer_of r; lowest = f.lowest; highest = f.highest; lowest_at = f.lowest_at; highest_at = f.highest_at } ≡ summary_of r
summary_found (Ok s) = refl
summary_found (Err e) = refl
