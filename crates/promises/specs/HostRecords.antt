-- The planner, a plan's own numbers and the job record as other languages call them: `dungdapple_plan_for`, `dungdapple_divisor`, `dungdapple_reach`, `dungdapple_read_record`, `dungdapple_record_samples` and `dungdapple_write_record`, each by its own contract, for all inputs.
--   PlanForHost, DivisorHost, ReachHost, ReadRecordHost, RecordSamplesHost, WriteRecordHost   any call, as its contract lets it end
--   plan_for_given, divisor_given, reach_given, read_record_given, record_samples_given, write_record_given   what it was given, in the order of its parameters, but for the numbers lent to answer by
--   plan_for_left, read_record_left, write_record_left   what it answered and left: the number returned, every number left through a reference, and every slice left;  record_samples_left  the samples left
--   host_plan_for_one, host_divisor_one, host_reach_one, host_read_record_one, host_record_samples_one, host_write_record_one   two outcomes that the contract allows, of the same given, are the same, whatever the numbers lent to answer by held at entry
--   host_plan_for_zeros    refused, radius and edge weight are 0
--   host_read_record_zeros refused, the number is 14, the five numbers are 0 and the stretch is empty
use Rattle.std.specs.Prelude.{ℕ, ◌≡◌, ◌≢◌, List, length, ℤ, pos, Float}
use Rattle.std.proofs.Common.{sym, ap, ◌∙◌}
use Rattle.std.specs.Float.{binary64}
use Rattle.std.specs.Float.Ieee.{of_int}
use Rattle.meaning.specs.Smoothing.{list_of}
use Rattle.meaning.specs.Refusals.{Answer, plan_divisor, plan_reach}
use Rattle.meaning.specs.Planner.{Planned, plan_for}
use Rattle.meaning.specs.Record.{Job, Written, not_well_formed, sample_at, read_record}
use Rattle.meaning.specs.HostRecord.{write_record_in}
use Rattle.meaning.specs.Arguments.{count_of, plan_in, stages_in}
use Rattle.theory.specs.Records.{read_refused}
use Rattle.plan.specs.Structs.{plain}
use Rattle.writer.specs.Contract.{Writes}
use Rattle.dungdapple.proofs.dungdapple_plan_for.Reads as plan-for
use Rattle.dungdapple.proofs.dungdapple_plan_for.Kinds as plan-for-kinds
use Rattle.dungdapple.proofs.dungdapple_divisor.Reads as divisor-of
use Rattle.dungdapple.proofs.dungdapple_divisor.Kinds as divisor-kinds
use Rattle.dungdapple.proofs.dungdapple_reach.Reads as reach_of
use Rattle.dungdapple.proofs.dungdapple_reach.Kinds as reach-kinds
use Rattle.dungdapple.proofs.dungdapple_read_record.Reads as read-record
use Rattle.dungdapple.proofs.dungdapple_read_record.Kinds as read-record-kinds
use Rattle.dungdapple.proofs.dungdapple_record_samples.Reads as record-samples
use Rattle.dungdapple.proofs.dungdapple_record_samples.Kinds as record-samples-kinds
use Rattle.dungdapple.proofs.dungdapple_write_record.Reads as write-record
use Rattle.dungdapple.proofs.dungdapple_write_record.Kinds as write-record-kinds
use Rattle.promises.specs.Hosts.{HostCall}
use Rattle.promises.specs.Planner.{planner_refused}

abbrev pub PlanForHost : Type 1
PlanForHost = HostCall plan-for-kinds.ps plan-for-kinds.r plan-for.Learnt

abbrev pub DivisorHost : Type 1
DivisorHost = HostCall divisor-kinds.ps divisor-kinds.r divisor-of.Learnt

abbrev pub ReachHost : Type 1
ReachHost = HostCall reach-kinds.ps reach-kinds.r reach_of.Learnt

abbrev pub ReadRecordHost : Type 1
ReadRecordHost = HostCall read-record-kinds.ps read-record-kinds.r read-record.Learnt

abbrev pub RecordSamplesHost : Type 1
RecordSamplesHost = HostCall record-samples-kinds.ps record-samples-kinds.r record-samples.Learnt

abbrev pub WriteRecordHost : Type 1
WriteRecordHost = HostCall write-record-kinds.ps write-record-kinds.r write-record.Learnt

-- ---- the planner: standard deviation in hundredths, passes, inner weight
abbrev PlannerGiven : Type 0
PlannerGiven = Float × Float × Float

abbrev pub plan_for_given : PlanForHost → PlannerGiven
plan_for_given c = (c.given.0, c.given.1.0, c.given.1.1.0)

abbrev pub plan_for_left : PlanForHost → Planned
plan_for_left c = record { answer = plain c.answered; radius = c.left.1.1.1.0.now; edge = c.left.1.1.1.1.0.now }

pub host_plan_for_one : (c d : PlanForHost) → plan_for_given c ≡ plan_for_given d → plan_for_left c ≡ plan_for_left d
host_plan_for_one c d e = c.learnt ∙ ap (λ (x : PlannerGiven). plan_for (count_of x.0) (count_of x.1) (count_of x.2)) e ∙ sym d.learnt

pub host_plan_for_zeros : (c : PlanForHost) → c.answered ≢ 0 → ((plan_for_left c).radius ≡ 0) × ((plan_for_left c).edge ≡ 0)
host_plan_for_zeros c = planner_refused _ _ _ c.learnt

-- ---- a plan's own numbers
abbrev pub divisor_given : DivisorHost → List Float
divisor_given c = c.given.0.now

pub host_divisor_one : (c d : DivisorHost) → divisor_given c ≡ divisor_given d → c.answered ≡ d.answered
host_divisor_one c d e = c.learnt ∙ ap (λ (x : List Float). of_int binary64 (pos (plan_divisor (stages_in x)))) e ∙ sym d.learnt

abbrev pub reach_given : ReachHost → List Float
reach_given c = c.given.0.now

pub host_reach_one : (c d : ReachHost) → reach_given c ≡ reach_given d → c.answered ≡ d.answered
host_reach_one c d e = c.learnt ∙ ap (λ (x : List Float). plan_reach (stages_in x)) e ∙ sym d.learnt

-- ---- reading a record: its bytes; then the samples of a stretch of it: the stretch, and the samples lent
abbrev pub read_record_given : ReadRecordHost → List ℕ
read_record_given c = c.given.0.now

abbrev pub read_record_left : ReadRecordHost → Job
read_record_left c =
    let s = c.left.1 in
    record {
      answer = plain c.answered;
      radius = s.0.now;
      inner = s.1.0.now;
      edge = s.1.1.0.now;
      passes = s.1.1.1.0.now;
      bound = s.1.1.1.1.0.now;
      start = s.1.1.1.1.1.0.now;
      size = s.1.1.1.1.1.1.0.now;
    }

pub host_read_record_one : (c d : ReadRecordHost) → read_record_given c ≡ read_record_given d → read_record_left c ≡ read_record_left d
host_read_record_one c d e = c.learnt ∙ ap read_record e ∙ sym d.learnt

pub host_read_record_zeros : (c : ReadRecordHost) → c.answered ≢ 0 → read_record_left c ≡ not_well_formed
host_read_record_zeros c n = c.learnt ∙ read_refused _ (λ z. n (ap (λ (j : Job). j.answer.number) c.learnt ∙ z))

abbrev StretchGiven : Type 0
StretchGiven = List ℕ × List ℤ

abbrev pub record_samples_given : RecordSamplesHost → StretchGiven
record_samples_given c = (c.given.0.now, c.given.1.0.now)

abbrev pub record_samples_left : RecordSamplesHost → List ℤ
record_samples_left c = c.left.1.0.now

pub host_record_samples_one : (c d : RecordSamplesHost) → record_samples_given c ≡ record_samples_given d → record_samples_left c ≡ record_samples_left d
host_record_samples_one c d e = c.learnt ∙ ap (λ (x : StretchGiven). list_of (length x.1) (sample_at x.0)) e ∙ sym d.learnt

-- ---- writing one: plan, bound, samples, bytes
abbrev WriterGiven : Type 0
WriterGiven = List Float × Float × List ℤ × List ℕ

abbrev pub write_record_given : WriteRecordHost → WriterGiven
write_record_given c = (c.given.0.now, c.given.1.0, c.given.1.1.0.now, c.given.1.1.1.0.now)

abbrev pub write_record_left : WriteRecordHost → Written
write_record_left c = record { answer = plain c.answered; slice = c.left.1.1.1.0.now }

write_is : {o : Written} {a : Answer} {s : List ℕ} → Writes o a s → record { answer = a; slice = s } ≡ o
write_is g = rw (g.answer, g.slice)

pub host_write_record_one : (c d : WriteRecordHost) → write_record_given c ≡ write_record_given d → write_record_left c ≡ write_record_left d
host_write_record_one c d e = write_is c.learnt ∙ ap (λ (x : WriterGiven). write_record_in (plan_in x.0) (count_of x.1) x.2 x.3) e ∙ sym (write_is d.learnt)
