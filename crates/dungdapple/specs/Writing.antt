-- The record's writer, behind the rows of its fields.
-- Laws: write_refused, write_rest (the two ends of the call); written_plain, number_written (the answer is its number, and how large that is).
use Rattle.std.specs.Prelude.{ℕ, ◌≡◌, refl, ◌<◌, List, ◌++◌, length, ℤ}
use Rattle.std.proofs.Math.Path.{sym}
use Rattle.std.proofs.Common.{ap, ◌∙◌, arith}
use Rattle.meaning.specs.Refusals.{Answer, Row, first_of}
use Rattle.meaning.specs.Record.{record_of, write_rows, write_record}
use Rattle.meaning.specs.Arguments.{PlanNumbers}
use Rattle.meaning.specs.HostRecord.{field_rows, write_record_in}
use Rattle.theory.specs.Refusals.{refused_first, done_rest, if_done_refused}
use Rattle.plan.specs.declared.Refusal.{Refusal}
use Rattle.plan.specs.Structs.{plain, refused, refused_number}
use Rattle.dungdapple.specs.Found.{plain_first, number_below}
use Rattle.writer.specs.Contract.{Writes}

abbrev rows : PlanNumbers → ℕ → List ℤ → List ℕ → List Row
rows p M f old = field_rows p M ++ write_rows (length f) (length old) (length (record_of p.radius p.inner p.edge p.passes M f))

module _ (p : PlanNumbers) (M : ℕ) (f : List ℤ) (old : List ℕ) where
  pub write_refused : (e : Refusal) → refused e ≡ first_of (field_rows p M) → Writes (write_record_in p M f old) (refused e) old
  unfolding write_record_in
  write_refused e h =
      let all = refused_first (field_rows p M) (write_rows (length f) (length old) (length (record_of p.radius p.inner p.edge p.passes M f))) h (refused_number e) in
      rw (← all) (record { answer = refl; slice = sym (if_done_refused (refused e) _ old (refused_number e)) })

  pub write_rest : plain 0 ≡ first_of (field_rows p M) → {a : Answer} {s : List ℕ} → Writes (write_record p.radius p.inner p.edge p.passes M f old) a s → Writes (write_record_in p M f old) a s
  unfolding write_record write_record_in field_rows
  write_rest e g = rw (done_rest (field_rows p M) (write_rows (length f) (length old) (length (record_of p.radius p.inner p.edge p.passes M f))) tt e refl refl) at g

  -- no row has a place
  pub written_plain : {a : Answer} {s : List ℕ} → Writes (write_record_in p M f old) a s → Writes (write_record_in p M f old) (plain a.number) s
  unfolding write_record_in field_rows
  written_plain {a} g = rw (plain_first 9 (rows p M f old) tt {a = a} g.answer) g

  pub number_written : {a : Answer} {s : List ℕ} → Writes (write_record_in p M f old) a s → a.number < 9
  unfolding write_record_in field_rows
  number_written g = number_below 9 (rows p M f old) tt (omega arith) g.answer
