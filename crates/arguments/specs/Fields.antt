-- The rows of a record's fields.
--   AreFields f p M   f has the numbers p of a plan, and the bound M
-- Laws: field_1 to field_5 (the row that applies), fields_hold (where none does).
use Rattle.std.specs.Prelude.{ℕ, ◌≤◌, ◌<◌, ◌≡◌}
use Rattle.std.proofs.Math.Path.{sym}
use Rattle.std.proofs.Common.{◌∙◌}
use borrow.Author.Tests.{le-leb, lt-leb}
use Rattle.meaning.specs.Refusals.{first_of}
use Rattle.meaning.specs.Arguments.{PlanNumbers}
use Rattle.meaning.specs.HostRecord.{field_rows}
use Rattle.theory.specs.Refusals.{first_on, first_off, off_done}
use Rattle.plan.specs.Structs.{plain}
use Rattle.record.specs.declared.Fields.{Fields}

module _ (p : PlanNumbers) (M : ℕ) where
  pub field_1 : 256 ≤ p.passes → plain 1 ≡ first_of (field_rows p M)
  unfolding field_rows
  field_1 h = sym (first_on _ _ (le-leb _ _ h))

  module _ (k : p.passes < 256) where
    pub field_2 : 65536 ≤ p.radius → plain 2 ≡ first_of (field_rows p M)
    unfolding field_rows
    field_2 h = sym (first_off _ _ (lt-leb _ _ k) ∙ first_on _ _ (le-leb _ _ h))

    module _ (r : p.radius < 65536) where
      pub field_3 : 256 ≤ p.inner → plain 3 ≡ first_of (field_rows p M)
      unfolding field_rows
      field_3 h = sym (first_off _ _ (lt-leb _ _ k) ∙ first_off _ _ (lt-leb _ _ r) ∙ first_on _ _ (le-leb _ _ h))

      module _ (b : p.inner < 256) where
        pub field_4 : 256 ≤ p.edge → plain 4 ≡ first_of (field_rows p M)
        unfolding field_rows
        field_4 h = sym (first_off _ _ (lt-leb _ _ k) ∙ first_off _ _ (lt-leb _ _ r) ∙ first_off _ _ (lt-leb _ _ b) ∙ first_on _ _ (le-leb _ _ h))

        module _ (a : p.edge < 256) where
          pub field_5 : 4294967296 ≤ M → plain 5 ≡ first_of (field_rows p M)
          unfolding field_rows
          field_5 h = sym (first_off _ _ (lt-leb _ _ k) ∙ first_off _ _ (lt-leb _ _ r) ∙ first_off _ _ (lt-leb _ _ b) ∙ first_off _ _ (lt-leb _ _ a) ∙ first_on _ _ (le-leb _ _ h))

          pub fields_hold : M < 4294967296 → plain 0 ≡ first_of (field_rows p M)
          unfolding field_rows
          fields_hold h = sym (off_done (field_rows p M) (lt-leb _ _ k, (lt-leb _ _ r, (lt-leb _ _ b, (lt-leb _ _ a, (lt-leb _ _ h, tt))))))

pub record AreFields (f : Fields) (p : PlanNumbers) (M : ℕ) : Type 0 where
  pub radius : f.radius ≡ p.radius
  pub inner : f.inner ≡ p.inner
  pub edge : f.edge ≡ p.edge
  pub passes : f.passes ≡ p.passes
  pub bound : f.bound ≡ M
