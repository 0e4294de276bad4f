-- The two ends of a call, over plain lists, of any shape.
-- Laws: summary_refused, summary_done.
use Rattle.std.specs.Prelude.{ℕ, ◌≡◌, List, length, ℤ}
use Rattle.std.proofs.Common.{◌∙◌}
use Rattle.meaning.specs.Extension.{at}
use Rattle.meaning.specs.Refusals.{first_of, if_done, Shape}
use Rattle.meaning.specs.Values.{Summary, output_rows, summary, ratio, plus_zero, lowest_in, highest_in}
use Rattle.theory.specs.Refusals.{if_done_refused}
use Rattle.plan.specs.declared.Refusal.{Refusal}
use Rattle.plan.specs.Structs.{plain, refused, refused_number}
use Rattle.summary.specs.Structs.{refused_summary, done_summary}

module _ (s : Shape) (M : ℕ) (r : List ℤ) where
  pub summary_refused : (e : Refusal) → refused e ≡ first_of (output_rows s M r (length r)) → refused_summary (refused e) ≡ summary s M r
  unfolding summary
  summary_refused e h = let n = refused_number e in rw (← h, if_done_refused (refused e) (ratio (at r (lowest_in r)) s.divisor) plus_zero n, if_done_refused (refused e) (ratio (at r (highest_in r)) s.divisor) plus_zero n, if_done_refused (refused e) (lowest_in r) 0 n, if_done_refused (refused e) (highest_in r) 0 n)

  pub summary_done : plain 0 ≡ first_of (output_rows s M r (length r)) → {d : ℕ} → d ≡ s.divisor → {x : Summary} → x ≡ done_summary d r → x ≡ summary s M r
  unfolding summary if_done
  summary_done h k l = l ∙ rw (← h, k)
