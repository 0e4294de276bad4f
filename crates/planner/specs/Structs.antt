-- The code's answer, as the definitions have it.
--   planned_of r   what the planner answers that ends with r: both are 0 where it is refused
-- Laws, from what the rows say: plan_refused, plan_full, plan_below (the outcome: refused, with an edge weight of the inner weight found, with one below it), done_allowed (the bounds).
use Rattle.std.specs.Prelude.{ℕ, ◌+◌, ◌*◌, ◌≡◌, ◌≢◌, refl, Result, Ok, Err}
use Rattle.std.proofs.Common.{sym, ◌∙◌}
use Rattle.meaning.specs.Kernel.{Stage}
use Rattle.meaning.specs.Refusals.{first_of}
use Rattle.meaning.specs.Planner as meant
use Rattle.meaning.specs.Planner.{radius_for, edge_for, wider, stage_for, planner_rows, plan_for}
use Rattle.meaning.specs.Bounds.{AllowedSigma}
use Rattle.theory.specs.Refusals.{number_zero, if_done_done, if_done_refused}
use Rattle.theory.specs.Planner.{stage_full, stage_below, sigma_allowed}
use Rattle.plan.specs.declared.Refusal.{Refusal}
use Rattle.plan.specs.Structs.{plain, refused, refused_number}
use Rattle.planner.specs.declared.Planned.{Planned}

abbrev pub planned_of : Result Planned Refusal → meant.Planned
planned_of (Ok p) = record { answer = plain 0; radius = p.radius; edge = p.edge }
planned_of (Err e) = record { answer = refused e; radius = 0; edge = 0 }

module _ (s K b : ℕ) where
  pub plan_refused : (e : Refusal) → refused e ≡ first_of (planner_rows s K b) → planned_of (Err e) ≡ plan_for s K b
  unfolding plan_for
  plan_refused e h = rw (← h, if_done_refused (refused e) (stage_for s (10000 * K) b).radius 0 (refused_number e), if_done_refused (refused e) (stage_for s (10000 * K) b).edge 0 (refused_number e))

  module _ (e : plain 0 ≡ first_of (planner_rows s K b)) where
    plan_done : {t : Stage} → stage_for s (10000 * K) b ≡ t → planned_of (Ok (record { radius = t.radius; edge = t.edge })) ≡ plan_for s K b
    unfolding plan_for
    plan_done {t} f = rw (← e, f, if_done_done (plain 0) t.radius 0 refl, if_done_done (plain 0) t.edge 0 refl)

    module _ {r a : ℕ} (f : r ≡ radius_for s (10000 * K)) (g : a ≡ edge_for s (10000 * K) b r) where
      pub plan_full : a ≡ b → planned_of (Ok (record { radius = r + 1; edge = 0 })) ≡ plan_for s K b
      plan_full i = plan_done {t = wider (record { radius = r; inner = b; edge = a })} (rw f (stage_full s (10000 * K) b (rw f at (sym g ∙ i))))

      pub plan_below : a ≢ b → planned_of (Ok (record { radius = r; edge = a })) ≡ plan_for s K b
      plan_below i = plan_done {t = record { radius = r; inner = b; edge = a }} (rw (g, f) (stage_below s (10000 * K) b (λ j. i (g ∙ rw f j))))

    pub done_allowed : AllowedSigma s K b
    done_allowed = sigma_allowed s K b (number_zero e refl)
