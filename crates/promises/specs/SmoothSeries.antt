-- Smoothing a series: `series::smooth_series` by its own contract, for all inputs. That it ends is the language's.
--   SeriesCall         any call, as its contract lets it end
--   plan, bound, samples, results, work   what it was given; stages are the plan's
--   number, place      what it answered (place is the position answered)
--   results_left, work_left   what it left
--   rows, Allowed      its rows of the table of numbers, and the bounds of document 01
--   Exactly            as of Smoothings
--   lowest_number      demand 1: the number is 0, or that of a row that applies, and then the lowest of those
--   done_exactly, done_allowed   it is 0 exactly where no row applies, and exactly where the bounds hold
--   position_first, position_other   at 11 the place is that of the first sample above the bound, else 0
--   bad_counted        at 11, and there alone, the number of bad samples is not 0, and how many samples are above the bound; and 11 is given exactly where some are and no lower row applies
--   refused_unchanged  demand 1: a refused call leaves every cell as it was
--   done_results       demand 2: the results of a call that is done are the convolution of the extension with the K-fold kernel; done_whole says so of the whole list
--   done_left          such a call leaves zeros in work
--   kernel_over        the K-fold kernel's sum is D^K, with D = (2r+1)b + 2a
--   one_outcome        two outcomes that the contract allows are the same
use Rattle.std.specs.Prelude.{ℕ, ◌+◌, ◌*◌, ◌^◌, ◌≤◌, ◌<◌, ◌≡◌, refl, ◌≢◌, ℤ, pos, nat_abs, ◌-ℤ◌, ◌*ℤ◌}
use Rattle.std.proofs.Math.Path.{ap}
use Rattle.std.proofs.Common.{◌∙◌}
use mathlib.Core.List.{List}
use Rattle.std.proofs.Math.ListN.{length}
use contract.Lifetimes.{Lfts}
use denote.Triple.Clauses.{AtExit}
use borrow.Fn.Kinds.{Dens, res_t, ended_of}
use Rattle.algebra.specs.Within.{sum_within}
use Rattle.meaning.specs.Extension.{at, fold, ext}
use Rattle.meaning.specs.Kernel.{Stage, kernel, width}
use Rattle.meaning.specs.Smoothing as smoothing
use Rattle.meaning.specs.Refusals as meant
use Rattle.meaning.specs.Refusals.{Row, Applies, series_of, zeros}
use Rattle.meaning.specs.Calls.{smooth_rows, smooth_series}
use Rattle.meaning.specs.Bounds.{AllowedSeries, FirstAt, Counted}
use Rattle.theory.specs.Convolution.{kernel_sum}
use Rattle.theory.specs.Stages.{divisor_plan}
use Rattle.theory.specs.Passes.{length_results, at_results}
use Rattle.theory.specs.AcceptedSmoothings as tested
use Rattle.plan.specs.declared.Plan.{Plan}
use Rattle.plan.specs.Structs.{stages_of, answer_of}
use Rattle.series.proofs.smooth_series.Reads as smooth-series
use Rattle.series.proofs.smooth_series.Kinds as kinds
use Rattle.promises.specs.Smoothings as smooth
use Rattle.promises.specs.Smoothings.{Exactly}

pub record SeriesCall : Type 1 where
  pub lifetimes : Lfts 3
  pub given : Dens lifetimes kinds.ps
  pub answered : (res_t kinds.r lifetimes).Denot
  pub left : AtExit (ended_of 3 kinds.ps kinds.r) lifetimes
  pub learnt : smooth-series.Learnt lifetimes given answered left

-- ---- what was given, answered and left
abbrev pub plan : SeriesCall → Plan
plan c = c.given.0

abbrev pub stages : SeriesCall → List Stage
stages c = stages_of (plan c)

abbrev pub bound : SeriesCall → ℕ
bound c = c.given.1.0

abbrev pub samples : SeriesCall → List ℤ
samples c = c.given.1.1.0.now

abbrev pub results : SeriesCall → List ℤ
results c = c.given.1.1.1.0.now

abbrev pub work : SeriesCall → List ℤ
work c = c.given.1.1.1.1.0.now

abbrev pub number : SeriesCall → ℕ
number c = (answer_of c.answered).number

abbrev pub place : SeriesCall → ℕ
place c = (answer_of c.answered).position

abbrev pub results_left : SeriesCall → List ℤ
results_left c = c.left.1.1.1.0.now

abbrev pub work_left : SeriesCall → List ℤ
work_left c = c.left.1.1.1.1.0.now

abbrev pub rows : SeriesCall → List Row
rows c = smooth_rows (series_of (stages c) (length (samples c))) (bound c) (samples c) (length (results c)) (length (work c))

abbrev pub Allowed : SeriesCall → Type 0
Allowed c = AllowedSeries (stages c) (bound c) (samples c) (length (results c)) (length (work c))

-- ---- one call
module _ (c : SeriesCall) where
  pub lowest_number : (number c ≢ 0 → Applies (number c) (rows c)) × ((n : ℕ) → Applies n (rows c) → number c ≤ n)
  lowest_number = smooth.lowest _ _ _ _ _ _ c.learnt

  pub done_exactly : Exactly (number c ≡ 0) ((n : ℕ) → Applies n (rows c) → ⊥)
  done_exactly = smooth.done_exactly _ _ _ _ _ _ c.learnt

  pub done_allowed : Exactly (number c ≡ 0) (Allowed c)
  done_allowed = (
    λ e. tested.series_allowed _ _ _ _ _ (smooth.done_number _ _ _ _ _ _ c.learnt e),
    λ ok. smooth.number_done _ _ _ _ _ _ c.learnt (ap (λ (x : meant.Answer). x.number) (tested.allowed_series _ _ _ _ _ ok)),
  )

  pub position_first : number c ≡ 11 → FirstAt (length (samples c)) (λ i. bound c < nat_abs (at (samples c) i)) (place c)
  position_first = smooth.place_first _ _ _ _ _ _ c.learnt

  pub position_other : number c ≢ 11 → place c ≡ 0
  position_other = smooth.place_other _ _ _ _ _ _ c.learnt

  pub bad_counted : Counted (λ i. bound c < nat_abs (at (samples c) i)) (length (samples c)) (rows c) (answer_of c.answered)
  bad_counted = smooth.counted _ _ _ _ _ _ c.learnt

  pub refused_unchanged : number c ≢ 0 → (results_left c ≡ results c) × (work_left c ≡ work c)
  refused_unchanged = smooth.unchanged _ _ _ _ _ _ c.learnt

  pub kernel_over : sum_within (width (stages c)) (kernel (stages c)) ≡ pos (((2 * (plan c).radius + 1) * (plan c).inner + 2 * (plan c).edge) ^ (plan c).passes)
  kernel_over = kernel_sum (stages c) ∙ ap pos (divisor_plan _ _ _ _)

  -- a call that is done
  module _ (e : number c ≡ 0) where
    pub done_whole : results_left c ≡ smoothing.results fold (stages c) (samples c)
    done_whole = smooth.whole _ _ _ _ _ _ c.learnt e

    pub done_results : (length (results_left c) ≡ length (samples c)) × ((n : ℕ) → n < length (samples c)
        → at (results_left c) n ≡ sum_within (width (stages c)) (λ m. kernel (stages c) m *ℤ ext fold (samples c) (pos n -ℤ m)))
    unfolding smoothing.convolved smoothing.result
    done_results = (ap length done_whole ∙ length_results _ _ _, λ n l. ap (λ (r : List ℤ). at r n) done_whole ∙ at_results _ _ _ n l)

    pub done_left : work_left c ≡ zeros (work c)
    done_left = smooth.left _ _ _ _ _ _ c.learnt e

-- ---- two calls
outcome_same : {p q : Plan} {M L : ℕ} {f g r s w x : List ℤ} → p ≡ q → M ≡ L → f ≡ g → r ≡ s → w ≡ x → smooth_series fold (stages_of p) M f r w ≡ smooth_series fold (stages_of q) L g s x
outcome_same p m f r w = rw (p, m, f, r, w) refl

pub one_outcome : (c d : SeriesCall) → plan c ≡ plan d → bound c ≡ bound d → samples c ≡ samples d → results c ≡ results d → work c ≡ work d
    → (c.answered ≡ d.answered) × (results_left c ≡ results_left d) × (work_left c ≡ work_left d)
one_outcome c d p m f r w = smooth.same (outcome_same p m f r w) c.learnt d.learnt
