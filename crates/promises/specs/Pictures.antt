-- Smoothing a picture: `picture::smooth_picture` by its own contract, for all inputs.
--   PictureCall        any call, as its contract lets it end
--   across, down, bound, width, height, samples, results, work   what it was given; stages_across and stages_down are the plans'
--   number, place      what it answered
--   results_left, work_left   what it left
--   rows, Allowed      its rows of the table of numbers, and the bounds of document 01
--   sample c x y       the sample at column x and row y of the picture that the extension has: mirrored at all four sides
--   Exactly            as of Smoothings
--   picture_lowest     the number is 0, or that of a row that applies, and then the lowest of those
--   picture_done, picture_allowed   it is 0 exactly where no row applies, and exactly where the bounds hold
--   picture_place_11, picture_place_other   at 11 the place is that of the first sample above the bound in row order, else 0
--   picture_bad        at 11, and there alone, the number of bad samples is not 0, and how many samples are above the bound; and 11 is given exactly where some are and no lower row applies
--   picture_unchanged  a refused call leaves every cell as it was
--   picture_left       one that is done leaves zeros in work
--   picture_length     and as many results as there are cells
--   picture_whole      they are the definition's
--   picture_results    its result at column x of row y is the convolution of the extension with the kernel across over the kernel down
--   picture_turned     and over the kernel down over the kernel across, which is the same
--   picture_rows_first, picture_columns_first   so it is what smoothing every row by the plan across and then every column by the plan down leaves, or in the other order
--   picture_half       between the two, no number is above M times the divisor of the first plan, nor after them above M times both
--   picture_over       the kernels' sum, the divisor, is D^K across times D^K down, with D = (2r+1)b + 2a
--   picture_one        two outcomes that the contract allows are the same
use Rattle.std.specs.Prelude.{ℕ, ◌+◌, ◌*◌, ◌^◌, ◌≤◌, ◌<◌, ◌≡◌, refl, ◌≢◌, length, ℤ, pos, nat_abs, ◌-ℤ◌, ◌*ℤ◌}
use Rattle.std.proofs.Math.Path.{sym, ap}
use Rattle.std.proofs.Common.{ap₂, ◌∙◌, subst}
use mathlib.Core.List.{List}
use Rattle.std.proofs.Math.IntN.{*ℤ_comm}
use contract.Lifetimes.{Lfts}
use denote.Triple.Clauses.{AtExit}
use borrow.Fn.Kinds.{Dens, res_t, ended_of}
use Rattle.algebra.specs.Within.{sum_within, within_ext, within-*}
use Rattle.meaning.specs.Extension.{at, fold}
use Rattle.meaning.specs.Kernel as kernels
use Rattle.meaning.specs.Kernel.{Stage, kernel, divisor}
use Rattle.meaning.specs.Smoothing as smoothing
use Rattle.meaning.specs.Smoothing.{convolved}
use Rattle.meaning.specs.Picture as pictures
use Rattle.meaning.specs.Picture.{cell, pixel, picture}
use Rattle.meaning.specs.Refusals as meant
use Rattle.meaning.specs.Refusals.{Row, Applies, picture_of, zeros}
use Rattle.meaning.specs.Calls.{smooth_rows, smooth_picture}
use Rattle.meaning.specs.Bounds.{AllowedPicture, FirstAt, Counted}
use Rattle.theory.specs.HalfSample.{half_sample}
use Rattle.theory.specs.Lists.{sized}
use Rattle.theory.specs.Stages.{divisor_plan}
use Rattle.theory.specs.Convolution.{kernel_sum, convolved_swap}
use Rattle.theory.specs.Sizes.{results_size}
use Rattle.theory.specs.Picture.{length_picture, cell_picture, rows_first, columns_first, across_size, picture_size}
use Rattle.theory.specs.AcceptedSmoothings as tested
use Rattle.plan.specs.declared.Plan.{Plan}
use Rattle.plan.specs.Structs.{stages_of, answer_of}
use Rattle.picture.proofs.smooth_picture.Reads as smooth-picture
use Rattle.picture.proofs.smooth_picture.Kinds as kinds
use Rattle.promises.specs.Smoothings as smooth
use Rattle.promises.specs.Smoothings.{Exactly}

pub record PictureCall : Type 1 where
  pub lifetimes : Lfts 3
  pub given : Dens lifetimes kinds.ps
  pub answered : (res_t kinds.r lifetimes).Denot
  pub left : AtExit (ended_of 3 kinds.ps kinds.r) lifetimes
  pub learnt : smooth-picture.Learnt lifetimes given answered left

-- ---- what was given, answered and left
abbrev pub across : PictureCall → Plan
across c = c.given.0.across

abbrev pub down : PictureCall → Plan
down c = c.given.0.down

abbrev pub stages_across : PictureCall → List Stage
stages_across c = stages_of (across c)

abbrev pub stages_down : PictureCall → List Stage
stages_down c = stages_of (down c)

abbrev pub bound : PictureCall → ℕ
bound c = c.given.0.bound

abbrev pub width : PictureCall → ℕ
width c = c.given.0.width

abbrev pub height : PictureCall → ℕ
height c = c.given.0.height

abbrev pub samples : PictureCall → List ℤ
samples c = c.given.1.0.now

abbrev pub results : PictureCall → List ℤ
results c = c.given.1.1.0.now

abbrev pub work : PictureCall → List ℤ
work c = c.given.1.1.1.0.now

abbrev pub number : PictureCall → ℕ
number c = (answer_of c.answered).number

abbrev pub place : PictureCall → ℕ
place c = (answer_of c.answered).position

abbrev pub results_left : PictureCall → List ℤ
results_left c = c.left.1.1.0.now

abbrev pub work_left : PictureCall → List ℤ
work_left c = c.left.1.1.1.0.now

abbrev pub rows : PictureCall → List Row
rows c = smooth_rows (picture_of (stages_across c) (stages_down c) (width c) (height c)) (bound c) (samples c) (length (results c)) (length (work c))

abbrev pub Allowed : PictureCall → Type 0
Allowed c = AllowedPicture (stages_across c) (stages_down c) (bound c) (width c) (height c) (samples c) (length (results c)) (length (work c))

abbrev pub sample : PictureCall → ℤ → ℤ → ℤ
sample c x y = cell (width c) (samples c) (fold (width c) x) (fold (height c) y)

-- ---- one call
kernels_sum : (hs vs : List Stage) → sum_within (kernels.width hs) (λ i. kernel hs i *ℤ sum_within (kernels.width vs) (kernel vs)) ≡ pos (divisor hs * divisor vs)
kernels_sum hs vs =
    let k = sum_within (kernels.width vs) (kernel vs) in
    within_ext (kernels.width hs) (λ i l. *ℤ_comm (kernel hs i) k) ∙ within-* (kernels.width hs) k (kernel hs) ∙ *ℤ_comm k _ ∙ ap₂ ◌*ℤ◌ (kernel_sum hs) (kernel_sum vs)

module _ (c : PictureCall) where
  pub picture_lowest : (number c ≢ 0 → Applies (number c) (rows c)) × ((n : ℕ) → Applies n (rows c) → number c ≤ n)
  picture_lowest = smooth.lowest _ _ _ _ _ _ c.learnt

  pub picture_done : Exactly (number c ≡ 0) ((n : ℕ) → Applies n (rows c) → ⊥)
  picture_done = smooth.done_exactly _ _ _ _ _ _ c.learnt

  pub picture_allowed : Exactly (number c ≡ 0) (Allowed c)
  picture_allowed = (
    λ e. tested.picture_allowed _ _ _ _ _ _ _ _ (smooth.done_number _ _ _ _ _ _ c.learnt e),
    λ ok. smooth.number_done _ _ _ _ _ _ c.learnt (ap (λ (x : meant.Answer). x.number) (tested.allowed_picture _ _ _ _ _ _ _ _ ok)),
  )

  pub picture_place_11 : number c ≡ 11 → FirstAt (length (samples c)) (λ i. bound c < nat_abs (at (samples c) i)) (place c)
  picture_place_11 = smooth.place_first _ _ _ _ _ _ c.learnt

  pub picture_place_other : number c ≢ 11 → place c ≡ 0
  picture_place_other = smooth.place_other _ _ _ _ _ _ c.learnt

  pub picture_bad : Counted (λ i. bound c < nat_abs (at (samples c) i)) (length (samples c)) (rows c) (answer_of c.answered)
  picture_bad = smooth.counted _ _ _ _ _ _ c.learnt

  pub picture_unchanged : number c ≢ 0 → (results_left c ≡ results c) × (work_left c ≡ work c)
  picture_unchanged = smooth.unchanged _ _ _ _ _ _ c.learnt

  pub picture_over : sum_within (kernels.width (stages_across c)) (λ i. kernel (stages_across c) i *ℤ sum_within (kernels.width (stages_down c)) (kernel (stages_down c)))
      ≡ pos (((2 * (across c).radius + 1) * (across c).inner + 2 * (across c).edge) ^ (across c).passes * ((2 * (down c).radius + 1) * (down c).inner + 2 * (down c).edge) ^ (down c).passes)
  picture_over = kernels_sum (stages_across c) (stages_down c) ∙ ap₂ (λ m n. pos (m * n)) (divisor_plan _ _ _ _) (divisor_plan _ _ _ _)

  -- a call that is done
  module _ (e : number c ≡ 0) where
    pub picture_whole : results_left c ≡ picture fold fold (stages_across c) (stages_down c) (width c) (height c) (samples c)
    picture_whole = smooth.whole _ _ _ _ _ _ c.learnt e

    pub picture_left : work_left c ≡ zeros (work c)
    picture_left = smooth.left _ _ _ _ _ _ c.learnt e

    pub picture_length : length (results_left c) ≡ width c * height c
    picture_length = ap length picture_whole ∙ length_picture _ _ _ _ _ _ _

    module _ {x y : ℕ} (l : x < width c) (m : y < height c) where
      pub picture_results : cell (width c) (results_left c) x y
          ≡ sum_within (kernels.width (stages_across c)) (λ i. kernel (stages_across c) i *ℤ sum_within (kernels.width (stages_down c)) (λ j. kernel (stages_down c) j *ℤ sample c (pos x -ℤ i) (pos y -ℤ j)))
      unfolding pixel convolved
      picture_results = ap (λ (r : List ℤ). cell (width c) r x y) picture_whole ∙ cell_picture _ _ _ _ _ _ _ x y l m

      pub picture_turned : cell (width c) (results_left c) x y
          ≡ sum_within (kernels.width (stages_down c)) (λ j. kernel (stages_down c) j *ℤ sum_within (kernels.width (stages_across c)) (λ i. kernel (stages_across c) i *ℤ sample c (pos x -ℤ i) (pos y -ℤ j)))
      unfolding convolved
      picture_turned = picture_results ∙ sym (convolved_swap (stages_down c) (stages_across c) (λ j i. sample c i j) (pos y) (pos x))

    pub picture_rows_first : results_left c ≡ pictures.down (smoothing.results fold (stages_down c)) (width c) (height c) (pictures.across (smoothing.results fold (stages_across c)) (width c) (height c) (samples c))
    picture_rows_first = picture_whole ∙ sym (rows_first half_sample half_sample _ _ _ _ _)

    pub picture_columns_first : results_left c ≡ pictures.across (smoothing.results fold (stages_across c)) (width c) (height c) (pictures.down (smoothing.results fold (stages_down c)) (width c) (height c) (samples c))
    picture_columns_first = picture_whole ∙ sym (columns_first half_sample half_sample _ _ _ _ _)

    pub picture_half : (i : ℕ) → (nat_abs (at (pictures.across (smoothing.results fold (stages_across c)) (width c) (height c) (samples c)) i) ≤ bound c * divisor (stages_across c))
        × (nat_abs (at (results_left c) i) ≤ bound c * (divisor (stages_across c) * divisor (stages_down c)))
    picture_half i =
        let f = sized (samples c) (λ i l. record { bound = (picture_allowed.0 e).samples i l }) in (
          ((across_size _ (λ g k. results_size fold k (stages_across c)) (width c) (height c) f).size i).bound,
          subst (λ (r : List ℤ). nat_abs (at r i) ≤ bound c * (divisor (stages_across c) * divisor (stages_down c))) (sym picture_whole) ((picture_size fold fold (stages_across c) (stages_down c) (width c) (height c) f).size i).bound,
        )

-- ---- two calls
outcome_same : {p q t u : Plan} {M L W X H Y : ℕ} {f g r s w x : List ℤ} → p ≡ q → t ≡ u → M ≡ L → W ≡ X → H ≡ Y → f ≡ g → r ≡ s → w ≡ x →
    smooth_picture fold fold (stages_of p) (stages_of t) M W H f r w ≡ smooth_picture fold fold (stages_of q) (stages_of u) L X Y g s x
outcome_same p t m v h f r w = rw (p, t, m, v, h, f, r, w) refl

pub picture_one : (c d : PictureCall) → across c ≡ across d → down c ≡ down d → bound c ≡ bound d → width c ≡ width d → height c ≡ height d → samples c ≡ samples d → results c ≡ results d → work c ≡ work d
    → (c.answered ≡ d.answered) × (results_left c ≡ results_left d) × (work_left c ≡ work_left d)
picture_one c d p q m w h f r x = smooth.same (outcome_same p q m w h f r x) c.learnt d.learnt
