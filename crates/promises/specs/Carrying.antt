-- Whole numbers out that add up: `carry::carry_series` and `carry::carry_picture` by their own contracts, for all inputs.
--   SeriesCall, PictureCall   any call, as its contract lets it end
--   plan; across, down, width, height   the plan of the one; plans and sides of the other
--   carried_cells d r   the cells of the results r over d
--   Carrying           an Output that makes such cells, and the carry answered
--   of_series c, of_picture c   all that a call was given, answered and left, as a Carrying: what Outputs says holds of both
--   Run d r k x        carries k from 0 on, of which each result of r and the carry before it are d times its cell of x and the carry behind it
--   carried_none       a refused call answers carry 0
--   carried_answers, carried_leaves, carried_carries   what the contract says of the answer, the cells left and the carry
--   carry_series_allowed, carry_picture_allowed   a call is done exactly where the bounds hold
--   carried_smooth_series, carried_smooth_picture   behind a smoothing that is done, under its plan and bound and with as many cells: the call is done, the last carry is 0, and the cells' sum is the samples'
--   carry_series_one, carry_picture_one   two outcomes that the contract allows are the same
-- Where a call is done:
--   carried_run        there are such carries, each from 0 to the divisor less one, and the last is answered
--   carried_length     there are as many cells as results
--   carried_near       a cell is less than 1 from its quotient: times the divisor, it is less than the divisor from its result
--   carried_size       and has size at most the bound
--   carried_total      the divisor times the cells' sum, and the last carry, are the results' sum
--   carried_series_true, carried_picture_true   where the results are a smoothing of some samples under the plan, or the plans, the last carry is 0 and the cells' sum is the samples'
use Rattle.std.specs.Prelude.{ℕ, suc, ◌*◌, ◌≤◌, ◌<◌, ◌≡◌, ◌≢◌, List, [], length, ℤ, pos, nat_abs, ◌+ℤ◌, ◌-ℤ◌, ◌*ℤ◌, Result}
use Rattle.std.proofs.Common.{sym, ap₂, ◌∙◌}
use Rattle.std.proofs.Math.Path.{ap}
use contract.Lifetimes.{Lfts}
use denote.Triple.Clauses.{AtExit}
use borrow.Fn.Kinds.{Dens, res_t, ended_of}
use Rattle.algebra.specs.Sum.{sum}
use Rattle.meaning.specs.Extension.{at, fold}
use Rattle.meaning.specs.Smoothing.{list_of}
use Rattle.meaning.specs.Smoothing as smoothing
use Rattle.meaning.specs.Picture.{picture}
use Rattle.meaning.specs.Refusals.{Answer, first_of, Shape, series_of, picture_of, if_done}
use Rattle.meaning.specs.Values.{output_rows}
use Rattle.meaning.specs.Carry as meant
use Rattle.meaning.specs.Carry.{carry_cell, Carried, carried, carry_series, carry_picture}
use Rattle.meaning.specs.Bounds.{AllowedSeriesOut, AllowedPictureOut}
use Rattle.theory.specs.HalfSample.{half_sample, half_sample_balanced}
use Rattle.theory.specs.Lists.{length_list_of, at_list_of}
use Rattle.theory.specs.Refusals.{first_alone, if_done_done, if_done_refused}
use Rattle.theory.specs.OwnRows.{none_own}
use Rattle.theory.specs.Totals.{total, total_list_of, results_total, picture_total}
use Rattle.theory.specs.Carry.{carry_none, carry_below, carry_divided, carry_near, carry_size, carry_sum, carry_whole}
use Rattle.plan.specs.declared.Plan.{Plan}
use Rattle.plan.specs.Structs.{stages_of, answer_of, one_end}
use Rattle.plan.specs.declared.Refusal.{Refusal}
use Rattle.carry.specs.Structs.{carry_of}
use Rattle.carry.specs.Contract.{Gives}
use Rattle.carry.proofs.carry_series.Reads as series-call
use Rattle.carry.proofs.carry_series.Kinds as series-kinds
use Rattle.carry.proofs.carry_picture.Reads as picture-call
use Rattle.carry.proofs.carry_picture.Kinds as picture-kinds
use Rattle.promises.specs.Smoothings.{Exactly}
use Rattle.promises.specs.Outputs.{Output, output_whole, output_small, output_series, output_picture, alone, series_output, picture_output, series_smoothed, picture_smoothed}
use Rattle.promises.specs.SmoothSeries as series
use Rattle.promises.specs.Pictures as pictures

pub record SeriesCall : Type 1 where
  pub lifetimes : Lfts 2
  pub given : Dens lifetimes series-kinds.ps
  pub answered : (res_t series-kinds.r lifetimes).Denot
  pub left : AtExit (ended_of 2 series-kinds.ps series-kinds.r) lifetimes
  pub learnt : series-call.Learnt lifetimes given answered left

pub record PictureCall : Type 1 where
  pub lifetimes : Lfts 2
  pub given : Dens lifetimes picture-kinds.ps
  pub answered : (res_t picture-kinds.r lifetimes).Denot
  pub left : AtExit (ended_of 2 picture-kinds.ps picture-kinds.r) lifetimes
  pub learnt : picture-call.Learnt lifetimes given answered left

abbrev pub carried_cells : ℕ → List ℤ → List ℤ
carried_cells d r = list_of (length r) (carry_cell d r)

pub record Carrying : Type 0 where
  pub out : Output carried_cells
  pub carry : ℕ
  pub carries : carry ≡ if_done out.answer (meant.carry out.shape.divisor out.results (length out.results)) 0

-- ---- what was given, answered and left
abbrev pub plan : SeriesCall → Plan
plan c = c.given.0

abbrev pub across : PictureCall → Plan
across c = c.given.0.across

abbrev pub down : PictureCall → Plan
down c = c.given.0.down

abbrev pub width : PictureCall → ℕ
width c = c.given.0.width

abbrev pub height : PictureCall → ℕ
height c = c.given.0.height

module _ (s : Shape) (M : ℕ) (r cells : List ℤ) {a : Answer} {k : ℕ} {left : List ℤ} (h : Gives (carried s M r cells) a k left) where
  pub carried_answers : a ≡ first_of (output_rows s M r (length cells))
  unfolding carried
  carried_answers = h.answer

  pub carried_leaves : left ≡ if_done a (carried_cells s.divisor r) cells
  unfolding carried
  carried_leaves = h.cells ∙ ap (λ (x : Answer). if_done x (carried_cells s.divisor r) cells) (sym h.answer)

  pub carried_carries : k ≡ if_done a (meant.carry s.divisor r (length r)) 0
  unfolding carried
  carried_carries = h.carry ∙ ap (λ (x : Answer). if_done x (meant.carry s.divisor r (length r)) 0) (sym h.answer)

abbrev pub of_series : SeriesCall → Carrying
of_series c =
    let r = c.given.1.1.0.now in
    let cells = c.given.1.1.1.0.now in
    let s = series_of (stages_of (plan c)) (length r) in
    record {
      out = series_output [] none_own c.given.1.0 r cells (stages_of (plan c)) (first_alone _ (carried_answers s c.given.1.0 r cells c.learnt)) (carried_leaves s c.given.1.0 r cells c.learnt);
      carry = carry_of c.answered;
      carries = carried_carries s c.given.1.0 r cells c.learnt;
    }

abbrev pub of_picture : PictureCall → Carrying
of_picture c =
    let M = c.given.0.bound in
    let r = c.given.1.0.now in
    let cells = c.given.1.1.0.now in
    let s = picture_of (stages_of (across c)) (stages_of (down c)) (width c) (height c) in
    record {
      out = picture_output [] none_own M r cells (stages_of (across c)) (stages_of (down c)) (width c) (height c) (first_alone _ (carried_answers s M r cells c.learnt)) (carried_leaves s M r cells c.learnt);
      carry = carry_of c.answered;
      carries = carried_carries s M r cells c.learnt;
    }

-- ---- its cells and its carry
pub record Run (d : ℕ) (r : List ℤ) (k : ℕ → ℕ) (x : List ℤ) : Type 0 where
  pub start : k 0 ≡ 0
  pub below : (i : ℕ) → k i < d
  pub step : (i : ℕ) → i < length r → at r i +ℤ pos (k i) ≡ pos d *ℤ at x i +ℤ pos (k (suc i))

module _ (o : Carrying) where
  pub carried_none : o.out.answer.number ≢ 0 → o.carry ≡ 0
  carried_none n = o.carries ∙ if_done_refused _ _ _ n

  -- a call that is done
  module _ (e : o.out.answer.number ≡ 0) where
    abbrev d : ℕ
    d = o.out.shape.divisor

    abbrev r : List ℤ
    r = o.out.results

    cell_is : {i : ℕ} → i < length r → at o.out.left i ≡ carry_cell d r i
    cell_is {i} l = ap (λ (f : List ℤ). at f i) (output_whole o.out e) ∙ at_list_of (length r) (carry_cell d r) i l

    carry_is : o.carry ≡ meant.carry d r (length r)
    carry_is = o.carries ∙ if_done_done _ _ _ e

    total_is : total o.out.left ≡ sum (length r) (carry_cell d r)
    total_is = ap total (output_whole o.out e) ∙ total_list_of (length r) (carry_cell d r)

    pub carried_run : (k : ℕ → ℕ) × Run d r k o.out.left × (o.carry ≡ k (length r))
    carried_run = (
      meant.carry d r,
      record { start = carry_none d r; below = carry_below (o.out.divides e) r; step = λ i l. rw (cell_is l) (carry_divided (o.out.divides e) r i).is },
      carry_is,
    )

    pub carried_length : length o.out.left ≡ length r
    carried_length = ap length (output_whole o.out e) ∙ length_list_of (length r) (carry_cell d r)

    pub carried_near : {i : ℕ} → i < length r → nat_abs (at r i -ℤ pos d *ℤ at o.out.left i) < d
    carried_near {i} l = rw (cell_is l) (carry_near (o.out.divides e) r i)

    pub carried_size : {i : ℕ} → i < length r → nat_abs (at o.out.left i) ≤ o.out.bound
    carried_size {i} l = rw (cell_is l) (carry_size (o.out.divides e) r i ((output_small o.out e).1 i l))

    pub carried_total : total r ≡ pos d *ℤ total o.out.left +ℤ pos o.carry
    carried_total = carry_sum (o.out.divides e) r (length r) ∙ ap₂ (λ x k. pos d *ℤ x +ℤ pos k) (sym total_is) (sym carry_is)

    whole_total : {x : ℤ} → total r ≡ pos d *ℤ x → (o.carry ≡ 0) × (total o.out.left ≡ x)
    whole_total h = let (a, b) = carry_whole (o.out.divides e) r (length r) h in (carry_is ∙ b, total_is ∙ a)

-- ---- true smoothings
pub carried_series_true : (c : SeriesCall) → (of_series c).out.answer.number ≡ 0 → (f : List ℤ) → (of_series c).out.results ≡ smoothing.results fold (stages_of (plan c)) f → ((of_series c).carry ≡ 0) × (total (of_series c).out.left ≡ total f)
carried_series_true c e f h = whole_total (of_series c) e (ap total h ∙ results_total half_sample half_sample_balanced (stages_of (plan c)) f)

pub carried_picture_true : (c : PictureCall) → (of_picture c).out.answer.number ≡ 0 → (f : List ℤ) → length f ≡ width c * height c → (of_picture c).out.results ≡ picture fold fold (stages_of (across c)) (stages_of (down c)) (width c) (height c) f
    → ((of_picture c).carry ≡ 0) × (total (of_picture c).out.left ≡ total f)
carried_picture_true c e f n h = whole_total (of_picture c) e (ap total h ∙ picture_total half_sample half_sample half_sample_balanced half_sample_balanced (stages_of (across c)) (stages_of (down c)) (width c) (height c) f n)

-- ---- its bounds
pub carry_series_allowed : (c : SeriesCall) → Exactly ((of_series c).out.answer.number ≡ 0) (AllowedSeriesOut (stages_of (plan c)) (of_series c).out.bound (of_series c).out.results (length (of_series c).out.cells))
carry_series_allowed c = alone (output_series _ _ _ [] none_own (stages_of (plan c)) (of_series c).out.answers)

pub carry_picture_allowed : (c : PictureCall) → Exactly ((of_picture c).out.answer.number ≡ 0) (AllowedPictureOut (stages_of (across c)) (stages_of (down c)) (of_picture c).out.bound (width c) (height c) (of_picture c).out.results (length (of_picture c).out.cells))
carry_picture_allowed c = alone (output_picture _ _ _ [] none_own (stages_of (across c)) (stages_of (down c)) (width c) (height c) (of_picture c).out.answers)

-- ---- behind a smoothing
pub carried_smooth_series : (s : series.SeriesCall) (c : SeriesCall) → series.number s ≡ 0 → plan c ≡ series.plan s → (of_series c).out.bound ≡ series.bound s → (of_series c).out.results ≡ series.results_left s → length (of_series c).out.cells ≡ length (of_series c).out.results
    → ((of_series c).out.answer.number ≡ 0) × ((of_series c).carry ≡ 0) × (total (of_series c).out.left ≡ total (series.samples s))
carried_smooth_series s c e p m r n =
    let is = r ∙ series.done_whole s e in
    let done = (carry_series_allowed c).1 (series_smoothed p m is n ((series.done_allowed s).0 e)) in
    let (k, t) = carried_series_true c done (series.samples s) (is ∙ ap (λ (q : Plan). smoothing.results fold (stages_of q) (series.samples s)) (sym p)) in
    (done, k, t)

picture_is : {p q t u : Plan} {W X H Y : ℕ} (f : List ℤ) → p ≡ q → t ≡ u → W ≡ X → H ≡ Y → picture fold fold (stages_of q) (stages_of u) X Y f ≡ picture fold fold (stages_of p) (stages_of t) W H f
picture_is f p t w h = rw (p, t, w, h)

pub carried_smooth_picture : (s : pictures.PictureCall) (c : PictureCall) → pictures.number s ≡ 0 → across c ≡ pictures.across s → down c ≡ pictures.down s → (of_picture c).out.bound ≡ pictures.bound s → width c ≡ pictures.width s → height c ≡ pictures.height s
    → (of_picture c).out.results ≡ pictures.results_left s → length (of_picture c).out.cells ≡ length (of_picture c).out.results
    → ((of_picture c).out.answer.number ≡ 0) × ((of_picture c).carry ≡ 0) × (total (of_picture c).out.left ≡ total (pictures.samples s))
carried_smooth_picture s c e p t m w h r n =
    let f = pictures.samples s in
    let ok = (pictures.picture_allowed s).0 e in
    let is = r ∙ pictures.picture_whole s e in
    let done = (carry_picture_allowed c).1 (picture_smoothed p t m w h is n ok) in
    let (k, x) = carried_picture_true c done f (ok.count ∙ ap₂ ◌*◌ (sym w) (sym h)) (is ∙ picture_is f p t w h) in
    (done, k, x)

-- ---- two calls
carried_same : {o p : Carried} → o ≡ p → {a b : Result ℕ Refusal} {l m : List ℤ} → Gives o (answer_of a) (carry_of a) l → Gives p (answer_of b) (carry_of b) m → (a ≡ b) × (l ≡ m)
carried_same e g h = (
  one_end 0 _ _ (g.answer ∙ ap (λ (o : Carried). o.answer) e ∙ sym h.answer) (g.carry ∙ ap (λ (o : Carried). o.carry) e ∙ sym h.carry),
  g.cells ∙ ap (λ (o : Carried). o.cells) e ∙ sym h.cells,
)

series_same : {p q : Plan} {M L : ℕ} {r s x y : List ℤ} → p ≡ q → M ≡ L → r ≡ s → x ≡ y → carry_series (stages_of p) M r x ≡ carry_series (stages_of q) L s y
series_same p m r x = rw (p, m, r, x)

pub carry_series_one : (c d : SeriesCall) → plan c ≡ plan d → (of_series c).out.bound ≡ (of_series d).out.bound → (of_series c).out.results ≡ (of_series d).out.results → (of_series c).out.cells ≡ (of_series d).out.cells
    → (c.answered ≡ d.answered) × ((of_series c).out.left ≡ (of_series d).out.left)
carry_series_one c d p m r x = carried_same (series_same p m r x) c.learnt d.learnt

picture_same : {p q t u : Plan} {M L W X H Y : ℕ} {r s x y : List ℤ} → p ≡ q → t ≡ u → M ≡ L → W ≡ X → H ≡ Y → r ≡ s → x ≡ y → carry_picture (stages_of p) (stages_of t) M W H r x ≡ carry_picture (stages_of q) (stages_of u) L X Y s y
picture_same p t m w h r x = rw (p, t, m, w, h, r, x)

pub carry_picture_one : (c d : PictureCall) → across c ≡ across d → down c ≡ down d → (of_picture c).out.bound ≡ (of_picture d).out.bound → width c ≡ width d → height c ≡ height d
    → (of_picture c).out.results ≡ (of_picture d).out.results → (of_picture c).out.cells ≡ (of_picture d).out.cells → (c.answered ≡ d.answered) × ((of_picture c).out.left ≡ (of_picture d).out.left)
carry_picture_one c d p q m w h r x = carried_same (picture_same p q m w h r x) c.learnt d.learnt
