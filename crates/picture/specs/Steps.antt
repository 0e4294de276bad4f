-- The steps of smoothing a picture, each over plain lists.
-- Laws: ready (what a test that refuses nothing leaves), swapped; rows_ready (each row has room), passable (each pass down has room); after_none, after_next.
use Rattle.std.specs.Prelude.{ℕ, suc, ◌*◌, ◌<◌, ◌≡◌, refl, List, length, replicate, ℤ}
use Rattle.std.proofs.Common.{sym, ◌∙◌, ap, le_trans, le-mul_of_pos_right, mul-le-mul_left, mul_assoc, arith}
use Rattle.meaning.specs.Extension.{fold}
use Rattle.meaning.specs.Kernel.{divisor}
use Rattle.meaning.specs.Smoothing.{results, pass}
use Rattle.meaning.specs.Picture.{across, down}
use Rattle.meaning.specs.Refusals.{first_of, picture_of}
use Rattle.meaning.specs.Calls.{smooth_rows}
use Rattle.theory.specs.Refusals.{number_zero}
use Rattle.theory.specs.HalfSample.{half_sample}
use Rattle.theory.specs.Lists.{Sized, sized}
use Rattle.theory.specs.Stages.{room_replicate}
use Rattle.theory.specs.Sizes.{results_size}
use Rattle.theory.specs.Picture.{length_across, length_down, across_size, down_size, down_none, down_cons}
use Rattle.theory.specs.Accepted.{divisor_allowed}
use Rattle.theory.specs.AcceptedSmoothings.{picture_allowed}
use Rattle.plan.specs.declared.Plan.{Plan}
use Rattle.plan.specs.Structs.{stage_of, stages_of, plain}
use Rattle.plan.specs.Tested.{allowed_tested}
use Rattle.columns.specs.Ready.{Passable}
use Rattle.rows.specs.Rows.{RowsReady}
use Rattle.picture.specs.Ready.{Ready, after}

-- ---- what a test that refuses nothing leaves
pub ready : (p q : Plan) (M W H : ℕ) (f : List ℤ) (nr nw : ℕ) → plain 0 ≡ first_of (smooth_rows (picture_of (stages_of p) (stages_of q) W H) M f nr nw) → Ready p q W H f nr nw
ready p q M W H f nr nw e = record { bound = M; allowed = picture_allowed (stages_of p) (stages_of q) M W H f nr nw (number_zero e refl) }

-- ---- the passes
module _ {p q : Plan} {W H : ℕ} {f : List ℤ} {nd no : ℕ} (h : Ready p q W H f nd no) where
  pub swapped : Ready p q W H f no nd
  swapped = let a = h.allowed in record { bound = h.bound; allowed = record { common = a.common; count = a.count; results = a.work; work = a.results; samples = a.samples } }

  samples_sized : Sized h.bound f
  samples_sized = sized f (λ i l. record { bound = h.allowed.samples i l })

  pub rows_ready : RowsReady p W H f nd no
  rows_ready =
      let a = h.allowed in
      let c = a.common in
      let room = mul-le-mul_left h.bound (le-mul_of_pos_right (divisor (stages_of p)) (divisor_allowed (stages_of q) c.down.stages)) in
      record {
        bound = h.bound;
        each = record { plan = c.across; bound = c.bound; product = le_trans room c.product; count = omega (arith, c.width) };
        few = c.cells;
        cells = a.count;
        same = a.results;
        other = a.work;
        sized = samples_sized;
      }

  -- the pass after k of them
  pub passable : {k : ℕ} {src : List ℤ} {n : ℕ} → k < q.passes → src ≡ after k p q W H f → n ≡ nd → Passable q W H src n
  passable {k} l e s =
      let a = h.allowed in
      let c = a.common in
      let plan = allowed_tested q c.down in
      let ss = replicate k (stage_of q) in
      let wide = across_size (results fold (stages_of p)) (λ g z. results_size fold z (stages_of p)) W H samples_sized in
      record {
        plan = plan;
        wide = c.width.0;
        tall = c.height.0;
        few = c.cells;
        cells = ap length e ∙ length_down (results fold ss) W H _;
        same = s ∙ a.results;
        largest = h.bound * divisor (stages_of p) * divisor ss;
        sized = rw e (down_size (results fold ss) (λ g z. results_size fold z ss) W H wide);
        room = le_trans (room_replicate (h.bound * divisor (stages_of p)) (stage_of q) plan.inner.0 l) (rw (mul_assoc h.bound (divisor (stages_of p)) (divisor (stages_of q))) c.product);
      }

module _ (p q : Plan) (W H : ℕ) (f : List ℤ) where
  pub after_none : {dst : List ℤ} → dst ≡ across (results fold (stages_of p)) W H f → dst ≡ after 0 p q W H f
  after_none e = e ∙ sym (down_none half_sample W H _ (length_across _ W H f))

  pub after_next : (k : ℕ) {src dst : List ℤ} → src ≡ after k p q W H f → dst ≡ down (pass fold (stage_of q)) W H src → dst ≡ after (suc k) p q W H f
  after_next k s d = d ∙ ap (down (pass fold (stage_of q)) W H) s ∙ sym (down_cons half_sample (stage_of q) (replicate k (stage_of q)) W H _)
