-- The steps of a smoothing call, each over plain lists; its test and its ends are those of any shape.
-- Laws: test_refused, test_rest (the rows in two parts, as code tests them), series_lengths; ready (what a test that refuses nothing leaves), swapped;
-- passable (each pass has room), after_none, after_next; call_refused, call_done.
use Rattle.std.specs.Prelude.{ℕ, suc, ◌*◌, ◌<◌, ◌≡◌, refl, Bool, false, ◌||◌, List, [], ◌∷◌, ◌++◌, length, ℤ, pos, Result, IsErrAnd, ⊤}
use Rattle.std.proofs.Math.Path.{sym, ap}
use Rattle.std.proofs.Common.{◌∙◌, le_trans, arith}
use Rattle.std.proofs.Math.ListN.{replicate}
use Rattle.std.proofs.lemmas.Result.{err_from_is_err_and}
use Rattle.meaning.specs.Extension.{at, fold}
use Rattle.meaning.specs.Kernel.{divisor}
use Rattle.meaning.specs.Smoothing.{pass}
use Rattle.meaning.specs.Refusals.{Answer, first_of, differs, within, above, Shape, series_of, common_rows}
use Rattle.meaning.specs.Calls.{sample_row, smooth_rows, smoothed}
use Rattle.theory.specs.HalfSample.{half_sample}
use Rattle.theory.specs.Lists.{sized}
use Rattle.theory.specs.Stages.{room_replicate}
use Rattle.theory.specs.Passes.{length_results, results_none, results_cons}
use Rattle.theory.specs.Sizes.{results_size}
use Rattle.theory.specs.Refusals.{if_done_done, if_done_refused, number_zero}
use Rattle.theory.specs.Places.{row_at_all}
use Rattle.theory.specs.ShapeRows.{shape_refused, shape_rest}
use Rattle.theory.specs.Tests.{no_differs}
use Rattle.theory.specs.AcceptedSmoothings.{series_allowed}
use Rattle.plan.specs.declared.Plan.{Plan}
use Rattle.plan.specs.declared.Refusal.{Refusal}
use Rattle.plan.specs.Structs.{stage_of, stages_of, plain, refused, answer_of, refused_number}
use Rattle.plan.specs.Tested.{allowed_tested}
use Rattle.series.specs.Contract.{Gives}
use Rattle.pass.specs.Ready.{Passable}
use Rattle.series.specs.Ready.{Ready, after}

-- ---- the test of any shape, in the two parts that code makes: where row 7 applies, row 8 does not matter
module _ (s : Shape) (M : ℕ) (f : List ℤ) (nr nw : ℕ) where
  abbrev lengths : Bool
  lengths = differs (length f) s.cells || differs nr s.cells || differs nw s.cells

  rows_tested : smooth_rows s M f nr nw ≡ common_rows s M lengths ++ sample_row M f (within 0 (length f)) ∷ []
  unfolding smooth_rows
  rows_tested = rw (row_at_all 11 (length f) (λ i. above M (at f i)))

  module _ {wrong : Bool} (w : s.bad_size ≡ false → wrong ≡ lengths) where
    pub test_refused : (x : Refusal) → refused x ≡ first_of (common_rows s M wrong) → refused x ≡ first_of (smooth_rows s M f nr nw)
    test_refused x e = rw rows_tested (shape_refused s M lengths 11 (length f) _ e w (refused_number x))

    pub test_rest : plain 0 ≡ first_of (common_rows s M wrong) → {b : Answer} → b ≡ first_of (sample_row M f (within 0 (length f)) ∷ []) → b ≡ first_of (smooth_rows s M f nr nw)
    test_rest e g = rw rows_tested (shape_rest s M lengths 11 (length f) _ e w refl g)

-- of a series, whose samples have the length asked
pub series_lengths : (N nr nw : ℕ) {wrong : Bool} → wrong ≡ (differs nr N || differs nw N) → wrong ≡ (differs N N || differs nr N || differs nw N)
series_lengths N nr nw e = e ∙ rw (no_differs {n = N} refl)

-- ---- the passes
pub swapped : {p : Plan} {f : List ℤ} {nd no : ℕ} → Ready p f nd no → Ready p f no nd
swapped h = let a = h.allowed in record { bound = h.bound; allowed = record { common = a.common; results = a.work; work = a.results; samples = a.samples } }

pub after_none : (p : Plan) (f : List ℤ) {dst : List ℤ} → dst ≡ f → dst ≡ after 0 p f
after_none p f e = e ∙ sym (results_none half_sample f)

pub after_next : (p : Plan) (f : List ℤ) (k : ℕ) {src dst : List ℤ} → src ≡ after k p f → dst ≡ pass fold (stage_of p) src → dst ≡ after (suc k) p f
after_next p f k s d = d ∙ ap (pass fold (stage_of p)) s ∙ sym (results_cons half_sample (stage_of p) (replicate k (stage_of p)) f)

pub passable : {p : Plan} {f : List ℤ} {nd no : ℕ} → Ready p f nd no → {k : ℕ} {src : List ℤ} {n : ℕ} → k < p.passes → src ≡ after k p f → n ≡ nd → Passable p src n
passable {p} {f} h {k} {src} l e s =
    let same : length src ≡ length f = ap length e ∙ length_results fold (replicate k (stage_of p)) f in
    let a = h.allowed in
    let plan = allowed_tested p a.common.plan in
    record {
      plan = plan;
      some = omega (arith, a.common.count);
      same = s ∙ a.results ∙ sym same;
      largest = h.bound * divisor (replicate k (stage_of p));
      sized = rw e (results_size fold (sized f (λ i l. record { bound = a.samples i l })) (replicate k (stage_of p)));
      room = le_trans (room_replicate h.bound (stage_of p) plan.inner.0 l) a.common.product;
    }

-- ---- what a test that refuses nothing leaves
pub ready : (p : Plan) (M : ℕ) (f : List ℤ) (nr nw : ℕ) → plain 0 ≡ first_of (smooth_rows (series_of (stages_of p) (length f)) M f nr nw) → Ready p f nr nw
ready p M f nr nw e = record { bound = M; allowed = series_allowed (stages_of p) M f nr nw (number_zero e refl) }

-- ---- the two ends of a call of any shape, by what its test answered
module _ (s : Shape) (M : ℕ) (new f r w : List ℤ) where
  pub call_refused : (x : Refusal) (q : Result ⊤ Refusal) → IsErrAnd q (λ y. y ≡ x) → refused x ≡ first_of (smooth_rows s M f (length r) (length w)) → Gives (smoothed s M new f r w) (answer_of q) r w
  unfolding smoothed
  call_refused x q h e =
      let p = err_from_is_err_and q h in
      rw (p.1, p.2, ← e) (record { answer = refl; results = sym (if_done_refused _ _ r (refused_number x)); work = sym (if_done_refused _ _ w (refused_number x)) })

  pub call_done : plain 0 ≡ first_of (smooth_rows s M f (length r) (length w)) → {res wrk : List ℤ} {n : ℕ} → res ≡ new → wrk ≡ replicate n (pos 0) → n ≡ length w → Gives (smoothed s M new f r w) (plain 0) res wrk
  unfolding smoothed
  call_done e s t n = rw (← e) (record { answer = refl; results = s ∙ sym (if_done_done _ _ r refl); work = t ∙ ap (λ k. replicate k (pos 0)) n ∙ sym (if_done_done _ _ w refl) })
