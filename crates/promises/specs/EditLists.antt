-- Any list of edits: calls of `edit::edit_series` by its own contract, beside calls of `series::smooth_series` by its own.
--   Edits p M x cs y   the calls cs, one after the other, under the plan p and the bound M, accepted or refused, lead from the samples and results x to y
--   Each P cs          P of each of cs
--   written f cs       what the accepted of cs say of the samples f
--   edits_fresh        demand 3: from samples and their smoothing, any edits lead to samples that hold what the accepted edits say, and to the smoothing of those
--   edits_never_12     and where no sample is above the bound, none ever gets so, and no call answers 12
--   smoothed x         the samples of a call of smoothing, and the results left; where it is done they are a fresh smoothing: that is done_whole, of SmoothSeries
--   edits_smoothing    after any edits of a fresh smoothing, a call that smooths the samples then held, under any bound, and is done leaves just the results then stored
--   edits_smoothed     smooth, edit, smooth again, under one plan and bound: where the first is done, so is the last with slices of the asked lengths, and leaves just the results then stored
use Rattle.std.specs.Prelude.{ℕ, ◌≡◌, refl, ◌≢◌, Bool, true, false, cond, List, [], ◌∷◌, eqb, length, set, ℤ}
use Rattle.std.proofs.Common.{sym, ap, ap₂, ◌∙◌, subst, length-set}
use Rattle.meaning.specs.Extension.{fold}
use Rattle.meaning.specs.Smoothing as smoothing
use Rattle.meaning.specs.Bounds.{AllowedLength, AllowedSeries}
use Rattle.plan.specs.declared.Plan.{Plan}
use Rattle.plan.specs.Structs.{stages_of}
use Rattle.promises.specs.SmoothSeries as smooth
use Rattle.promises.specs.SmoothSeries.{SeriesCall, done_allowed, done_whole}
use Rattle.promises.specs.Edits.{EditCall, plan, bound, position, value, samples, number, samples_left, Stored, before, after, Fresh, Within, edit_never_12, edit_says, edit_fresh, edit_within_lem}

-- ---- any list of calls
abbrev pub Edits : Plan → ℕ → Stored → List EditCall → Stored → Type 0
Edits p M x [] y = y ≡ x
Edits p M x (c ∷ cs) y = (plan c ≡ p) × (bound c ≡ M) × (before c ≡ x) × Edits p M (after c) cs y

abbrev pub Each : (EditCall → Type 0) → List EditCall → Type 0
Each P [] = Unit {0}
Each P (c ∷ cs) = P c × Each P cs

abbrev pub written : List ℤ → List EditCall → List ℤ
written f [] = f
written f (c ∷ cs) = written (cond (eqb (number c) 0) (set f (position c) (value c)) f) cs

length_written : (f : List ℤ) (cs : List EditCall) → length (written f cs) ≡ length f
length_written f [] = refl
length_written f (c ∷ cs) = length_written (cond (eqb (number c) 0) (set f (position c) (value c)) f) cs ∙ either (eqb (number c) 0)
  where
    either : (b : Bool) → length (cond b (set f (position c) (value c)) f) ≡ length f
    either true = length-set f (position c) (value c)
    either false = refl

fresh_same : {p q : Plan} {x y : Stored} → p ≡ q → x ≡ y → Fresh p x → Fresh q y
fresh_same e d h = rw (← e, ← d) h

module _ (p : Plan) (M : ℕ) where
  pub edits_fresh : (x : Stored) (cs : List EditCall) (y : Stored) → Edits p M x cs y → Fresh p x → (y.samples ≡ written x.samples cs) × Fresh p y
  edits_fresh x [] y e h = (ap (λ (z : Stored). z.samples) e, subst (Fresh p) (sym e) h)
  edits_fresh x (c ∷ cs) y (a, b, e, k) h =
      let (w, t) = edits_fresh (after c) cs y k (fresh_same a refl (edit_fresh c (fresh_same (sym a) (sym e) h))) in
      (w ∙ ap (λ (f : List ℤ). written f cs) (edit_says c ∙ ap (λ (z : Stored). cond (eqb (number c) 0) (set z.samples (position c) (value c)) z.samples) e), t)

  pub edits_never_12 : (x : Stored) (cs : List EditCall) (y : Stored) → Edits p M x cs y → Fresh p x → Within M x.samples → Each (λ c. number c ≢ 12) cs × Within M y.samples
  edits_never_12 x [] y e h l = (tt, subst (λ (z : Stored). Within M z.samples) (sym e) l)
  edits_never_12 x (c ∷ cs) y (a, b, e, k) h l =
      let t = fresh_same (sym a) (sym e) h in
      let u = subst (λ (L : ℕ). Within L (samples c)) (sym b) (subst (λ (z : Stored). Within M z.samples) (sym e) l) in
      let (v, w) = edits_never_12 (after c) cs y k (fresh_same a refl (edit_fresh c t)) (subst (λ (L : ℕ). Within L (samples_left c)) b (edit_within_lem c u)) in
      ((edit_never_12 c t u, v), w)

-- ---- beside calls of smoothing
abbrev pub smoothed : SeriesCall → Stored
smoothed x = record { samples = smooth.samples x; results = smooth.results_left x }

pub edits_smoothing : (p : Plan) (M : ℕ) (x : Stored) (cs : List EditCall) (y : Stored) → Edits p M x cs y → Fresh p x
    → (z : SeriesCall) → smooth.plan z ≡ p → smooth.samples z ≡ y.samples → smooth.number z ≡ 0 → smooth.results_left z ≡ y.results
edits_smoothing p M x cs y k h z a e d =
    done_whole z d ∙ ap₂ (λ (q : Plan) (f : List ℤ). smoothing.results fold (stages_of q) f) a e ∙ sym (edits_fresh p M x cs y k h).1

still_allowed : {p q : Plan} {M L N nr nw : ℕ} {f g : List ℤ} → q ≡ p → L ≡ M → f ≡ g → length g ≡ N → AllowedLength (stages_of p) M N → Within M g → nr ≡ length g → nw ≡ length g → AllowedSeries (stages_of q) L f nr nw
still_allowed a b e n ok h r w = rw (a, b, e) (record { common = rw n ok; results = r; work = w; samples = h })

pub edits_smoothed : (x : SeriesCall) → smooth.number x ≡ 0 → (cs : List EditCall) (y : Stored) → Edits (smooth.plan x) (smooth.bound x) (smoothed x) cs y
    → (z : SeriesCall) → smooth.plan z ≡ smooth.plan x → smooth.bound z ≡ smooth.bound x → smooth.samples z ≡ y.samples → length (smooth.results z) ≡ length y.samples → length (smooth.work z) ≡ length y.samples
    → (smooth.number z ≡ 0) × (smooth.results_left z ≡ y.results)
edits_smoothed x d cs y k z p M f r w =
    let fresh = done_whole x d in
    let ok = (done_allowed x).0 d in
    let long = ap length (edits_fresh (smooth.plan x) (smooth.bound x) (smoothed x) cs y k fresh).0 ∙ length_written (smooth.samples x) cs in
    let inside = (edits_never_12 (smooth.plan x) (smooth.bound x) (smoothed x) cs y k fresh ok.samples).1 in
    let done = (done_allowed z).1 (still_allowed p M f long ok.common inside r w) in
    (done, edits_smoothing (smooth.plan x) (smooth.bound x) (smoothed x) cs y k fresh z p f done)
