-- Negating a column: smoothing and whole output in mode 0, in either form, by their own contracts.
--   NegatedSeries c d, NegatedPicture c d   the smoothing d was given what c was, but the negated samples; of the cells to be written, as many
--   EvenOfSeries c v, EvenOfPicture c v     v is whole output in mode 0 of the results that the smoothing c left, under its plans and bound, with as many cells
--   smooth_series_negated, smooth_picture_negated   then d answers what c does, and where that is done leaves the negated results
--   whole_series_negated, whole_picture_negated     whole output in mode 0 of negated results answers the same, and where it is done leaves the negated cells
--   samples_negated_series, samples_negated_picture   so negating all samples negates all outputs: where the smoothing is done, both whole outputs are, and the one leaves the negated cells of the other
--   samples_negated_series_default, samples_negated_picture_default   the same of the forms without a mode
use Rattle.std.specs.Prelude.{ℕ, ◌≡◌, List, ◌++◌, map, length, ℤ, neg_ℤ, Result, ⊤}
use Rattle.std.proofs.Common.{sym, ap, ap₂, ◌∙◌, arith}
use Rattle.std.proofs.lemmas.List.{length-map}
use Rattle.meaning.specs.Extension.{fold}
use Rattle.meaning.specs.Smoothing as smoothing
use Rattle.meaning.specs.Picture.{picture}
use Rattle.meaning.specs.Refusals.{Answer, Row, first_of, Shape, series_of, picture_of}
use Rattle.meaning.specs.Calls.{smooth_rows}
use Rattle.meaning.specs.Values.{nearest_even, rounded, output_rows, mode_rows}
use Rattle.theory.specs.Negated.{results_negated, picture_negated, nearest_even_negated_each, smooth_negated, output_negated}
use Rattle.plan.specs.declared.Plan.{Plan}
use Rattle.plan.specs.declared.Refusal.{Refusal}
use Rattle.plan.specs.Structs.{stages_of, answer_of, one_answer}
use Rattle.promises.specs.Smoothings.{answers}
use Rattle.promises.specs.Outputs.{Output, each, output_whole, series_smoothed, picture_smoothed}
use Rattle.promises.specs.WholeNumbers.{SeriesDefault, PictureDefault, WholeSeries, WholePicture, series_by_default, picture_by_default, of_series, of_picture, whole_series_allowed, whole_picture_allowed}
use Rattle.promises.specs.SmoothSeries as series
use Rattle.promises.specs.Pictures as pictures

-- ---- whole output
rows_same : (r : List ℤ) {s : List ℤ} {S T : Shape} {M L m n : ℕ} {own more : List Row} → S ≡ T → M ≡ L → s ≡ map neg_ℤ r → m ≡ n → own ≡ more → first_of (output_rows S M s m ++ own) ≡ first_of (output_rows T L r n ++ more)
rows_same r {T} {L} {n} s m i k o = rw (s, m, i, k, o, output_negated T L r n)

cells_same : {m : ℕ} → m ≡ 0 → (o : Output (each (rounded m))) → o.answer.number ≡ 0 → o.left ≡ map (λ z. nearest_even z o.shape.divisor) o.results
cells_same i o e = output_whole o e ∙ ap (λ m. each (rounded m) o.shape.divisor o.results) i

module _ {m n : ℕ} (i : m ≡ 0) (j : n ≡ 0) (o : Output (each (rounded m))) (p : Output (each (rounded n))) where
  outputs_negated : p.shape ≡ o.shape → p.bound ≡ o.bound → p.results ≡ map neg_ℤ o.results → length p.cells ≡ length o.cells → p.own ≡ o.own → (p.answer ≡ o.answer) × (o.answer.number ≡ 0 → p.left ≡ map neg_ℤ o.left)
  outputs_negated s b r k w =
      let a = p.answers ∙ rows_same o.results s b r k w ∙ sym o.answers in
      (a, λ e. cells_same j p (ap (λ (x : Answer). x.number) a ∙ e) ∙ ap₂ (λ (t : Shape) (f : List ℤ). map (λ z. nearest_even z t.divisor) f) s r ∙ nearest_even_negated_each _ (o.divides e) o.results ∙ ap (map neg_ℤ) (sym (cells_same i o e)))

series_shape : (r : List ℤ) {s : List ℤ} {p q : Plan} → p ≡ q → s ≡ map neg_ℤ r → series_of (stages_of p) (length s) ≡ series_of (stages_of q) (length r)
series_shape r p s = rw (p, s, length-map r neg_ℤ)

pub whole_series_negated : (v w : WholeSeries) → v.mode ≡ 0 → w.mode ≡ 0 → w.plan ≡ v.plan → w.bound ≡ v.bound → w.results ≡ map neg_ℤ v.results → length w.cells ≡ length v.cells
    → (w.answered ≡ v.answered) × ((answer_of v.answered).number ≡ 0 → w.left ≡ map neg_ℤ v.left)
whole_series_negated v w i j p m r n =
    let (a, c) = outputs_negated i j (of_series v) (of_series w) (series_shape v.results p r) m r n (ap mode_rows (j ∙ sym i)) in
    (one_answer _ _ a, c)

picture_shape : {p q t u : Plan} {W X H Y : ℕ} → p ≡ q → t ≡ u → W ≡ X → H ≡ Y → picture_of (stages_of p) (stages_of t) W H ≡ picture_of (stages_of q) (stages_of u) X Y
picture_shape p t w h = rw (p, t, w, h)

pub whole_picture_negated : (v w : WholePicture) → v.mode ≡ 0 → w.mode ≡ 0 → w.across ≡ v.across → w.down ≡ v.down → w.bound ≡ v.bound → w.width ≡ v.width → w.height ≡ v.height
    → w.results ≡ map neg_ℤ v.results → length w.cells ≡ length v.cells → (w.answered ≡ v.answered) × ((answer_of v.answered).number ≡ 0 → w.left ≡ map neg_ℤ v.left)
whole_picture_negated v w i j p t m x y r n =
    let (a, c) = outputs_negated i j (of_picture v) (of_picture w) (picture_shape p t x y) m r n (ap mode_rows (j ∙ sym i)) in
    (one_answer _ _ a, c)

-- ---- smoothing
smooth_rows_same : (f : List ℤ) {g : List ℤ} {S T : Shape} {M L nr nw mr mw : ℕ} → S ≡ T → M ≡ L → g ≡ map neg_ℤ f → nr ≡ mr → nw ≡ mw → first_of (smooth_rows S M g nr nw) ≡ first_of (smooth_rows T L f mr mw)
smooth_rows_same f {T} {L} {mr} {mw} s m g r w = rw (s, m, g, r, w, smooth_negated T L f mr mw)

series_results : (f : List ℤ) {g : List ℤ} {p q : Plan} → p ≡ q → g ≡ map neg_ℤ f → smoothing.results fold (stages_of p) g ≡ map neg_ℤ (smoothing.results fold (stages_of q) f)
series_results f {q} p g = rw (p, g) (results_negated fold (stages_of q) f)

pub record NegatedSeries (c d : series.SeriesCall) : Type 0 where
  pub plan : series.plan d ≡ series.plan c
  pub bound : series.bound d ≡ series.bound c
  pub samples : series.samples d ≡ map neg_ℤ (series.samples c)
  pub results : length (series.results d) ≡ length (series.results c)
  pub work : length (series.work d) ≡ length (series.work c)

pub smooth_series_negated : {c d : series.SeriesCall} → NegatedSeries c d → (d.answered ≡ c.answered) × (series.number c ≡ 0 → series.results_left d ≡ map neg_ℤ (series.results_left c))
smooth_series_negated {c} {d} h =
    let f = series.samples c in
    let a = answers _ _ _ _ _ _ d.learnt ∙ smooth_rows_same f (series_shape f h.plan h.samples) h.bound h.samples h.results h.work ∙ sym (answers _ _ _ _ _ _ c.learnt) in
    (one_answer _ _ a, λ e. series.done_whole d (ap (λ (x : Answer). x.number) a ∙ e) ∙ series_results f h.plan h.samples ∙ ap (map neg_ℤ) (sym (series.done_whole c e)))

picture_results : (f : List ℤ) {g : List ℤ} {p q t u : Plan} {W X H Y : ℕ} → p ≡ q → t ≡ u → W ≡ X → H ≡ Y → g ≡ map neg_ℤ f
    → picture fold fold (stages_of p) (stages_of t) W H g ≡ map neg_ℤ (picture fold fold (stages_of q) (stages_of u) X Y f)
picture_results f {q} {u} {X} {Y} p t w h g = rw (p, t, w, h, g) (picture_negated fold fold (stages_of q) (stages_of u) X Y f)

pub record NegatedPicture (c d : pictures.PictureCall) : Type 0 where
  pub across : pictures.across d ≡ pictures.across c
  pub down : pictures.down d ≡ pictures.down c
  pub bound : pictures.bound d ≡ pictures.bound c
  pub width : pictures.width d ≡ pictures.width c
  pub height : pictures.height d ≡ pictures.height c
  pub samples : pictures.samples d ≡ map neg_ℤ (pictures.samples c)
  pub results : length (pictures.results d) ≡ length (pictures.results c)
  pub work : length (pictures.work d) ≡ length (pictures.work c)

pub smooth_picture_negated : {c d : pictures.PictureCall} → NegatedPicture c d → (d.answered ≡ c.answered) × (pictures.number c ≡ 0 → pictures.results_left d ≡ map neg_ℤ (pictures.results_left c))
smooth_picture_negated {c} {d} h =
    let f = pictures.samples c in
    let a = answers _ _ _ _ _ _ d.learnt ∙ smooth_rows_same f (picture_shape h.across h.down h.width h.height) h.bound h.samples h.results h.work ∙ sym (answers _ _ _ _ _ _ c.learnt) in
    (one_answer _ _ a, λ e. pictures.picture_whole d (ap (λ (x : Answer). x.number) a ∙ e) ∙ picture_results f h.across h.down h.width h.height h.samples ∙ ap (map neg_ℤ) (sym (pictures.picture_whole c e)))

-- ---- whole output behind a smoothing
pub record EvenOfSeries (c : series.SeriesCall) (v : WholeSeries) : Type 0 where
  pub plan : v.plan ≡ series.plan c
  pub bound : v.bound ≡ series.bound c
  pub mode : v.mode ≡ 0
  pub results : v.results ≡ series.results_left c
  pub cells : length v.cells ≡ length v.results

even_series_done : {c : series.SeriesCall} {v : WholeSeries} → EvenOfSeries c v → series.number c ≡ 0 → (answer_of v.answered).number ≡ 0
even_series_done {c} {v} h e = (whole_series_allowed v).1 (series_smoothed h.plan h.bound (h.results ∙ series.done_whole c e) h.cells ((series.done_allowed c).0 e), rw h.mode (omega arith))

pub samples_negated_series : {c d : series.SeriesCall} → NegatedSeries c d → series.number c ≡ 0 → {v w : WholeSeries} → EvenOfSeries c v → EvenOfSeries d w → ((answer_of v.answered).number ≡ 0) × ((answer_of w.answered).number ≡ 0) × (w.left ≡ map neg_ℤ v.left)
samples_negated_series {c} {d} h e {v} {w} i j =
    let (a, r) = smooth_series_negated h in
    let vd = even_series_done i e in
    let wd = even_series_done j (ap (λ (r : Result ⊤ Refusal). (answer_of r).number) a ∙ e) in
    let is : w.results ≡ map neg_ℤ v.results = j.results ∙ r e ∙ ap (map neg_ℤ) (sym i.results) in
    (vd, wd, (whole_series_negated v w i.mode j.mode (j.plan ∙ h.plan ∙ sym i.plan) (j.bound ∙ h.bound ∙ sym i.bound) is (j.cells ∙ ap length is ∙ length-map v.results neg_ℤ ∙ sym i.cells)).1 vd)

pub samples_negated_series_default : {c d : series.SeriesCall} → NegatedSeries c d → series.number c ≡ 0 → (v w : SeriesDefault) → EvenOfSeries c (series_by_default v) → EvenOfSeries d (series_by_default w)
    → ((answer_of v.answered).number ≡ 0) × ((answer_of w.answered).number ≡ 0) × ((series_by_default w).left ≡ map neg_ℤ (series_by_default v).left)
samples_negated_series_default h e v w i j = samples_negated_series h e i j

pub record EvenOfPicture (c : pictures.PictureCall) (v : WholePicture) : Type 0 where
  pub across : v.across ≡ pictures.across c
  pub down : v.down ≡ pictures.down c
  pub bound : v.bound ≡ pictures.bound c
  pub width : v.width ≡ pictures.width c
  pub height : v.height ≡ pictures.height c
  pub mode : v.mode ≡ 0
  pub results : v.results ≡ pictures.results_left c
  pub cells : length v.cells ≡ length v.results

even_picture_done : {c : pictures.PictureCall} {v : WholePicture} → EvenOfPicture c v → pictures.number c ≡ 0 → (answer_of v.answered).number ≡ 0
even_picture_done {c} {v} h e = (whole_picture_allowed v).1 (picture_smoothed h.across h.down h.bound h.width h.height (h.results ∙ pictures.picture_whole c e) h.cells ((pictures.picture_allowed c).0 e), rw h.mode (omega arith))

pub samples_negated_picture : {c d : pictures.PictureCall} → NegatedPicture c d → pictures.number c ≡ 0 → {v w : WholePicture} → EvenOfPicture c v → EvenOfPicture d w → ((answer_of v.answered).number ≡ 0) × ((answer_of w.answered).number ≡ 0) × (w.left ≡ map neg_ℤ v.left)
samples_negated_picture {c} {d} h e {v} {w} i j =
    let (a, r) = smooth_picture_negated h in
    let vd = even_picture_done i e in
    let wd = even_picture_done j (ap (λ (r : Result ⊤ Refusal). (answer_of r).number) a ∙ e) in
    let is : w.results ≡ map neg_ℤ v.results = j.results ∙ r e ∙ ap (map neg_ℤ) (sym i.results) in
    (vd, wd, (whole_picture_negated v w i.mode j.mode (j.across ∙ h.across ∙ sym i.across) (j.down ∙ h.down ∙ sym i.down) (j.bound ∙ h.bound ∙ sym i.bound) (j.width ∙ h.width ∙ sym i.width) (j.height ∙ h.height ∙ sym i.height) is (j.cells ∙ ap length is ∙ length-map v.results neg_ℤ ∙ sym i.cells)).1 vd)

pub samples_negated_picture_default : {c d : pictures.PictureCall} → NegatedPicture c d → pictures.number c ≡ 0 → (v w : PictureDefault) → EvenOfPicture c (picture_by_default v) → EvenOfPicture d (picture_by_default w)
    → ((answer_of v.answered).number ≡ 0) × ((answer_of w.answered).number ≡ 0) × ((picture_by_default w).left ≡ map neg_ℤ (picture_by_default v).left)
samples_negated_picture_default h e v w i j = samples_negated_picture h e i j
