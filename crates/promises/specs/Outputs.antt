-- Putting results out: what holds of every output that leaves cells, of a series and of a picture alike.
--   Output made      an outcome that a call's contract allows: shape, bound, results and cells as given; answer, and the cells left. `made` is what it makes of the divisor,
--                    which is not 0 where the call is done, and the results; `own` are rows of the call's own, behind those of every output
--   each g           what makes each cell of its result alone, by g
--   series_output, picture_output   such an outcome, of a series and of a picture;  converted_series, converted_picture  of one that makes each cell by g
--   converted_answers, converted_leaves   what such a one's contract says of the answer and the cells left
--   rows             its rows of the table of numbers
--   output_lowest    the number is 0, or that of a row that applies, and then the lowest of those
--   output_done      it is 0 exactly where no row applies
--   output_place_12, output_place_other   at 12 the place is that of the first result above M times the divisor, else 0
--   output_unchanged a refused call leaves every cell as it was
--   output_whole     one that is done leaves what it makes; output_length, output_cell say of `each g` that these are as many as the results, and each is g of its result and the divisor
--   output_small, output_divisor   no result is above M times the divisor, nor are that and the divisor above the largest result
--   output_series, output_picture   the number is 0 exactly where the bounds of a series hold, and of a picture, and none of its own rows applies;  alone  of one that has none
--   series_divides, picture_divides   and then the divisor is not 0
--   series_smoothed, picture_smoothed   what a smoothing that is done leaves has these bounds
--   series_inputs, picture_inputs   the definitions give the same outcome of the same inputs
--   output_same      so two outcomes are the same
use Rattle.std.specs.Prelude.{ℕ, ◌*◌, ◌≤◌, ◌<◌, ◌≡◌, ◌≢◌, List, [], ◌++◌, map, length, get_or, ℤ, pos, nat_abs, Result, ⊤}
use Rattle.std.proofs.Common.{sym, ◌∙◌, mul-le-mul_right, arith}
use Rattle.std.proofs.Math.Path.{ap}
use Rattle.std.proofs.lemmas.List.{length-map}
use Rattle.meaning.specs.Limits.{max_result}
use Rattle.meaning.specs.Extension.{at, fold}
use Rattle.meaning.specs.Kernel.{Stage, divisor}
use Rattle.meaning.specs.Refusals.{Answer, Row, first_of, Applies, Shape, series_of, picture_of, if_done}
use Rattle.meaning.specs.Values.{Converted, output_rows, converted}
use Rattle.meaning.specs.Smoothing as smoothing
use Rattle.meaning.specs.Picture.{picture}
use Rattle.meaning.specs.Bounds.{AllowedSeries, AllowedPicture, AllowedSeriesOut, AllowedPictureOut, FirstAt}
use Rattle.theory.specs.Refusals.{done, Off, off_done, number_lowest, number_none, if_done_done, if_done_refused}
use Rattle.theory.specs.Fill.{get_d_map}
use Rattle.theory.specs.AcceptedOutputs as tested
use Rattle.theory.specs.Passes.{length_results}
use Rattle.theory.specs.Picture.{length_picture}
use Rattle.theory.specs.OwnRows.{Behind, own_rising, own_numbered, own_position, own_no_position, own_done, own_rest}
use Rattle.plan.specs.declared.Plan.{Plan}
use Rattle.plan.specs.declared.Refusal.{Refusal}
use Rattle.plan.specs.Structs.{stages_of, answer_of, one_answer}
use Rattle.plan.specs.Contract.{Gives}
use Rattle.promises.specs.Smoothings.{Exactly}

abbrev pub each : {A : Type 0} → (ℤ → ℕ → A) → ℕ → List ℤ → List A
each g d r = map (λ z. g z d) r

pub record Output {A : Type 0} (made : ℕ → List ℤ → List A) : Type 0 where
  pub shape : Shape
  pub bound : ℕ
  pub results : List ℤ
  pub cells : List A
  pub answer : Answer
  pub left : List A
  pub own : List Row
  pub behind : Behind own
  pub answers : answer ≡ first_of (output_rows shape bound results (length cells) ++ own)
  pub leaves : left ≡ if_done answer (made shape.divisor results) cells
  pub divides : answer.number ≡ 0 → 0 < shape.divisor

abbrev pub rows : {A : Type 0} {made : ℕ → List ℤ → List A} → Output made → List Row
rows o = output_rows o.shape o.bound o.results (length o.cells) ++ o.own

module _ {A : Type 0} {made : ℕ → List ℤ → List A} (o : Output made) where
  number_is : o.answer.number ≡ (first_of (rows o)).number
  number_is = ap (λ (x : Answer). x.number) o.answers

  pub output_lowest : (o.answer.number ≢ 0 → Applies o.answer.number (rows o)) × ((n : ℕ) → Applies n (rows o) → o.answer.number ≤ n)
  output_lowest = number_lowest (rows o) number_is (own_rising _ _ _ _ _ o.behind)

  pub output_done : Exactly (o.answer.number ≡ 0) ((n : ℕ) → Applies n (rows o) → ⊥)
  output_done = number_none (rows o) number_is (own_numbered _ _ _ _ _ o.behind)

  pub output_place_12 : o.answer.number ≡ 12 → FirstAt (length o.results) (λ i. o.bound * o.shape.divisor < nat_abs (at o.results i)) o.answer.position
  output_place_12 = own_position _ _ _ _ _ o.behind o.answers

  pub output_place_other : o.answer.number ≢ 12 → o.answer.position ≡ 0
  output_place_other = own_no_position _ _ _ _ _ o.behind o.answers

  pub output_unchanged : o.answer.number ≢ 0 → o.left ≡ o.cells
  output_unchanged n = o.leaves ∙ if_done_refused _ _ _ n

  -- a call that is done
  module _ (e : o.answer.number ≡ 0) where
    first_done : (first_of (output_rows o.shape o.bound o.results (length o.cells))).number ≡ 0
    first_done = (own_done _ _ _ _ _ o.behind o.answers e).0

    pub output_whole : o.left ≡ made o.shape.divisor o.results
    output_whole = o.leaves ∙ if_done_done _ _ _ e

    pub output_small : (o.bound * o.shape.divisor ≤ max_result) × ((i : ℕ) → i < length o.results → nat_abs (at o.results i) ≤ o.bound * o.shape.divisor)
    output_small = ((tested.output_bounds _ _ _ _ first_done).1, (tested.output_lent _ _ _ _ first_done).1.results)

    pub output_divisor : o.shape.divisor ≤ max_result
    output_divisor = omega (arith, (tested.output_bounds _ _ _ _ first_done).1, mul-le-mul_right o.shape.divisor (tested.output_bounds _ _ _ _ first_done).0.0)

module _ {A : Type 0} {g : ℤ → ℕ → A} (o : Output (each g)) (e : o.answer.number ≡ 0) where
  pub output_length : length o.left ≡ length o.results
  output_length = ap length (output_whole o e) ∙ length-map o.results _

  pub output_cell : (x : A) {i : ℕ} → i < length o.results → get_or o.left i x ≡ g (at o.results i) o.shape.divisor
  output_cell x {i} l = ap (λ (f : List A). get_or f i x) (output_whole o e) ∙ get_d_map _ o.results i (pos 0) x l

-- ---- its bounds
module _ (M : ℕ) (r : List ℤ) (n : ℕ) (own : List Row) (k : Behind own) {a : Answer} where
  exactly : (s : Shape) {B : Type 0} → ((first_of (output_rows s M r n)).number ≡ 0 → B) → (B → first_of (output_rows s M r n) ≡ done) → a ≡ first_of (output_rows s M r n ++ own) → Exactly (a.number ≡ 0) (B × Off own)
  exactly s to from h = (
    λ e. let (z, o) = own_done s M r n own k h e in (to z, o),
    λ ok. ap (λ (x : Answer). x.number) (h ∙ own_rest s M r n own (ap (λ (x : Answer). x.number) (from ok.0)) ∙ off_done own ok.1),
  )

  pub output_series : (ss : List Stage) → a ≡ first_of (output_rows (series_of ss (length r)) M r n ++ own) → Exactly (a.number ≡ 0) (AllowedSeriesOut ss M r n × Off own)
  output_series ss = exactly (series_of ss (length r)) (tested.series_out_allowed ss M r n) (tested.allowed_series_out ss M r n)

  pub series_divides : (ss : List Stage) → a ≡ first_of (output_rows (series_of ss (length r)) M r n ++ own) → a.number ≡ 0 → 0 < divisor ss
  series_divides ss h e = tested.series_out_divisor ss M r n ((output_series ss h).0 e).0

  pub output_picture : (hs vs : List Stage) (W H : ℕ) → a ≡ first_of (output_rows (picture_of hs vs W H) M r n ++ own) → Exactly (a.number ≡ 0) (AllowedPictureOut hs vs M W H r n × Off own)
  output_picture hs vs W H = exactly (picture_of hs vs W H) (tested.picture_out_allowed hs vs M W H r n) (tested.allowed_picture_out hs vs M W H r n)

  pub picture_divides : (hs vs : List Stage) (W H : ℕ) → a ≡ first_of (output_rows (picture_of hs vs W H) M r n ++ own) → a.number ≡ 0 → 0 < divisor hs * divisor vs
  picture_divides hs vs W H h e = tested.picture_out_divisor hs vs M W H r n ((output_picture hs vs W H h).0 e).0

pub alone : {A B : Type 0} → Exactly A (B × Off []) → Exactly A B
alone h = (λ a. (h.0 a).0, λ b. h.1 (b, tt))

-- ---- of a series and of a picture
module _ {A : Type 0} {made : ℕ → List ℤ → List A} (own : List Row) (k : Behind own) (M : ℕ) (r : List ℤ) (cells : List A) {a : Answer} {left : List A} where
  abbrev pub series_output : (ss : List Stage) → a ≡ first_of (output_rows (series_of ss (length r)) M r (length cells) ++ own) → left ≡ if_done a (made (divisor ss) r) cells → Output made
  series_output ss h l = record { shape = series_of ss (length r); bound = M; results = r; cells = cells; answer = a; left = left; own = own; behind = k; answers = h; leaves = l; divides = series_divides M r (length cells) own k ss h }

  abbrev pub picture_output : (hs vs : List Stage) (W H : ℕ) → a ≡ first_of (output_rows (picture_of hs vs W H) M r (length cells) ++ own) → left ≡ if_done a (made (divisor hs * divisor vs) r) cells → Output made
  picture_output hs vs W H h l = record { shape = picture_of hs vs W H; bound = M; results = r; cells = cells; answer = a; left = left; own = own; behind = k; answers = h; leaves = l; divides = picture_divides M r (length cells) own k hs vs W H h }

-- ---- of a conversion
module _ {A : Type 0} (own : List Row) (g : ℤ → ℕ → A) (s : Shape) (M : ℕ) (r : List ℤ) (cells : List A) {a : Answer} {left : List A} (h : Gives (converted own g s M r cells) a left) where
  pub converted_answers : a ≡ first_of (output_rows s M r (length cells) ++ own)
  unfolding converted
  converted_answers = h.answer

  pub converted_leaves : left ≡ if_done a (each g s.divisor r) cells
  unfolding converted
  converted_leaves = h.cells ∙ ap (λ (x : Answer). if_done x (each g s.divisor r) cells) (sym h.answer)

module _ {A : Type 0} (own : List Row) (k : Behind own) (g : ℤ → ℕ → A) (M : ℕ) (r : List ℤ) (cells : List A) {a : Answer} {left : List A} where
  abbrev pub converted_series : (ss : List Stage) → Gives (converted own g (series_of ss (length r)) M r cells) a left → Output (each g)
  converted_series ss h = let s = series_of ss (length r) in series_output own k M r cells ss (converted_answers own g s M r cells h) (converted_leaves own g s M r cells h)

  abbrev pub converted_picture : (hs vs : List Stage) (W H : ℕ) → Gives (converted own g (picture_of hs vs W H) M r cells) a left → Output (each g)
  converted_picture hs vs W H h = let s = picture_of hs vs W H in picture_output own k M r cells hs vs W H (converted_answers own g s M r cells h) (converted_leaves own g s M r cells h)

-- ---- behind a smoothing
pub series_smoothed : {p q : Plan} {M L n nr nw : ℕ} {r f : List ℤ} → p ≡ q → M ≡ L → r ≡ smoothing.results fold (stages_of q) f → n ≡ length r → AllowedSeries (stages_of q) L f nr nw → AllowedSeriesOut (stages_of p) M r n
series_smoothed {q} {f} p m r n ok = rw (p, m, r) (tested.series_smoothed_out fold (stages_of q) ok (n ∙ ap length r ∙ length_results fold (stages_of q) f))

pub picture_smoothed : {p q t u : Plan} {M L W X H Y n nr nw : ℕ} {r f : List ℤ} → p ≡ q → t ≡ u → M ≡ L → W ≡ X → H ≡ Y → r ≡ picture fold fold (stages_of q) (stages_of u) X Y f → n ≡ length r → AllowedPicture (stages_of q) (stages_of u) L X Y f nr nw
    → AllowedPictureOut (stages_of p) (stages_of t) M W H r n
picture_smoothed {q} {u} {X} {Y} {f} p t m w h r n ok = rw (p, t, m, w, h, r) (tested.picture_smoothed_out fold fold (stages_of q) (stages_of u) ok (n ∙ ap length r ∙ length_picture fold fold (stages_of q) (stages_of u) X Y f))

-- ---- two calls
module _ {A : Type 0} {own more : List Row} {f g : ℤ → ℕ → A} (o : own ≡ more) (e : f ≡ g) where
  pub series_inputs : {p q : Plan} {M L : ℕ} {r s : List ℤ} {x y : List A} → p ≡ q → M ≡ L → r ≡ s → x ≡ y → converted own f (series_of (stages_of p) (length r)) M r x ≡ converted more g (series_of (stages_of q) (length s)) L s y
  series_inputs p m r x = rw (o, e, p, m, r, x)

  pub picture_inputs : {p q t u : Plan} {M L W X H Y : ℕ} {r s : List ℤ} {x y : List A} → p ≡ q → t ≡ u → M ≡ L → W ≡ X → H ≡ Y → r ≡ s → x ≡ y
      → converted own f (picture_of (stages_of p) (stages_of t) W H) M r x ≡ converted more g (picture_of (stages_of q) (stages_of u) X Y) L s y
  picture_inputs p t m w h r x = rw (o, e, p, t, m, w, h, r, x)

pub output_same : {A : Type 0} {o p : Converted A} → o ≡ p → {a b : Result ⊤ Refusal} {l m : List A} → Gives o (answer_of a) l → Gives p (answer_of b) m → (a ≡ b) × (l ≡ m)
output_same {A} e g h = (
  one_answer _ _ (g.answer ∙ ap (λ (o : Converted A). o.answer) e ∙ sym h.answer),
  g.cells ∙ ap (λ (o : Converted A). o.cells) e ∙ sym h.cells,
)
