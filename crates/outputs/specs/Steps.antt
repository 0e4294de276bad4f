-- The steps of an output, each over plain lists, of any shape.
--   Over s M d   rows 1 to 8 do not apply to the shape s under the bound M, and d is its divisor
-- Laws: test_refused, test_rest (the rows in two parts, as code tests them); series_over, picture_over (what the first part leaves, of the divisor that code has), over_passed, over_within, over_size, over_small (what both leave);
-- series_lengths; call_refused, call_done (the two ends of a call that leaves cells, with rows of its own).
use Rattle.std.specs.Prelude.{ℕ, ◌*◌, ◌≤◌, ◌<◌, ◌≡◌, refl, Bool, false, ◌||◌, List, [], ◌∷◌, ◌++◌, map, length, ℤ, nat_abs}
use Rattle.std.proofs.Common.{sym, ◌∙◌, ap₂, le_trans, mul-le-mul_right, arith}
use Rattle.std.proofs.Math.Nat.{one-le-mul}
use Rattle.meaning.specs.Limits.{least, max_bound, max_result}
use Rattle.meaning.specs.Extension.{at}
use Rattle.meaning.specs.Refusals.{Answer, Row, first_of, row_at, differs, above, Shape, series_of, picture_of, common_rows, plan_divisor}
use Rattle.meaning.specs.Values.{output_rows, converted}
use Rattle.meaning.specs.Bounds.{AllowedLength, AllowedSides}
use Rattle.theory.specs.Refusals.{number_zero, if_done_done, if_done_refused}
use Rattle.theory.specs.Tests.{no_differs}
use Rattle.theory.specs.ShapeRows.{shape_refused, shape_rest}
use Rattle.theory.specs.Accepted.{length_accepted, sides_accepted, accepted_divisor, divisor_allowed}
use Rattle.theory.specs.AcceptedOutputs.{Lent, output_lent}
use Rattle.plan.specs.declared.Plan.{Plan}
use Rattle.plan.specs.declared.Refusal.{Refusal}
use Rattle.plan.specs.Structs.{stages_of, plain, refused, refused_number}
use Rattle.plan.specs.Contract.{Gives}
use Rattle.outputs.specs.Ready.{Passed}

-- ---- the test
module _ (s : Shape) (M : ℕ) (r : List ℤ) (n : ℕ) where
  abbrev lengths : Bool
  lengths = differs (length r) s.cells || differs n s.cells

  module _ {a : Answer} {wrong : Bool} (w : s.bad_size ≡ false → wrong ≡ lengths) (e : a ≡ first_of (common_rows s M wrong)) where
    pub test_refused : (a.number ≡ 0 → ⊥) → a ≡ first_of (output_rows s M r n)
    unfolding output_rows
    test_refused h = shape_refused s M lengths 12 (length r) _ e w h

    pub test_rest : a.number ≡ 0 → {d : ℕ} → d ≡ s.divisor → {b : Answer} → b ≡ first_of (row_at 12 (length r) (λ i. above (M * d) (at r i)) ∷ []) → b ≡ first_of (output_rows s M r n)
    unfolding output_rows
    test_rest z k g = shape_rest s M lengths 12 (length r) _ e w z (g ∙ rw k refl)

-- of a series, whose results have the length asked
pub series_lengths : (N n : ℕ) {wrong : Bool} → wrong ≡ differs n N → wrong ≡ (differs N N || differs n N)
series_lengths N n e = e ∙ rw (no_differs {n = N} refl)

-- ---- what a test that passes leaves
pub record Over (s : Shape) (M d : ℕ) : Type 0 where
  pub divides : d ≡ s.divisor
  pub divisor : (least ≤ d) × (d ≤ max_result)
  pub bound : (least ≤ M) × (M ≤ max_bound)
  pub product : M * d ≤ max_result
  pub some : least ≤ s.cells

over : (s : Shape) (M : ℕ) {d : ℕ} → d ≡ s.divisor → (least ≤ M) × (M ≤ max_bound) → least ≤ s.divisor → M * s.divisor ≤ max_result → least ≤ s.cells → Over s M d
over s M e b l p c = record { divides = e; divisor = rw e (l, omega (arith, p, mul-le-mul_right s.divisor b.0)); bound = b; product = rw e p; some = c }

pub series_over : (p : Plan) {M N d : ℕ} → AllowedLength (stages_of p) M N → d ≡ plan_divisor (stages_of p) → Over (series_of (stages_of p) N) M d
series_over p {M} {N} ok e = over (series_of (stages_of p) N) M (e ∙ accepted_divisor (stages_of p) (length_accepted ok)) ok.bound (divisor_allowed (stages_of p) ok.plan.stages) ok.product ok.count.0

pub picture_over : (p q : Plan) {M W H d c : ℕ} → AllowedSides (stages_of p) (stages_of q) M W H → d ≡ plan_divisor (stages_of p) → c ≡ plan_divisor (stages_of q) → Over (picture_of (stages_of p) (stages_of q) W H) M (d * c)
picture_over p q {M} {W} {H} ok e f =
    let (h, v) = sides_accepted ok in
    over (picture_of (stages_of p) (stages_of q) W H) M (ap₂ ◌*◌ (e ∙ accepted_divisor (stages_of p) h) (f ∙ accepted_divisor (stages_of q) v)) ok.bound
    (one-le-mul (divisor_allowed (stages_of p) ok.across.stages) (divisor_allowed (stages_of q) ok.down.stages)) ok.product (one-le-mul ok.width.0 ok.height.0)

module _ (s : Shape) {M d : ℕ} (r : List ℤ) (n : ℕ) (o : Over s M d) (e : plain 0 ≡ first_of (output_rows s M r n)) where
  lent : Lent s M r n
  lent = (output_lent s M r n (number_zero e refl)).1

  pub over_passed : Passed s r n r d
  over_passed = record { results = refl; divides = o.divides; some = rw lent.count o.some; cells = lent.cells ∙ sym lent.count }

  module _ (i : ℕ) (l : i < length r) where
    pub over_within : nat_abs (at r i) ≤ M * d
    over_within = rw o.divides (lent.results i l)

    pub over_size : nat_abs (at r i) ≤ max_bound * d
    over_size = le_trans over_within (mul-le-mul_right d o.bound.1)

    pub over_small : nat_abs (at r i) ≤ max_result
    over_small = le_trans over_within o.product

-- ---- the two ends of a call that leaves cells, with rows of its own behind those of every output
module _ {A : Type 0} (own : List Row) (g : ℤ → ℕ → A) (s : Shape) (M : ℕ) (r : List ℤ) (cells : List A) where
  pub call_refused : (e : Refusal) → refused e ≡ first_of (output_rows s M r (length cells) ++ own) → Gives (converted own g s M r cells) (refused e) cells
  unfolding converted
  call_refused e h = rw (← h) (record { answer = refl; cells = sym (if_done_refused (refused e) _ cells (refused_number e)) })

  pub call_done : plain 0 ≡ first_of (output_rows s M r (length cells) ++ own) → {d : ℕ} → d ≡ s.divisor → {left : List A} → left ≡ map (λ z. g z d) r → Gives (converted own g s M r cells) (plain 0) left
  unfolding converted
  call_done h k l = rw (← h) (record { answer = refl; cells = l ∙ rw k (sym (if_done_done (plain 0) _ cells refl)) })
