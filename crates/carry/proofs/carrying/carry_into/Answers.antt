-- Before cell n the carry is the one before it, and the first n cells are written.
use Prim.Native.Nat.{ℕ, ◌<◌}
use mathlib.Core.Path.{◌≡◌, refl, sym, ◌∙◌, ap, ap₂}
use mathlib.Core.List.{List}
use native.Mathlib.Omega.{arith}
use borrow.Author.Rules.{rules, sfits_of}
use lib.ListN.{length}
use lib.IntN.{ℤ, pos, ◌+ℤ◌}
use mir.Syntax.{w32, w64}
use mir.Val.{SFits, to_z, of_z}
use mir.Facts.{to_z-of_z, to_z_pos}
use Rattle.meaning.specs.Extension.{at}
use Rattle.meaning.specs.Smoothing.{list_of}
use Rattle.meaning.specs.Carry.{carry, carry_cell}
use Rattle.meaning.specs.Values.{floor}
use Rattle.theory.specs.Lists.{length_list_of, at_list_of}
use Rattle.theory.specs.Fill.{fill_next, fill_done}
use Rattle.theory.specs.Carry.{carry_cell_lem, carry_none, carry_next, carry_below}
use Rattle.outputs.specs.Ready.{PutOut}
use Rattle.carry.specs.Steps.{cell_dividend, sum_fits, cell_fits}
use Rattle.carry.proofs.carrying.carry_into.Goals as goal
use Rattle.carry.proofs.carrying.carry_into.Goals.{After-floor-below, In-loop-n}

pub loop-n-init : goal.loop-n-init
loop-n-init c = (sym (carry_none c.args.quotients.divisor c.args.quotients.results.now), refl)

-- the result, its carry, and both together
module _ (c : In-loop-n) where
  abbrev d : ℕ
  d = c.args.quotients.divisor

  abbrev r : List ℤ
  r = c.args.quotients.results.now

  abbrev n : ℕ
  n = c.loop-n.n

  -- the code's
  abbrev k : ℕ
  k = c.loop-n.carry

  ready : PutOut (at r n) d
  ready = let q = c.args.quotients in let l : n < length r = omega arith in record { divisor = (q.positive, q.most); size = q.sizes n l; small = q.small n l }

  carry_fits : SFits w64 (pos k)
  carry_fits = rw c.loop-n.invariant.0 (record { sfits = omega (arith, carry_below ready.divisor.0 r n, ready.divisor.1) })

  result_is : to_z w64 (of_z w64 (at r n)) ≡ at r n
  result_is = let f : SFits w64 (at r n) = search rules in to_z-of_z {w = w64} f

  carry_is : to_z w64 k ≡ pos (carry d r n)
  carry_is = to_z_pos w64 carry_fits.sfits ∙ ap pos c.loop-n.invariant.0

  whole : to_z w64 (of_z w64 (at r n)) +ℤ to_z w64 k ≡ at r n +ℤ pos (carry d r n)
  whole = ap₂ ◌+ℤ◌ result_is carry_is

  added : SFits w64 (to_z w64 (of_z w64 (at r n)) +ℤ to_z w64 k)
  added = rw whole (sum_fits r n ready)

  sum_is : to_z w64 (of_z w64 (to_z w64 (of_z w64 (at r n)) +ℤ to_z w64 k)) ≡ at r n +ℤ pos (carry d r n)
  sum_is = to_z-of_z {w = w64} added ∙ whole

pub overflow_cast-sum : goal.overflow_cast-sum
overflow_cast-sum c = carry_fits (goal.at.overflow_cast-sum c).In-loop-n

pub overflow_add-sum : goal.overflow_add-sum
overflow_add-sum c = added (goal.at.overflow_add-sum c).In-loop-n

quotient_is : (c : After-floor-below) (b : In-loop-n) → c.floor-below.result ≡ floor (to_z w64 (of_z w64 (to_z w64 (of_z w64 (at (r b) (n b))) +ℤ to_z w64 (k b)))) (d b) → to_z w64 (of_z w64 c.floor-below.result) ≡ carry_cell (d b) (r b) (n b)
quotient_is c b e = to_z-of_z {w = w64} (sfits_of c.floor-below.type_inv) ∙ e ∙ rw (sum_is b) (sym (carry_cell_lem (d b) (r b) (n b)))

pub overflow_cast-cell : goal.overflow_cast-cell
overflow_cast-cell c =
    let b = (goal.at.overflow_cast-cell c).In-loop-n in
    rw (quotient_is (goal.at.overflow_cast-cell c).After-floor-below b c.floor-below.ensures) (cell_fits (r b) (n b) (ready b))

pub rest-carry-requires : goal.rest-carry-requires
rest-carry-requires c =
    let b = (goal.at.rest-carry-requires c).In-loop-n in
    rw (sum_is b) (record {
      dividend = cell_dividend (r b) (n b) (ready b);
      below_value = quotient_is (goal.at.rest-carry-requires c).After-floor-below b c.floor-below.ensures ∙ carry_cell_lem (d b) (r b) (n b);
    })

pub loop-n-preserved : goal.loop-n-preserved
loop-n-preserved c =
    let l = c.loop-n in
    let b = (goal.at.loop-n-preserved c).In-loop-n in
    let q = quotient_is (goal.at.loop-n-preserved c).After-floor-below b c.floor-below.ensures in
    let cells = list_of (length (r b)) (carry_cell (d b) (r b)) in (
      c.rest-carry.ensures ∙ rw (sum_is b) (sym (carry_next (d b) (r b) (n b))),
      fill_next cells l.cells (n b) l.invariant.1 _ (omega arith) (rw (length_list_of (length (r b)) (carry_cell (d b) (r b))) (omega arith)) (rw q (to_z-of_z {w = w32} (cell_fits (r b) (n b) (ready b))) ∙ sym (at_list_of (length (r b)) (carry_cell (d b) (r b)) (n b) (omega arith))),
    )

pub returns : goal.returns
returns c =
    let l = c.loop-n in
    let a = c.args.quotients in
    let r = a.results.now in
    let e : l.n ≡ length r = omega arith in
    record { value = l.invariant.0 ∙ ap (carry a.divisor r) e; cells_after = fill_done (list_of (length r) (carry_cell a.divisor r)) l.cells l.n l.invariant.1 (omega arith) (rw (length_list_of (length r) (carry_cell a.divisor r)) (omega arith)) }
