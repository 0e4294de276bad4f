-- One test after the other; the product of two sides that passed fits.
use Prim.Native.Nat.{◌*◌}
use borrow.Author.Tests.{lt-ltb, le-ltb}
use Rattle.meaning.specs.Limits.{max_length}
use Rattle.refusals.specs.Sides.{some_cells}
use Rattle.refusals.proofs.inner.picture_cells.Goals as goal

pub returns-then-outside : goal.returns-then-outside
unfolding some_cells
returns-then-outside c = rw (← c.outside.ensures, c.if-outside.true)

pub returns-then-outside-2 : goal.returns-then-outside-2
unfolding some_cells
returns-then-outside-2 c = rw (← c.outside.ensures, c.if-outside.false, ← c.outside-2.ensures, c.if-outside-2.true)

pub returns-then-cells-gt-MAX_LENGTH : goal.returns-then-cells-gt-MAX_LENGTH
unfolding some_cells
returns-then-cells-gt-MAX_LENGTH c =
    let a = c.args in
    rw (← c.outside.ensures, c.if-outside.false, ← c.outside-2.ensures, c.if-outside-2.false, lt-ltb max_length (a.width * a.height) c.if-cells-gt-MAX_LENGTH.true)

pub returns : goal.returns
unfolding some_cells
returns c =
    let a = c.args in
    rw (← c.outside.ensures, c.if-outside.false, ← c.outside-2.ensures, c.if-outside-2.false, le-ltb max_length (a.width * a.height) c.if-cells-gt-MAX_LENGTH.false)
