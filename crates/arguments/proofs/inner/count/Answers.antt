-- A number below 0 is refused; any other is itself.
use mathlib.Core.Path.{◌≡◌, sym, ap, ◌∙◌}
use borrow.Author.Rules.{sfits_of}
use mir.Syntax.{w64}
use mir.Val.{to_z, of_z}
use mir.Facts.{to_z-of_z}
use Rattle.std.proofs.Common.{refl, arith, ℕ, ℤ, Result, Ok, Err, SFits, pos, negsuc, nat_abs}
use Rattle.std.specs.Int.{FitsUnsignedBits}
use Rattle.std.specs.Result.{OkIff, result_unwrap_or}
use Rattle.meaning.specs.Arguments.{unsigned, refused, count_of}
use Rattle.arguments.proofs.inner.count.Goals as goal

tried : {E : Type 0} (z : ℤ) (t : Result ℕ E) → OkIff t (FitsUnsignedBits 64 z) (nat_abs z) → SFits w64 z → result_unwrap_or t refused ≡ unsigned z
unfolding unsigned
tried (pos n) (Ok x) h f = h.1
tried (negsuc n) (Ok x) h f = absurd h.0
tried (pos n) (Err e) h f = let no : ⊥ = h (omega (arith, f.sfits)) in absurd no
tried (negsuc n) (Err e) h f = refl

pub returns : goal.returns
unfolding count_of
returns c =
    let f = sfits_of c.whole.type_inv in
    let same = to_z-of_z {w = w64} f in
    c.unwrap_or.ensures ∙ tried _ c.try_from.result (rw same at c.try_from.ensures) f ∙ ap unsigned c.whole.ensures
