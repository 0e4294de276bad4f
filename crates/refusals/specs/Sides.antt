-- The cells of a picture of W columns and H rows.
--   bad_sides W H       row 7 applies, under all plans
--   some_cells W H      W times H, where row 7 does not apply
--   cells_or_0 W H   that, or 0
-- Laws: sides_product (of two sides that are allowed); cells_good (where row 7 does not apply), cells_asked (so a test of lengths by them is that of W times H), cells_test (it applies exactly where there are none).
use Rattle.std.specs.Prelude.{ℕ, ◌*◌, ◌≤◌, ◌<◌, ◌≡◌, Bool, cond, []}
use Rattle.std.specs.Prelude.{Option, Some, None, is_some, not}
use Rattle.std.specs.Option.{unwrap_or}
use Rattle.std.proofs.Math.Path.{refl}
use Rattle.std.proofs.Common.{◌∙◌, ap, mul-le-mul, arith}
use Rattle.std.proofs.Math.Bool.{true, false}
use Rattle.meaning.specs.Limits.{least, max_side}
use Rattle.meaning.specs.Refusals.{outside, picture_of}
use Rattle.theory.specs.Tests.{outside_no}

abbrev pub bad_sides : ℕ → ℕ → Bool
bad_sides W H = (picture_of [] [] W H).bad_size

unfoldable pub some_cells : ℕ → ℕ → Option ℕ
some_cells W H = cond (bad_sides W H) None (Some (W * H))

abbrev pub cells_or_0 : ℕ → ℕ → ℕ
cells_or_0 W H = unwrap_or (some_cells W H) 0

module _ (W H : ℕ) where
  pub sides_product : outside least max_side W ≡ false → outside least max_side H ≡ false → (0 < W * H) × (W * H ≤ max_side * max_side)
  sides_product w h =
      let (a, b) = outside_no least max_side W w in
      let (c, d) = outside_no least max_side H h in
      omega (arith, mul-le-mul a c, mul-le-mul b d)

  pub cells_good : bad_sides W H ≡ false → some_cells W H ≡ Some (W * H)
  unfolding some_cells
  cells_good e = rw e

  pub cells_asked : (t : ℕ → Bool) {cells : ℕ} {wrong : Bool} → cells ≡ cells_or_0 W H → wrong ≡ t cells → bad_sides W H ≡ false → wrong ≡ t (W * H)
  unfolding some_cells
  cells_asked t c e z = e ∙ ap t (c ∙ rw z)

  pub cells_test : {none : Bool} → is_some (some_cells W H) ≡ not none → none ≡ bad_sides W H
  unfolding some_cells
  cells_test {none} = go none (bad_sides W H)
    where
      go : (none bad : Bool) → is_some (cond bad None (Some (W * H))) ≡ not none → none ≡ bad
      go true true e = refl
      go true false e = e
      go false true e = e
      go false false e = refl
