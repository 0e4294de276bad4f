-- Row 21, the row of whole output's own.
-- Laws: mode_own (it may stand behind those of every output); mode_off, off_mode (it is off exactly for modes up to the largest), mode_known, mode_other (what it answers);
-- mode_refused, refused_mode (21 is given exactly where the rows of every output answer 0 and the mode is another).
use Rattle.std.specs.Prelude.{ℕ, ◌≤◌, ◌<◌, ◌≡◌, List, [], ◌++◌, ℤ}
use Rattle.std.proofs.Common.{ap, ◌∙◌, arith, ltb-false, le-ltb, lt-ltb}
use Rattle.std.proofs.Math.Decide.{dec_lt}
use Rattle.meaning.specs.Limits.{max_mode}
use Rattle.meaning.specs.Refusals.{Answer, first_of, Shape}
use Rattle.meaning.specs.Values.{output_rows, mode_rows}
use Rattle.theory.specs.Refusals.{done, Off, first_on, off_done}
use Rattle.theory.specs.OwnRows.{Behind, own_answers, own_rest}

pub mode_own : (mode : ℕ) → Behind (mode_rows mode)
unfolding mode_rows
mode_own mode = record { rising = tt; most = 22; unplaced = tt }

pub mode_off : (mode : ℕ) → Off (mode_rows mode) → mode ≤ max_mode
unfolding mode_rows
mode_off mode h = ltb-false max_mode mode h.0

pub off_mode : (mode : ℕ) → mode ≤ max_mode → Off (mode_rows mode)
unfolding mode_rows
off_mode mode l = (le-ltb max_mode mode l, tt)

pub mode_known : (mode : ℕ) → mode ≤ max_mode → first_of (mode_rows mode) ≡ done
mode_known mode l = off_done (mode_rows mode) (off_mode mode l)

pub mode_other : (mode : ℕ) → max_mode < mode → first_of (mode_rows mode) ≡ record { number = 21; position = 0; bad = 0 }
unfolding mode_rows
mode_other mode l = first_on _ [] (lt-ltb max_mode mode l)

-- ---- behind the rows of every output
module _ (s : Shape) (M : ℕ) (r : List ℤ) (n mode : ℕ) {x : Answer} (e : x ≡ first_of (output_rows s M r n ++ mode_rows mode)) where
  pub mode_refused : x.number ≡ 21 → ((first_of (output_rows s M r n)).number ≡ 0) × (max_mode < mode)
  mode_refused h =
      let (z, f) = own_answers s M r n (mode_rows mode) (mode_own mode) e (omega arith) in
      (z, go (dec_lt max_mode mode) (ap (λ (a : Answer). a.number) f))
    where
      go : Dec (max_mode < mode) → x.number ≡ (first_of (mode_rows mode)).number → max_mode < mode
      go (yes l) f = l
      go (no l) f = let g = ap (λ (a : Answer). a.number) (mode_known mode (omega arith)) in let no : ⊥ = omega arith in absurd no

  pub refused_mode : (first_of (output_rows s M r n)).number ≡ 0 → max_mode < mode → x.number ≡ 21
  refused_mode z l = ap (λ (a : Answer). a.number) (e ∙ own_rest s M r n (mode_rows mode) z ∙ mode_other mode l)
