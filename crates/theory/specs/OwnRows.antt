-- The rows of an output with rows of the call's own behind them.
--   Behind own   their numbers rise from above 12 and stay below `most`, and none has a position or a bad sample
-- Laws: none_own (no rows are such); own_rising, own_numbered; own_position (at 12), own_no_position (else);
-- own_answers (a number above 12 is of its own rows), own_done (at 0 the first part answers 0, and no row of its own applies), own_rest (where the first part answers 0, its own rows answer).
use Rattle.std.specs.Prelude.{ℕ, ◌*◌, ◌<◌, ◌≡◌, refl, List, [], ◌++◌, length, ℤ, nat_abs}
use Rattle.std.proofs.Common.{sym, ap, ◌∙◌, ⊎_elim, arith}
use Rattle.meaning.specs.Extension.{at}
use Rattle.meaning.specs.Refusals.{Answer, Row, first_of, row_at, Shape, plan_rows, size_rows}
use Rattle.meaning.specs.Values.{output_rows}
use Rattle.meaning.specs.Bounds.{FirstAt}
use Rattle.theory.specs.Refusals.{Off, Numbered, Rising, RisingFrom, Unplaced, number_zero, done_off, off_done, append_off, done_rest, first_either, first_above, first_unplaced, rising_numbered}
use Rattle.theory.specs.AcceptedOutputs.{output_numbered, output_position, output_below, output_no_position}

pub record Behind (own : List Row) : Type 0 where
  pub rising : RisingFrom 12 own
  pub most : ℕ
  pub unplaced : Unplaced most own

pub none_own : Behind []
none_own = record { rising = tt; most = 0; unplaced = tt }

module _ (s : Shape) (M : ℕ) (r : List ℤ) (n : ℕ) (own : List Row) where
  abbrev first : List Row
  first = output_rows s M r n

  module _ (k : Behind own) where
    pub own_rising : Rising (first ++ own)
    unfolding output_rows plan_rows size_rows row_at
    own_rising = k.rising

    pub own_numbered : Numbered (first ++ own)
    unfolding output_rows plan_rows size_rows row_at
    own_numbered = rising_numbered 12 own k.rising

    module _ {x : Answer} (e : x ≡ first_of (first ++ own)) where
      pub own_position : x.number ≡ 12 → FirstAt (length r) (λ i. M * s.divisor < nat_abs (at r i)) x.position
      own_position h = ⊎_elim
          (λ f. output_position s M r n f h)
          (λ p. let f = ap (λ (a : Answer). a.number) p.1 in let no : ⊥ = omega (arith, first_above 12 own k.rising (omega arith)) in absurd no)
          (first_either first own (output_numbered s M r n) e)

      pub own_no_position : (x.number ≡ 12 → ⊥) → x.position ≡ 0
      own_no_position h = ⊎_elim
          (λ f. output_no_position s M r n f h)
          (λ p. ap (λ (a : Answer). a.position) p.1 ∙ first_unplaced k.most own k.unplaced)
          (first_either first own (output_numbered s M r n) e)

      -- a number that none of the first part has
      pub own_answers : 12 < x.number → ((first_of first).number ≡ 0) × (x ≡ first_of own)
      own_answers l = ⊎_elim
          (λ f. let no : ⊥ = omega (arith, output_below s M r n f (λ h. omega arith)) in absurd no)
          (λ p. (ap (λ (a : Answer). a.number) (off_done first p.0), p.1))
          (first_either first own (output_numbered s M r n) e)

      pub own_done : x.number ≡ 0 → ((first_of first).number ≡ 0) × Off own
      own_done z =
          let (a, b) = append_off first own (done_off (first ++ own) own_numbered (number_zero e z)) in
          (ap (λ (x : Answer). x.number) (off_done first a), b)

  pub own_rest : (first_of first).number ≡ 0 → first_of (first ++ own) ≡ first_of own
  own_rest z = sym (done_rest first own (output_numbered s M r n) refl z refl)
