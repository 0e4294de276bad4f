-- The library's words for decimals, in those of the definitions.
-- Laws: of_unsigned, of_signed (numbers of 64 bits).
use Rattle.std.specs.Prelude.{◌≡◌, [], ◌∷◌, ◌++◌, ℕ, ◌+◌, ◌%◌, ◌^◌, ◌<◌, ℤ, pos, negsuc}
use Rattle.std.specs.Int.{w64}
use Rattle.std.proofs.Common.{sym, ◌∙◌, ap, arith, Fits, SFits}
use Rattle.std.specs.Fmt.{decimal, signed_decimal}
use Rattle.std.proofs.lemmas.Fmt.{decimal_by_steps}
use Rattle.meaning.specs.Encoding as M
use Rattle.theory.specs.Encoding.{decimal_digit, decimal_next, decimal_negative}

pub of_unsigned : {n : ℕ} → Fits w64 n → decimal n ≡ M.decimal (pos n)
of_unsigned {n} f = decimal_by_steps (λ k ds. k < 10 ^ 20 → ds ≡ M.decimal (pos k)) (λ k l m. sym (decimal_digit k l)) (λ k ds l p m. ap (λ xs. xs ++ (48 + k % 10) ∷ []) (p (omega arith)) ∙ sym (decimal_next k l m)) n f.fits (omega (arith, f.fits))

pub of_signed : {z : ℤ} → SFits w64 z → signed_decimal z ≡ M.decimal z
of_signed {z = pos n} f = of_unsigned (record { fits = omega (arith, f.sfits) })
of_signed {z = negsuc n} f = ap (λ ds. 45 ∷ ds) (of_unsigned (record { fits = omega (arith, f.sfits) })) ∙ sym (decimal_negative n)
