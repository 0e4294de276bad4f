-- Either is the first that none beats, and its result, which no test lets be too large.
use Rattle.std.proofs.Common.{rules, arith, ◌≡◌, ◌≤◌, ◌<◌, ℕ, ℤ, Bool, List, length, nat_abs, to_z, of_z}
use Rattle.std.specs.Int.{w64}
use Rattle.std.specs.Int.Signed.{lt_z}
use Rattle.meaning.specs.Limits.{max_result}
use Rattle.meaning.specs.Extension.{at}
use Rattle.meaning.specs.Values.{unbeaten}
use Rattle.theory.specs.Extremes.{Beating, beating_lower, beating_higher, unbeaten_best}
use Rattle.summary.specs.Structs.{done_summary_lem}
use Rattle.summary.proofs.extremes.summary.Goals as goal

small : {beats : ℤ → ℤ → Bool} → Beating beats → (r : List ℤ) {i : ℕ} {z : ℤ} → 0 < length r → ((j : ℕ) → j < length r → nat_abs (at r j) ≤ max_result) → i ≡ unbeaten beats r → z ≡ at r i → nat_abs z ≤ max_result
small o r l h e f = rw (f, e) (h _ (unbeaten_best o r l).within)

pub ratio-requires-clause-res_bound : goal.ratio-requires-clause-res_bound
ratio-requires-clause-res_bound c =
    let r = c.args.quotients.results.now in
    let low = c.first-lowest_at.ensures lt_z beating_lower (λ x y r h. search rules) in
    let bits : to_z w64 (of_z w64 c.first-lowest_at.result.1) ≡ c.first-lowest_at.result.1 = search rules in
    rw bits (small beating_lower r (omega (arith, c.requires)) c.args.quotients.small low.0 low.1)

pub ratio-requires-2-clause-res_bound : goal.ratio-requires-2-clause-res_bound
ratio-requires-2-clause-res_bound c =
    let r = c.args.quotients.results.now in
    let high = c.first-highest_at.ensures (λ x y. lt_z y x) beating_higher (λ x y r h. search rules) in
    let bits : to_z w64 (of_z w64 c.first-highest_at.result.1) ≡ c.first-highest_at.result.1 = search rules in
    rw bits (small beating_higher r (omega (arith, c.requires)) c.args.quotients.small high.0 high.1)

pub returns : goal.returns
returns c =
    let low = c.first-lowest_at.ensures lt_z beating_lower (λ x y r h. search rules) in
    let high = c.first-highest_at.ensures (λ x y. lt_z y x) beating_higher (λ x y r h. search rules) in
    done_summary_lem _ _ low.0 high.0 (rw (← low.1) (search rules)) (rw (← high.1) (search rules))
