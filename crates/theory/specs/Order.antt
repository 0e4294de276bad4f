-- The order of stages does not matter.
--   Reordered ss ts   ts has the stages of ss, in some order
-- Laws: append_order (which of two lists comes first), kernel_order.
use Rattle.std.specs.Prelude.{◌≡◌, refl, List, [], ◌∷◌, ◌++◌, ℤ}
use Rattle.std.proofs.Common.{sym, ◌∙◌, ap, append-nil}
use Rattle.meaning.specs.Kernel.{Stage, kernel, pass_at}
use Rattle.meaning.specs.Smoothing.{convolved}
use Rattle.theory.specs.Convolution.{pass_at_ext, pass_at_swap, convolved_cons, kernel_append}

pub data Reordered : List Stage → List Stage → Type 0 where
  empty : Reordered [] []
  keep : (s : Stage) {ss ts : List Stage} → Reordered ss ts → Reordered (s ∷ ss) (s ∷ ts)
  swap : (s t : Stage) (ss : List Stage) → Reordered (s ∷ t ∷ ss) (t ∷ s ∷ ss)
  then : {ss ts us : List Stage} → Reordered ss ts → Reordered ts us → Reordered ss us

reordered : (ss : List Stage) → Reordered ss ss
reordered [] = empty
reordered (s ∷ ss) = keep s (reordered ss)

sink : (s : Stage) (ts ss : List Stage) → Reordered (s ∷ (ts ++ ss)) (ts ++ (s ∷ ss))
sink s [] ss = reordered (s ∷ ss)
sink s (t ∷ ts) ss = then (swap s t (ts ++ ss)) (keep t (sink s ts ss))

pub append_order : (ss ts : List Stage) → Reordered (ss ++ ts) (ts ++ ss)
append_order [] ts = rw (append-nil ts) (reordered ts)
append_order (s ∷ ss) ts = then (keep s (append_order ss ts)) (sink s ts ss)

convolved_order : {ss ts : List Stage} → Reordered ss ts → (e : ℤ → ℤ) (n : ℤ) → convolved ss e n ≡ convolved ts e n
convolved_order empty e n = refl
convolved_order {ss = _ ∷ ss} {ts = _ ∷ ts} (keep s o) e n = convolved_cons s ss e n ∙ pass_at_ext s (convolved_order o e) n ∙ sym (convolved_cons s ts e n)
convolved_order (swap s t ss) e n = two s t ∙ pass_at_swap s t (convolved ss e) n ∙ sym (two t s)
  where
    two : (s t : Stage) → convolved (s ∷ t ∷ ss) e n ≡ pass_at s (pass_at t (convolved ss e)) n
    two s t = convolved_cons s (t ∷ ss) e n ∙ pass_at_ext s (convolved_cons t ss e) n
convolved_order (then o q) e n = convolved_order o e n ∙ convolved_order q e n

pub kernel_order : {ss ts : List Stage} → Reordered ss ts → (m : ℤ) → kernel ss m ≡ kernel ts m
kernel_order {ss} {ts} o m = alone ss ∙ convolved_order o (kernel []) m ∙ sym (alone ts)
  where
    alone : (ss : List Stage) → kernel ss m ≡ convolved ss (kernel []) m
    alone ss = ap (λ l. kernel l m) (sym (append-nil ss)) ∙ kernel_append ss [] m
