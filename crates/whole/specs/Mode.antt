-- The mode of whole output.
--   mode_of r      its number
--   Reads mode r   r is what the number `mode` says
use Rattle.std.specs.Prelude.{ℕ, ◌≡◌, Result, IfOk}
use Rattle.meaning.specs.Refusals.{first_of}
use Rattle.meaning.specs.Values.{mode_rows}
use Rattle.plan.specs.declared.Refusal.{Refusal}
use Rattle.plan.specs.Structs.{answer_of}
use Rattle.whole.specs.declared.mode.Rounding.{Rounding}
use Rattle.whole.specs.declared.mode.Rounding.TheVariants.{Even, Upward}

abbrev pub mode_of : Rounding → ℕ
mode_of Even = 0
mode_of Upward = 1

pub record Reads (mode : ℕ) (r : Result Rounding Refusal) : Type 0 where
  pub answer : answer_of r ≡ first_of (mode_rows mode)
  pub same : IfOk r (λ m. mode_of m ≡ mode)
