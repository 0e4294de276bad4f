-- What the steps of a smoothing ask.
--   after k p f        the samples f after k passes of p
--   Ready p f nd no    all that is left to test: the bounds hold under some bound on the samples, with nd and no cells to write
use Rattle.std.specs.Prelude.{ℕ, List, replicate, ℤ}
use Rattle.meaning.specs.Extension.{fold}
use Rattle.meaning.specs.Smoothing.{results}
use Rattle.meaning.specs.Bounds.{AllowedSeries}
use Rattle.plan.specs.declared.Plan.{Plan}
use Rattle.plan.specs.Structs.{stage_of, stages_of}

abbrev pub after : ℕ → Plan → List ℤ → List ℤ
after k p f = results fold (replicate k (stage_of p)) f

pub record Ready (p : Plan) (f : List ℤ) (nd no : ℕ) : Type 0 where
  pub bound : ℕ
  pub allowed : AllowedSeries (stages_of p) bound f nd no
