-- What the steps of smoothing a picture of W columns and H rows ask.
--   Ready p q W H f nd no    all that is left to test: the bounds hold under some bound on the samples, with nd and no cells to write
--   after k p q W H f        the samples f after all passes of p across and k passes of q down
use Rattle.std.specs.Prelude.{ℕ, List, replicate, ℤ}
use Rattle.meaning.specs.Extension.{fold}
use Rattle.meaning.specs.Smoothing.{results}
use Rattle.meaning.specs.Picture.{across, down}
use Rattle.meaning.specs.Bounds.{AllowedPicture}
use Rattle.plan.specs.declared.Plan.{Plan}
use Rattle.plan.specs.Structs.{stage_of, stages_of}

pub record Ready (p q : Plan) (W H : ℕ) (f : List ℤ) (nd no : ℕ) : Type 0 where
  pub bound : ℕ
  pub allowed : AllowedPicture (stages_of p) (stages_of q) bound W H f nd no

abbrev pub after : ℕ → Plan → Plan → ℕ → ℕ → List ℤ → List ℤ
after k p q W H f = down (results fold (replicate k (stage_of q))) W H (across (results fold (stages_of p)) W H f)
