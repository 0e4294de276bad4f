-- Cells that are each a function of another's.
-- Laws: mapped (where every answer is that of v, the cells are v of each).
use Rattle.std.specs.Prelude.{◌≡◌, refl, List, [], ◌∷◌, map}
use Rattle.std.proofs.Common.{ap₂}
use Rattle.std.specs.List.{AllZip}

pub mapped : {A B : Type 0} {R : A → B → Type 0} (v : A → B) (xs : List A) (ys : List B) → ((x : A) (y : B) → R x y → y ≡ v x) → AllZip R xs ys → ys ≡ map v xs
mapped v [] [] h a = refl
mapped v [] (y ∷ ys) h a = absurd a
mapped v (x ∷ xs) [] h a = absurd a
mapped v (x ∷ xs) (y ∷ ys) h a = ap₂ ◌∷◌ (h x y a.0) (mapped v xs ys h a.1)
