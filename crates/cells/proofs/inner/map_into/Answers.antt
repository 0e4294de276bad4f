-- Before turn i the first i cells are written.
use Rattle.std.proofs.Common.{◌≡◌, ◌+◌, ◌<◌, ℕ, List, length, get_or, set, take, arith, add-one, take-suc, take-suc-set}
use Rattle.std.specs.List.{AllZip}
use Rattle.std.proofs.lemmas.Slice.Zip.{all_zipped_more}
use Rattle.cells.proofs.inner.map_into.Goals as goal

all_zip_next : {A B : Type 0} (R : A → B → Type 0) (xs : List A) (ys : List B) (i : ℕ) (x : A) (y : B) → i < length xs → i < length ys → x ≡ get_or xs i x → AllZip R (take i xs) (take i ys) → R x y → AllZip R (take (i + 1) xs) (take (i + 1) (set ys i y))
all_zip_next R xs ys i x y l m e h r = rw (add-one i, take-suc xs i x l, take-suc-set ys i y m, ← e) (all_zipped_more R (take i xs) (take i ys) x y h r)

pub loop-i-preserved : goal.loop-i-preserved
loop-i-preserved g c = all_zip_next _ _ _ _ _ _ (omega arith) (omega arith) c.index-from-i.is c.loop-i.invariant c.f.ensures
