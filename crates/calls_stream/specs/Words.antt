-- Words read off what is left of the input.
--   Takes old new n        n is the number of the first eight bytes, high byte first, and what is left after them is new
--   TakesAll old new ns    so it is of the words ns, one after the other
--   Taken read old new i xs   i words are read one after the other, and xs is what `read` makes of each
--   Reads read old new xs  a count is read, and then as many words, of which `read` makes xs
--   plan_words p, raster_words r   the four words of a plan, the eleven of a raster
-- Laws: taken_on (words read after others); taken_more (a word more); reads_taken (a number, and then as many words).
use Rattle.std.specs.Prelude.{◌≡◌, refl, ℕ, ◌+◌, List, [], ◌∷◌, ◌++◌, length, map, Option}
use Rattle.std.proofs.Common.{sym, ◌∙◌, ap}
use Rattle.std.proofs.lemmas.List.{length-append, length-map, map-append}
use Rattle.std.specs.Int.{w64, from_be_bytes}
use Rattle.std.specs.Io.KnownBytes.{Consumes}
use Rattle.plan.specs.declared.Plan.{Plan}
use Rattle.plan.specs.declared.Raster.{Raster}

abbrev pub Takes : Option (List ℕ) → Option (List ℕ) → ℕ → Type 0
Takes old new n = (bs : List ℕ) × (length bs ≡ 8) × Consumes old new bs × (n ≡ from_be_bytes w64 bs)

abbrev pub TakesAll : Option (List ℕ) → Option (List ℕ) → List ℕ → Type 0
TakesAll old new [] = old ≡ new
TakesAll old new (n ∷ ns) = (left : Option (List ℕ)) × Takes old left n × TakesAll left new ns

abbrev pub Taken : {A : Type 0} → (ℕ → A) → Option (List ℕ) → Option (List ℕ) → ℕ → List A → Type 0
Taken read old new i xs = (ns : List ℕ) × (length ns ≡ i) × TakesAll old new ns × (xs ≡ map read ns)

abbrev pub Reads : {A : Type 0} → (ℕ → A) → Option (List ℕ) → Option (List ℕ) → List A → Type 0
Reads read old new xs = (left : Option (List ℕ)) × Takes old left (length xs) × Taken read left new (length xs) xs

abbrev pub plan_words : Plan → List ℕ
plan_words p = p.radius ∷ p.inner ∷ p.edge ∷ p.passes ∷ []

abbrev pub raster_words : Raster → List ℕ
raster_words r = plan_words r.across ++ plan_words r.down ++ r.bound ∷ r.width ∷ r.height ∷ []

pub taken_on : (a b c : Option (List ℕ)) (ns ms : List ℕ) → TakesAll a b ns → TakesAll b c ms → TakesAll a c (ns ++ ms)
taken_on a b c [] ms e h = rw e h
taken_on a b c (n ∷ ns) ms t h = (t.0, t.1, taken_on t.0 b c ns ms t.2 h)

pub taken_more : {A : Type 0} (read : ℕ → A) (a b c : Option (List ℕ)) {i n : ℕ} {xs ys : List A} → Taken read a b i xs → Takes b c n → ys ≡ xs ++ read n ∷ [] → Taken read a c (i + 1) ys
taken_more read a b c {i} {n} (ns, l, t, e) h f =
    (ns ++ n ∷ [], length-append ns (n ∷ []) ∙ ap (λ k. k + 1) l, taken_on a b c ns (n ∷ []) t (c, h, refl), f ∙ ap (λ l. l ++ read n ∷ []) e ∙ sym (map-append read ns (n ∷ [])))

pub reads_taken : {A : Type 0} (read : ℕ → A) (a b c : Option (List ℕ)) {n i : ℕ} {xs : List A} → Takes a b n → n ≡ i → Taken read b c i xs → Reads read a c xs
reads_taken read a b c {n} {i} {xs} h k (ns, l, t, e) =
    let size : length xs ≡ n = ap length e ∙ length-map ns read ∙ l ∙ sym k in
    (b, rw size h, (ns, l ∙ sym k ∙ sym size, t, e))
