-- Bytes put into a slice, one stretch behind the other.
--   written c, rest c            what a cursor has written, and what stands behind that in its slice
--   Wrote old xs new             a cursor goes on from old to new: it writes xs, and the rest of its slice stays
--   Room c xs                    it has room for xs
--   Appended old at xs new end   new is old up to at, then xs, and end is the place behind it; what stands from there on is not said
-- Laws: append_none, append_then (one stretch behind the other), append_all (where nothing is left); room_first, room_rest (of what is put as two stretches).
use Rattle.std.specs.Prelude.{◌≡◌, refl, List, [], ◌++◌, ℕ, ◌+◌, ◌≤◌, length, take, drop}
use Rattle.std.proofs.Common.{sym, ◌∙◌, ap, append_assoc, append-nil, arith, length-append, length-drop, drop-drop, take-append-drop, drop_of_length-le}
use Rattle.encoding.specs.declared.inner.cursor.Cursor.{Cursor}

abbrev pub written : Cursor → List ℕ
written c = take c.at c.out.now

abbrev pub rest : Cursor → List ℕ
rest c = drop c.at c.out.now

pub record Wrote (old : Cursor) (xs : List ℕ) (new : Cursor) : Type 0 where
  pub written : written new ≡ written old ++ xs
  pub rest : rest new ≡ drop (length xs) (rest old)
  pub slice : new.out.ghost_name ≡ old.out.ghost_name

pub record Room (c : Cursor) (xs : List ℕ) : Type 0 where
  pub room : length xs ≤ length (rest c)

pub record Appended (old : List ℕ) (at : ℕ) (xs : List ℕ) (new : List ℕ) (end : ℕ) : Type 0 where
  pub behind : end ≡ at + length xs
  pub front : take end new ≡ take at old ++ xs

pub append_none : {c : Cursor} {xs : List ℕ} → xs ≡ [] → Wrote c xs c
append_none {c} e = rw e (record { written = sym (append-nil (written c)); rest = refl; slice = refl })

pub append_then : {a b c : Cursor} {xs ys zs : List ℕ} → zs ≡ xs ++ ys → Wrote a xs b → Wrote b ys c → Wrote a zs c
append_then {a} {b} {c} {xs} {ys} i p q = rw i (record {
  written = q.written ∙ ap (λ l. l ++ ys) p.written ∙ append_assoc (written a) xs ys;
  rest = q.rest ∙ ap (drop (length ys)) p.rest ∙ drop-drop (length ys) (length xs) (rest a) ∙ ap (λ n. drop n (rest a)) (sym (length-append xs ys));
  slice = q.slice ∙ p.slice;
})

pub append_all : {a c : Cursor} {xs : List ℕ} → Wrote a xs c → written a ≡ [] → length (rest a) ≡ length xs → c.out.now ≡ xs
append_all {a} {c} {xs} p e h =
    let none : rest c ≡ [] = p.rest ∙ drop_of_length-le (rest a) {i = length xs} (omega arith) in
    sym (take-append-drop c.at c.out.now) ∙ ap (λ l. written c ++ l) none ∙ append-nil (written c) ∙ p.written ∙ ap (λ l. l ++ xs) e

pub room_first : (xs ys : List ℕ) {zs : List ℕ} {c : Cursor} → zs ≡ xs ++ ys → Room c zs → Room c xs
room_first xs ys i h = record { room = omega (arith, length-append xs ys, ap length i, h.room) }

pub room_rest : (ys : List ℕ) {a b : Cursor} {xs zs : List ℕ} → zs ≡ xs ++ ys → Room a zs → Wrote a xs b → Room b ys
room_rest ys {a} {xs = xs} i h p = record { room = omega (arith, length-append xs ys, ap length i, h.room, ap length p.rest, length-drop (length xs) (rest a)) }
