-- The bytes stand where the copy was made, and the rest behind them.
use borrow.Rule.Slice.PartMut.{put_mid, post_of}
use Rattle.std.proofs.Common.{◌≡◌, List, ◌++◌, ℕ, ◌+◌, ◌-◌, ◌≤◌, length, take, drop, arith, refl, sym, ◌∙◌, ap, drop-drop, drop_at, length-take-le, length-drop}
use Rattle.std.proofs.lemmas.Grind.{common_steps}
use Rattle.encoding.proofs.inner.cursor.Cursor.put_bytes.Goals as goal

stays : (s xs : List ℕ) (at : ℕ) → at + length xs ≤ length s → drop (at + length xs) (put_mid at (at + length xs - at) s xs) ≡ drop (length xs) (drop at s)
stays s xs at h =
    let count : at + length xs - at ≡ length xs = omega arith in
    let after = post_of at (length xs) s in
    rw count (sym (drop-drop (length xs) at (take at s ++ (xs ++ after)))
    ∙ ap (drop (length xs)) (drop_at (take at s) (xs ++ after) at (length-take-le at s (omega arith)))
    ∙ drop_at xs after (length xs) refl)

pub returns : goal.returns
returns c =
    let a = c.args.self.now in
    let copied = c.copy_from_slice.ensures.after in
    record {
      written = grind (arith, common_steps);
      rest = rw (← copied) (stays a.out.now c.copy_from_slice.new.self a.at (omega (arith, ap length copied, c.requires.room, length-drop a.at a.out.now, a.within)));
      slice = refl;
    }
