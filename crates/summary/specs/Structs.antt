-- The code's summary, as the definitions have it.
--   done_of s              a summary that is done
--   refused_summary a      one that is refused with the answer a: plus zeros, and 0
--   summary_of r           what a call answers
--   done_summary d r       one that is done, of the results r over the divisor d
-- Laws: done_summary_lem.
use Rattle.std.specs.Prelude.{ℕ, ◌≡◌, List, ℤ, Float, Result, Ok, Err}
use Rattle.meaning.specs.Extension.{at}
use Rattle.meaning.specs.Refusals.{Answer}
use Rattle.meaning.specs.Values as meant
use Rattle.meaning.specs.Values.{ratio, plus_zero, lowest_in, highest_in}
use Rattle.plan.specs.declared.Refusal.{Refusal}
use Rattle.plan.specs.Structs.{plain, refused}
use Rattle.summary.specs.declared.Summary.{Summary}

abbrev pub done_of : Summary → meant.Summary
done_of s = record {
  answer = plain 0;
  lowest = s.lowest;
  highest = s.highest;
  lowest_at = s.lowest_at;
  highest_at = s.highest_at;
}

abbrev pub refused_summary : Answer → meant.Summary
refused_summary a = record { answer = a; lowest = plus_zero; highest = plus_zero; lowest_at = 0; highest_at = 0 }

abbrev pub summary_of : Result Summary Refusal → meant.Summary
summary_of (Ok s) = done_of s
summary_of (Err e) = refused_summary (refused e)

abbrev pub done_summary : ℕ → List ℤ → meant.Summary
done_summary d r = record { answer = plain 0; lowest = ratio (at r (lowest_in r)) d; highest = ratio (at r (highest_in r)) d; lowest_at = lowest_in r; highest_at = highest_in r }

pub done_summary_lem : (d : ℕ) (r : List ℤ) {i j : ℕ} {x y : Float} → i ≡ lowest_in r → j ≡ highest_in r → x ≡ ratio (at r i) d → y ≡ ratio (at r j) d → done_of (record { lowest = x; highest = y; lowest_at = i; highest_at = j }) ≡ done_summary d r
done_summary_lem d r p q e f = rw (e, f, p, q)
