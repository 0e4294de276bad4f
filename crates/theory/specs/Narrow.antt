-- How large the numbers are that a call answers: a host has each in 32 bits, or as a double.
--   Narrow a    the number of the answer a is at most 21, its position and how many samples are bad at most as many as a series has
-- Laws: count_most, changed_most (a count is at most the length); series_cells, picture_cells_lem (how many cells a shape has);
-- narrow_smoothed, narrow_edit, narrow_point, narrow_doubles, narrow_converted, narrow_carried, narrow_summary, narrow_exact, narrow_back, narrow_planned, narrow_written (of each call's outcome);
-- narrow_count, carry_most, lowest_most, highest_most, planned_radius, planned_edge, read_most, divisor_most, plan_reach_most (what is answered besides).
use Rattle.std.specs.Prelude.{ℕ, zero, suc, ◌+◌, ◌*◌, ◌≤◌, ◌<◌, ◌≡◌, Bool, true, false, cond, ◌||◌, eqb, ltb, length, get_or, replicate, ℤ, ◌-ℤ◌, Float}
use Rattle.std.proofs.Math.Path.{refl}
use Rattle.std.proofs.Common.{sym, ap, ◌∙◌, ⊎_elim, le_refl, arith, ltb-false}
use Rattle.std.proofs.Math.Bool.{not}
use mathlib.Core.List.{List, [], ◌∷◌, ◌++◌}
use Rattle.std.proofs.Math.Decide.{ℕ_discrete}
use Rattle.std.proofs.Math.Nat.{mul-le-mul_right}
use Rattle.std.specs.Int.Signed.{lt_z}
use Rattle.std.specs.Float.{nan}
use Rattle.meaning.specs.Limits.{least, max_radius, max_inner, max_result, max_length, max_side, max_taps, max_mode}
use Rattle.meaning.specs.Extension.{at, IndexMap}
use Rattle.meaning.specs.Kernel.{Stage, reach, divisor}
use Rattle.meaning.specs.Refusals.{Answer, Row, ◌when◌, first_of, row_at, first_where, count_where, some, bad_at, outside, differs, above, Shape, series_of, picture_of, plan_rows, size_rows, common_rows, if_done, plan_divisor, plan_reach}
use Rattle.meaning.specs.Calls.{sample_row, smooth_rows, smoothed, gained, edit_room, changed, edit_rows, edit_series, point_rows, point}
use Rattle.meaning.specs.Values.{takes, double_rows, doubles_in, output_rows, converted, mode_rows, unbeaten, lowest_in, highest_in, summary}
use Rattle.meaning.specs.Carry.{carry, carried}
use Rattle.meaning.specs.Exact.{length_rows, exact_rows, results_to_doubles, back_rows, doubles_to_results}
use Rattle.meaning.specs.Planner.{stage_for, planner_rows, plan_for}
use Rattle.meaning.specs.Record.{record_of, read_record, write_rows, write_record}
use Rattle.meaning.specs.Bounds.{AcceptedPlan, AllowedStage}
use Rattle.theory.specs.Refusals.{done, Off, Unplaced, first_parts, first_alone, append_off, if_done_done, if_done_refused}
use Rattle.theory.specs.Places.{OfRow, row_at_answer}
use Rattle.theory.specs.Tests.{or_no, outside_no, differs_no, no_differs}
use Rattle.theory.specs.Accepted.{accepted_divisor, accepted_reach, no_reach, divisor_accepted, divisor_allowed}
use Rattle.theory.specs.Farthest.{reach_most}
use Rattle.theory.specs.Records.{read_refused, read_stretch}
use Rattle.theory.specs.Planner.{sigma_allowed, allowed_stage}
use Rattle.theory.specs.Placed.{placed_rows, off_placed}
use Rattle.theory.specs.Carry.{carry_below}
use Rattle.theory.specs.AcceptedEdits.{front, front_begun, edit_allowed}
use Rattle.theory.specs.AcceptedDoubles.{lent_rows}
use Rattle.theory.specs.AcceptedOutputs.{output_lent, output_bounds}

pub record Narrow (a : Answer) : Type 0 where
  pub number : a.number ≤ 21
  pub position : a.position ≤ max_length
  pub bad : a.bad ≤ max_length

-- ---- counts
one_most : (b : Bool) → cond b 1 0 ≤ 1
one_most true = le_refl 1
one_most false = omega arith

pub count_most : (N : ℕ) (t : ℕ → Bool) → count_where N t ≤ N
unfolding count_where
count_most zero t = le_refl 0
count_most (suc N) t = omega (arith, count_most N t, one_most (t N))

first_most : (N : ℕ) (t : ℕ → Bool) → first_where N t ≤ N
unfolding first_where
first_most zero t = le_refl 0
first_most (suc N) t = go (t 0) (first_most N (λ i. t (suc i)))
  where
    go : (b : Bool) → first_where N (λ i. t (suc i)) ≤ N → cond b 0 (suc (first_where N (λ i. t (suc i)))) ≤ suc N
    go true l = omega arith
    go false l = omega arith

pub changed_most : (r new : List ℤ) → changed r new ≤ length r
unfolding changed
changed_most r new = count_most (length r) _

-- ---- rows
narrow_done : Narrow done
narrow_done = record { number = omega arith; position = omega arith; bad = omega arith }

narrow_none : Narrow (first_of [])
unfolding first_of
narrow_none = narrow_done

bad_most : (n N : ℕ) (t : ℕ → Bool) → N ≤ max_length → bad_at n N t ≤ max_length
bad_most n N t l = go (eqb n 11)
  where
    go : (b : Bool) → cond b (count_where N t) 0 ≤ max_length
    go true = omega (arith, count_most N t)
    go false = omega arith

moded : (mode : ℕ) → Narrow (first_of (mode_rows mode))
unfolding mode_rows first_of
moded mode = go (ltb max_mode mode)
  where
    go : (b : Bool) → Narrow (cond b (record { number = 21; position = 0; bad = 0 }) done)
    go true = record { number = omega arith; position = omega arith; bad = omega arith }
    go false = narrow_done

-- what is answered besides is 0 where the call is refused
besides : (a : Answer) (new most : ℕ) → (a.number ≡ 0 → new ≤ most) → if_done a new 0 ≤ most
besides a new most h = go (ℕ_discrete a.number 0)
  where
    go : Dec (a.number ≡ 0) → if_done a new 0 ≤ most
    go (yes z) = rw (if_done_done a new 0 z) (h z)
    go (no e) = rw (if_done_refused a new 0 e) (omega arith)

-- a row with a position, and what stands behind it
narrow_row : (n N : ℕ) (t : ℕ → Bool) (rows : List Row) → n ≤ 21 → N ≤ max_length → Narrow (first_of rows) → {a : Answer} → a ≡ first_of (row_at n N t ∷ rows) → Narrow a
narrow_row n N t rows k l rest e = ⊎_elim
    (λ (o : OfRow n N t _). record { number = rw o.number k; position = omega (arith, o.first.within); bad = rw o.bad (bad_most n N t l) })
    (λ p. rw p.1 rest)
    (row_at_answer n N t rows e)

-- rows without one, and what stands behind them
narrow_parts : (m : ℕ) (rows more : List Row) → Unplaced m rows → m ≤ 22 → {a : Answer} → (Off rows → a ≡ first_of more → Narrow a) → a ≡ first_of (rows ++ more) → Narrow a
narrow_parts m rows more u k rest e = ⊎_elim
    (λ b. record { number = omega (arith, b.0); position = rw b.1 (omega arith); bad = rw b.2 (omega arith) })
    (λ p. rest p.0 p.1)
    (first_parts m rows more u e)

-- ---- shapes
pub series_cells : (ss : List Stage) (N : ℕ) → (series_of ss N).bad_size ≡ false → N ≤ max_length
series_cells ss N h = (outside_no least max_length N h).1

pub picture_cells_lem : (hs vs : List Stage) (W H : ℕ) → (picture_of hs vs W H).bad_size ≡ false → W * H ≤ max_length
picture_cells_lem hs vs W H h = ltb-false max_length (W * H) (or_no (outside least max_side W || outside least max_side H) _ h).1

abbrev Celled : Shape → Type 0
Celled s = s.bad_size ≡ false → s.cells ≤ max_length

-- what rows 7 and 8 leave of a slice of N cells
lent_most : (s : Shape) → Celled s → (M N : ℕ) {wrong : Bool} → (wrong ≡ false → differs N s.cells ≡ false) → Off (common_rows s M wrong) → N ≤ max_length
unfolding size_rows
lent_most s k M N same h =
    let c = (append_off (plan_rows s.plans) _ h).1 in
    omega (arith, k c.1.1.0, differs_no N s.cells (same c.1.1.1.0))

-- ---- smoothing
pub narrow_smoothed : (s : Shape) → Celled s → (M : ℕ) (new f r w : List ℤ) → Narrow (smoothed s M new f r w).answer
unfolding smoothed smooth_rows plan_rows size_rows
narrow_smoothed s k M new f r w =
    narrow_parts 9 (common_rows s M (differs (length f) s.cells || differs (length r) s.cells || differs (length w) s.cells)) _ tt (omega arith)
    (λ h. narrow_row 11 (length f) _ [] (omega arith) (lent_most s k M (length f) (λ e. (or_no (differs (length f) s.cells) _ (or_no (differs (length f) s.cells || differs (length r) s.cells) _ e).0).0) h) narrow_none) refl

-- ---- an edit
module _ (φ : IndexMap) (ss : List Stage) (M p : ℕ) (v : ℤ) (f r w : List ℤ) where
  pub narrow_edit : Narrow (edit_series φ ss M p v f r w).answer
  unfolding edit_series edit_rows plan_rows size_rows
  narrow_edit =
      narrow_parts 11 (front ss M p v f (length r) (length w)) _ tt (omega arith)
      (λ h. let ok = front_begun ss M p v f (length r) (length w) h in
      narrow_row 11 (length f) _ _ (omega arith) ok.common.count.1 (narrow_row 12 (length r) _ [] (omega arith) (omega (arith, ok.common.count.1, ok.results)) narrow_none refl)) refl

  pub narrow_count : (edit_series φ ss M p v f r w).count ≤ max_length
  unfolding edit_series
  narrow_count =
      let new = gained φ ss p (v -ℤ at f p) r in
      besides _ (changed r new) max_length (λ z. let ok = edit_allowed φ ss M p v f r (length w) z in omega (arith, changed_most r new, ok.results, ok.common.count.1))

-- ---- a point
pub narrow_point : (φ : IndexMap) (ss : List Stage) (M n : ℕ) (f w : List ℤ) → Narrow (point φ ss M n f w).answer
unfolding point point_rows plan_rows size_rows
narrow_point φ ss M n f w =
    narrow_parts 10 (placed_rows ss M (length f) (differs (length w) (edit_room ss (length f))) n) _ tt (omega arith)
    (λ h. narrow_row 11 (length f) _ [] (omega arith) (off_placed ss M (length f) _ n h).0.count.1 narrow_none) refl

-- ---- conversions of doubles
pub narrow_doubles : (M : ℕ) (xs : List Float) (f : List ℤ) → Narrow (doubles_in M xs f).answer
unfolding doubles_in double_rows
narrow_doubles M xs f =
    narrow_parts 9 (lent_rows M (length xs) (length f)) _ tt (omega arith)
    (λ h. narrow_row 11 (length xs) _ [] (omega arith) (outside_no least max_length (length xs) h.1.0).1 narrow_none) refl

pub narrow_exact : (r : List ℤ) (cells : List Float) → Narrow (results_to_doubles r cells).answer
unfolding results_to_doubles exact_rows length_rows
narrow_exact r cells =
    narrow_parts 9 (length_rows (length r) (length cells)) _ tt (omega arith)
    (λ h. narrow_row 12 (length r) _ [] (omega arith) (outside_no least max_length (length r) h.0).1 narrow_none) refl

pub narrow_back : (xs : List Float) (r : List ℤ) → Narrow (doubles_to_results xs r).answer
unfolding doubles_to_results back_rows length_rows
narrow_back xs r =
    narrow_parts 9 (length_rows (length xs) (length r)) _ tt (omega arith)
    (λ h. narrow_row 11 (length xs) _ [] (omega arith) (outside_no least max_length (length xs) h.0).1 narrow_none) refl

-- ---- outputs
module _ (s : Shape) (k : Celled s) (M : ℕ) (r : List ℤ) (n : ℕ) where
  narrow_output : (own : List Row) → Narrow (first_of own) → Narrow (first_of (output_rows s M r n ++ own))
  unfolding output_rows plan_rows size_rows
  narrow_output own rest =
      narrow_parts 9 (common_rows s M (differs (length r) s.cells || differs n s.cells)) _ tt (omega arith)
      (λ h. narrow_row 12 (length r) _ own (omega arith) (lent_most s k M (length r) (λ e. (or_no (differs (length r) s.cells) _ e).0) h) rest) refl

  narrow_alone : Narrow (first_of (output_rows s M r n))
  unfolding output_rows plan_rows size_rows
  narrow_alone = narrow_output [] narrow_none

  output_most : (first_of (output_rows s M r n)).number ≡ 0 → length r ≤ max_length
  output_most z = let (h, l) = output_lent s M r n z in lent_most s k M (length r) (λ e. no_differs l.count) h

module _ {A : Type 0} (s : Shape) (k : Celled s) (M : ℕ) (r : List ℤ) (cells : List A) where
  pub narrow_converted : (g : ℤ → ℕ → A) → Narrow (converted [] g s M r cells).answer
  unfolding converted
  narrow_converted g = narrow_output s k M r (length cells) [] narrow_none

  pub narrow_mode : (mode : ℕ) (g : ℤ → ℕ → A) → Narrow (converted (mode_rows mode) g s M r cells).answer
  unfolding converted
  narrow_mode mode g = narrow_output s k M r (length cells) (mode_rows mode) (moded mode)

module _ (s : Shape) (k : Celled s) (M : ℕ) (r : List ℤ) where
  pub narrow_carried : (cells : List ℤ) → Narrow (carried s M r cells).answer
  unfolding carried
  narrow_carried cells = narrow_alone s k M r (length cells)

  pub narrow_summary : Narrow (summary s M r).answer
  unfolding summary
  narrow_summary = narrow_alone s k M r (length r)

  pub lowest_most : (summary s M r).lowest_at ≤ max_length
  unfolding summary unbeaten
  lowest_most = besides _ (lowest_in r) max_length (λ z. omega (arith, first_most (length r) (λ i. not (some (λ z. lt_z z (at r i)) r)), output_most s k M r (length r) z))

  pub highest_most : (summary s M r).highest_at ≤ max_length
  unfolding summary unbeaten
  highest_most = besides _ (highest_in r) max_length (λ z. omega (arith, first_most (length r) (λ i. not (some (λ z. lt_z (at r i) z) r)), output_most s k M r (length r) z))

  -- the divisor is above 0
  pub carry_most : (cells : List ℤ) → ((first_of (output_rows s M r (length cells))).number ≡ 0 → 0 < s.divisor) → (carried s M r cells).carry ≤ max_result
  unfolding carried
  carry_most cells d = besides _ (carry s.divisor r (length r)) max_result (λ z. omega (arith, carry_below (d z) r (length r), (output_bounds s M r (length cells) z).1, mul-le-mul_right s.divisor (output_bounds s M r (length cells) z).0.0))

-- ---- the planner
unplaced_narrow : (rows : List Row) → Unplaced 22 rows → Narrow (first_of rows)
unplaced_narrow rows u = narrow_parts 22 rows [] u (le_refl 22) (λ h e. rw e narrow_none) (first_alone rows refl)

module _ (s K b : ℕ) where
  pub narrow_planned : Narrow (plan_for s K b).answer
  unfolding plan_for planner_rows
  narrow_planned = unplaced_narrow (planner_rows s K b) tt

  pub planned_radius : (plan_for s K b).radius ≤ max_radius
  unfolding plan_for
  planned_radius = besides _ _ max_radius (λ z. (allowed_stage s K b (sigma_allowed s K b z)).radius)

  pub planned_edge : (plan_for s K b).edge ≤ max_inner
  unfolding plan_for
  planned_edge = besides _ _ max_inner (λ z. let ok = allowed_stage s K b (sigma_allowed s K b z) in omega (arith, ok.edge, ok.inner.1))

-- ---- the record
pub narrow_written : (r b a K M : ℕ) (f : List ℤ) (old : List ℕ) → Narrow (write_record r b a K M f old).answer
unfolding write_record
narrow_written r b a K M f old = unplaced_narrow (write_rows (length f) (length old) (length (record_of r b a K M f))) tt

pub read_most : (s : List ℕ) → ((read_record s).answer.number ≤ 21) × ((read_record s).start ≤ 27) × ((read_record s).size ≤ 4099)
read_most s = go (ℕ_discrete (read_record s).answer.number 0)
  where
    go : Dec ((read_record s).answer.number ≡ 0) → ((read_record s).answer.number ≤ 21) × ((read_record s).start ≤ 27) × ((read_record s).size ≤ 4099)
    go (yes z) = let h = read_stretch s z in (omega arith, h.early, omega (arith, h.few))
    go (no e) = rw (read_refused s e) (omega arith, omega arith, omega arith)

-- ---- a plan's own numbers
pub divisor_most : (ss : List Stage) → plan_divisor ss ≤ max_result
divisor_most ss = go (ℕ_discrete (plan_divisor ss) 0)
  where
    go : Dec (plan_divisor ss ≡ 0) → plan_divisor ss ≤ max_result
    go (yes z) = rw z (omega arith)
    go (no n) = let ok = divisor_accepted ss n in rw (accepted_divisor ss ok) ok.divides

pub plan_reach_most : (K : ℕ) (s : Stage) → plan_reach (replicate K s) ≤ max_taps
plan_reach_most K s = go (ℕ_discrete (plan_divisor (replicate K s)) 0)
  where
    go : Dec (plan_divisor (replicate K s) ≡ 0) → plan_reach (replicate K s) ≤ max_taps
    go (yes z) = rw (no_reach (replicate K s) (λ ok. omega (arith, accepted_divisor (replicate K s) ok, divisor_allowed (replicate K s) ok.plan.stages))) (omega arith)
    go (no n) = let ok = divisor_accepted (replicate K s) n in rw (accepted_reach (replicate K s) ok) (omega (arith, reach_most K s ok))
