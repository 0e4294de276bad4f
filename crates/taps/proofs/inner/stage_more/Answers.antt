-- Before tap n, w is the window around n and lo the tap before it; the first n taps are those of one stage more.
use Prim.Native.Nat.{◌+◌}
use mathlib.Core.Path.{refl}
use native.Mathlib.Omega.{arith}
use lib.ListN.{length-set}
use borrow.Author.Rules.{rules}
use Rattle.std.proofs.lemmas.Int.{to_z-of_z}
use Rattle.theory.specs.Fill.{fill_done}
use Rattle.pass.specs.Turn.{windowed}
use Rattle.taps.specs.Taps.{mirrored_apart, length_staged, stage_cell, stage_slide, stage_low, stage_slid, stage_written}
use Rattle.taps.proofs.inner.stage_more.Goals as goal

pub first_window-w-requires : goal.first_window-w-requires
first_window-w-requires c = windowed c.requires.room

pub loop-n-init : goal.loop-n-init
loop-n-init c =
    let r = c.args.plan.radius in
    let p = mirrored_apart c.args.src.now 0 (r + 1) {i = r + 1} (omega arith) in
    (search rules, grind (arith, to_z-of_z), grind (arith, to_z-of_z), refl)

pub weigh-requires-clause-fits : goal.weigh-requires-clause-fits
weigh-requires-clause-fits c =
    let i = c.loop-n.invariant in
    let p = stage_cell _ c.requires i.1 i.2 refl in
    grind (arith, to_z-of_z)

pub slide-w-requires : goal.slide-w-requires
slide-w-requires c =
    let i = c.loop-n.invariant in
    let p = stage_slide _ c.requires i.1 i.2 refl in
    grind (arith, to_z-of_z)

pub loop-n-preserved : goal.loop-n-preserved
loop-n-preserved c =
    let i = c.loop-n.invariant in
    let w = stage_slid _ c.requires i.1 i.2 refl in
    let l = stage_low _ c.requires i.1 i.2 refl in
    let t = stage_written _ c.requires i.1 i.2 refl _ i.0 (omega arith) i.3 in
    (simp length-set i.0, grind (arith, to_z-of_z), grind (arith, to_z-of_z), grind (arith, to_z-of_z))

pub returns : goal.returns
returns c =
    let l = c.loop-n in
    fill_done _ l.dst l.n l.invariant.3 (omega arith) (rw length_staged (omega arith))
