use Rattle.std.proofs.Common.{refl, subst}
use Rattle.std.specs.Prelude.{Option, Some, None, Result, Ok, Err, IfOk, IfSome}
use Rattle.blink_live.specs.{IsSnapshot}
use Rattle.blink_generation.specs.declared.map.Map.{Map}
use Rattle.blink_generation.specs.{opening_of, seen_by}
use Rattle.blink_map.proofs.HeldSessions.{held_again, knows_more, snapshot_whole}
use Rattle.blink_map.proofs.growing.GrowingMap.snapshot_held.Goals as goal

pub invariant_of-held : goal.invariant_of-held
invariant_of-held c =
    let old = c.args.held.now in
    let same = c.snapshot.ensures.same in
    record { held = held_again old.slot old.seat.me old.current old.held c.snapshot.new.session same.saw same.same_member same.made; in_range = old.in_range; all_slots = old.all_slots }

-- what the map's session has got, if it has got it, is so of the whole list
if_got : {A E : Type 0} (found : Result (Option A) E) (P Q : A → Type 0) → ((a : A) → P a → Q a) → IfOk found (λ some. IfSome some P) → IfOk found (λ some. IfSome some Q)
if_got (Ok (Some a)) P Q then was = then a was
if_got (Ok None) P Q then was = was
if_got (Err e) P Q then was = was

pub returns-clause-snapshot : goal.returns-clause-snapshot
returns-clause-snapshot c =
    let old = c.args.held.now in
    let session = c.snapshot.new.session in
    if_got c.snapshot.result _ _
    (λ entries was. snapshot_whole old.slot old.seat.me old.current old.held session _ c.requires.its_own.same_first c.args.lo c.args.hi entries.items c.ranges.hi.fits
    (subst (λ (m : Map). IsSnapshot (opening_of m) (seen_by session) c.args.lo c.args.hi entries.items) c.deref.ensures was))
    c.snapshot.ensures.snapshot

pub returns-clause-same : goal.returns-clause-same
returns-clause-same c =
    let old = c.args.held.now in
    let same = c.snapshot.ensures.same in
    record { same_place = record { same_table = refl; same_first = refl; same_place = refl }; knows = knows_more old.slot old.seat.me old.current old.held c.snapshot.new.session same.saw same.made }
