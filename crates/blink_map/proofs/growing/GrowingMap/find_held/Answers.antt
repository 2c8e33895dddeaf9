use Rattle.std.proofs.Common.{refl, ap, ◌∙◌}
use Rattle.blink_batch.specs.{pointer_of}
use Rattle.blink_live.specs.{after}
use Rattle.blink_generation.specs.declared.map.Map.{Map}
use Rattle.blink_generation.specs.{opening_of, seen_by}
use Rattle.blink_map.proofs.HeldSessions.{held_again, knows_more, left_by_whole}
use Rattle.blink_map.proofs.growing.GrowingMap.find_held.Goals as goal

pub invariant_of-held : goal.invariant_of-held
invariant_of-held c =
    let old = c.args.held.now in
    let same = c.find.ensures.same in
    record { held = held_again old.slot old.seat.me old.current old.held c.find.new.session same.saw same.same_member same.made; in_range = old.in_range; all_slots = old.all_slots }

pub returns-clause-state : goal.returns-clause-state
returns-clause-state c =
    let old = c.args.held.now in
    let session = c.find.new.session in
    c.find.ensures.state ∙ (ap (λ (m : Map). after (pointer_of (opening_of m)) (seen_by session) c.args.key) c.deref.ensures
    ∙ left_by_whole old.slot old.seat.me old.current old.held session _ c.requires.its_own.same_first (seen_by session) c.args.key c.ranges.key.fits)

pub returns-clause-same : goal.returns-clause-same
returns-clause-same c =
    let old = c.args.held.now in
    let same = c.find.ensures.same in
    record { same_place = record { same_table = refl; same_first = refl; same_place = refl }; knows = knows_more old.slot old.seat.me old.current old.held c.find.new.session same.saw same.made }
