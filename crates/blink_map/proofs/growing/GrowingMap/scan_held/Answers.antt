use Rattle.std.proofs.Common.{refl, subst}
use Rattle.std.specs.Prelude.{length, take}
use Rattle.blink_live.specs.{IsReport, stop_of}
use Rattle.blink_generation.specs.declared.map.Map.{Map}
use Rattle.blink_generation.specs.{opening_of, seen_by}
use Rattle.blink_map.proofs.CallsOfSessions.{fits_below}
use Rattle.blink_map.proofs.HeldSessions.{held_again, knows_more, report_whole}
use Rattle.blink_map.proofs.growing.GrowingMap.scan_held.Goals as goal

pub invariant_of-held : goal.invariant_of-held
invariant_of-held c =
    let old = c.args.held.now in
    let same = c.scan.ensures.same in
    record { held = held_again old.slot old.seat.me old.current old.held c.scan.new.session same.saw same.same_member same.made; in_range = old.in_range; all_slots = old.all_slots }

pub returns-clause-report : goal.returns-clause-report
returns-clause-report c =
    let old = c.args.held.now in
    let session = c.scan.new.session in
    let scanned = c.scan.result in
    let entries = take scanned.filled c.scan.new.into in
    let told = subst (λ (m : Map). IsReport (opening_of m) (seen_by old.current.session) (seen_by session) c.args.lo (stop_of c.args.hi scanned.next) entries) c.deref.ensures c.scan.ensures.report in
    report_whole old.slot old.seat.me old.current old.held session _ c.requires.its_own.same_first c.args.lo (stop_of c.args.hi scanned.next) entries
    (fits_below c.args.lo c.args.hi (length c.args.into.now) scanned.filled scanned.next c.ranges.hi.fits c.scan.ensures.stopped) told

pub returns-clause-same : goal.returns-clause-same
returns-clause-same c =
    let old = c.args.held.now in
    let same = c.scan.ensures.same in
    record { same_place = record { same_table = refl; same_first = refl; same_place = refl }; knows = knows_more old.slot old.seat.me old.current old.held c.scan.new.session same.saw same.made }
