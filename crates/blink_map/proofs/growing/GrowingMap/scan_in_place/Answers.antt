use Rattle.std.proofs.Common.{Some, refl, subst}
use Rattle.std.specs.Prelude.{length, take}
use Rattle.blink_live.specs.{IsReport, stop_of}
use Rattle.blink_generation.specs.declared.map.Map.{Map}
use Rattle.blink_generation.specs.{opening_of, seen_by}
use Rattle.blink_map.proofs.CallsOfSessions.{fits_below, held_with}
use Rattle.blink_map.proofs.InPlace.{can_give_then, idle_then, its_then, not_empty, own_out, report_then}
use Rattle.blink_map.proofs.growing.GrowingMap.scan_in_place.Goals as goal

pub slot_mut-requires : goal.slot_mut-requires
slot_mut-requires c = let own = c.requires.taken in (c.requires.its_own, (Some own.taken.0, own_out c.args.slot c.args.seat.now.me own))

pub unreachable-unreachable : goal.unreachable-unreachable
unreachable-unreachable c = not_empty c.args.slot c.args.seat.now.me c.requires.taken c.slot_mut.result.now c.slot_mut.ensures.value c.in_default.is

pub scan-scanned-requires : goal.scan-scanned-requires
scan-scanned-requires c =
    record { its_own = its_then c.args.slot c.args.seat.now.me c.requires.taken c.slot_mut.result.now c.in-Some.current c.slot_mut.ensures.value c.in-Some.is c.deref.result.now c.deref.ensures }

pub give_back-requires-clause-can : goal.give_back-requires-clause-can
give_back-requires-clause-can c =
    let new = c.scan-scanned.new.session in
    record {
      held = held_with c.in-Some.current new c.in-Some.current.changes;
      there = refl;
      can = can_give_then c.args.slot c.args.seat.now.me c.requires.taken c.slot_mut.result.now c.in-Some.current c.slot_mut.ensures.value c.in-Some.is new c.scan-scanned.ensures.same;
    }

pub returns-clause-idle : goal.returns-clause-idle
returns-clause-idle c =
    idle_then c.args.slot c.args.seat.now.me c.requires.taken c.slot_mut.result.now c.in-Some.current c.slot_mut.ensures.value c.in-Some.is c.scan-scanned.new.session c.scan-scanned.ensures.same c.give_back.new.seat.me c.give_back.ensures.back

pub returns-clause-report : goal.returns-clause-report
returns-clause-report c =
    let lo = c.args.lo in
    let hi = c.args.hi in
    let scanned = c.scan-scanned.result in
    let entries = take scanned.filled c.scan-scanned.new.into in
    let told = subst (λ (m : Map). IsReport (opening_of m) (seen_by c.in-Some.current.session) (seen_by c.scan-scanned.new.session) lo (stop_of hi scanned.next) entries) c.deref.ensures c.scan-scanned.ensures.report in
    report_then c.args.slot c.args.seat.now.me c.requires.taken c.slot_mut.result.now c.in-Some.current c.slot_mut.ensures.value c.in-Some.is c.scan-scanned.new.session c.scan-scanned.ensures.same c.give_back.new.seat.me c.give_back.ensures.back _ c.requires.same_first
    lo (stop_of hi scanned.next) entries (fits_below lo hi (length c.args.into.now) scanned.filled scanned.next c.ranges.hi.fits c.scan-scanned.ensures.stopped) told
