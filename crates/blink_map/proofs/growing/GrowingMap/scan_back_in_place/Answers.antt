use Rattle.std.proofs.Common.{Some, refl, subst}
use Rattle.std.specs.Prelude.{take}
use Rattle.blink_live.specs.{IsReportBack, start_of}
use Rattle.blink_generation.specs.declared.map.Map.{Map}
use Rattle.blink_generation.specs.{opening_of, seen_by}
use Rattle.blink_map.proofs.CallsOfSessions.{held_with}
use Rattle.blink_map.proofs.InPlace.{can_give_then, idle_then, its_then, not_empty, own_out, report_back_then}
use Rattle.blink_map.proofs.growing.GrowingMap.scan_back_in_place.Goals as goal

pub slot_mut-requires : goal.slot_mut-requires
slot_mut-requires c = let own = c.requires.taken in (c.requires.its_own, (Some own.taken.0, own_out c.args.slot c.args.seat.now.me own))

pub unreachable-unreachable : goal.unreachable-unreachable
unreachable-unreachable c = not_empty c.args.slot c.args.seat.now.me c.requires.taken c.slot_mut.result.now c.slot_mut.ensures.value c.in_default.is

pub scan_back-scanned-requires : goal.scan_back-scanned-requires
scan_back-scanned-requires c =
    record { its_own = its_then c.args.slot c.args.seat.now.me c.requires.taken c.slot_mut.result.now c.in-Some.current c.slot_mut.ensures.value c.in-Some.is c.deref.result.now c.deref.ensures }

pub give_back-requires-clause-can : goal.give_back-requires-clause-can
give_back-requires-clause-can c =
    let new = c.scan_back-scanned.new.session in
    record {
      held = held_with c.in-Some.current new c.in-Some.current.changes;
      there = refl;
      can = can_give_then c.args.slot c.args.seat.now.me c.requires.taken c.slot_mut.result.now c.in-Some.current c.slot_mut.ensures.value c.in-Some.is new c.scan_back-scanned.ensures.same;
    }

pub returns-clause-idle : goal.returns-clause-idle
returns-clause-idle c =
    idle_then c.args.slot c.args.seat.now.me c.requires.taken c.slot_mut.result.now c.in-Some.current c.slot_mut.ensures.value c.in-Some.is c.scan_back-scanned.new.session c.scan_back-scanned.ensures.same c.give_back.new.seat.me c.give_back.ensures.back

pub returns-clause-report : goal.returns-clause-report
returns-clause-report c =
    let lo = c.args.lo in
    let hi = c.args.hi in
    let scanned = c.scan_back-scanned.result in
    let entries = take scanned.filled c.scan_back-scanned.new.into in
    let told = subst (λ (m : Map). IsReportBack (opening_of m) (seen_by c.in-Some.current.session) (seen_by c.scan_back-scanned.new.session) (start_of lo scanned.next) hi entries) c.deref.ensures c.scan_back-scanned.ensures.report in
    report_back_then c.args.slot c.args.seat.now.me c.requires.taken c.slot_mut.result.now c.in-Some.current c.slot_mut.ensures.value c.in-Some.is c.scan_back-scanned.new.session c.scan_back-scanned.ensures.same c.give_back.new.seat.me c.give_back.ensures.back _ c.requires.same_first
    (start_of lo scanned.next) hi entries c.ranges.hi.fits told
