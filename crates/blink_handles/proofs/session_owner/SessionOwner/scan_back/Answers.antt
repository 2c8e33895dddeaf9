use Rattle.std.proofs.Common.{subst, sym, take}
use Rattle.blink_live.specs.{IsReportBack, start_of}
use Rattle.blink_map.specs.declared.slots.Known.{Known}
use Rattle.blink_map.specs.{known_by, known_to, opening_of, seen_by}
use Rattle.blink_handles.specs.declared.shared_map.SharedMap.{SharedMap}
use Rattle.blink_handles.specs.Sessions.{in_map}
use Rattle.blink_handles.proofs.SessionsStay.{away_busy, away_free, continued_same, held_knows, sees_free, sees_held, was_free, was_held}
use Rattle.blink_handles.proofs.session_owner.SessionOwner.scan_back.Goals as goal

pub returns-in-Ok-clause-scanned : goal.returns-in-Ok-clause-scanned
returns-in-Ok-clause-scanned c =
    let old = c.args.self.now in
    let its = c.requires.its_own in
    let before = c.in-Some-default.session in
    let now = c.try_scan_back.new.session in
    let is = c.in-Some-default.is-0 in
    let done = c.in-Ok.ensures in
    record {
      from = known_to before;
      sees_from = continued_same _ _ (sym (was_free old its before now is));
      reported = record {
        scanned = c.in-Ok.came;
        told = c.of.ensures;
        report = subst (λ (s : SharedMap). IsReportBack (opening_of s.map) (seen_by before) (seen_by now) (start_of c.args.range.0 c.in-Ok.came.next) c.args.range.1 (take c.in-Ok.came.filled c.try_scan_back.new.into)) c.deref.ensures done.report;
        stopped = done.stopped;
        filled = done.filled;
        others = done.others;
      };
      sees = sees_free old its before now is done.same;
    }

pub returns-in_default-clause-refused : goal.returns-in_default-clause-refused
returns-in_default-clause-refused c = away_free c.args.self.now c.requires.its_own c.in-Some-default.session c.try_scan_back.new.session c.in-Some-default.is-0 c.in_default.ensures.unchanged.0

pub returns-in-None-Some-clause-scanned : goal.returns-in-None-Some-clause-scanned
returns-in-None-Some-clause-scanned c =
    let old = c.args.self.now in
    let its = c.requires.its_own in
    let before = c.in-None-Some.held in
    let now = c.scan_back_held-came.new.held in
    let none = c.in-None-Some.is-0 in
    let is = c.in-None-Some.is-1 in
    let came = c.scan_back_held-came.result in
    let done = c.scan_back_held-came.ensures in
    let report = subst (λ (s : SharedMap). IsReportBack (opening_of s.map) (known_by before).seen (known_by now).seen (start_of c.args.range.0 came.next) c.args.range.1 (take came.filled c.scan_back_held-came.new.into)) c.deref.ensures done.report in
    record {
      from = known_by before;
      sees_from = continued_same _ _ (sym (was_held old its before now none is));
      reported = record {
        scanned = came;
        told = c.of-in-None-Some.ensures;
        report = subst (λ (known : Known). IsReportBack (opening_of (in_map old)) (known_by before).seen known.seen (start_of c.args.range.0 came.next) c.args.range.1 (take came.filled c.scan_back_held-came.new.into)) (sym (held_knows old its before now none is)) report;
        stopped = done.stopped;
        filled = done.filled;
        others = done.others;
      };
      sees = sees_held old its before now none is done.same;
    }

pub returns-in-None-None-clause-refused : goal.returns-in-None-None-clause-refused
returns-in-None-None-clause-refused c = away_busy c.args.self.now c.requires.its_own c.in-None-None.is-0 c.in-None-None.is-1
