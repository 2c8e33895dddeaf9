use Rattle.std.proofs.Common.{refl}
use Rattle.blink_map.proofs.CallsOfSessions.{key_fits}
use Rattle.blink_map.proofs.HeldSessions.{answers_whole, held_changed}
use Rattle.blink_map.proofs.growing.GrowingMap.try_change_held.Goals as goal

pub invariant_of-held : goal.invariant_of-held
invariant_of-held c =
    let old = c.args.held.now in
    record { held = held_changed old.slot old.seat.me old.current old.held c.try_change-given.new.self c.try_change-given.ensures.stays; in_range = old.in_range; all_slots = old.all_slots }

pub returns-in-Some-clause-answered : goal.returns-in-Some-clause-answered
returns-in-Some-clause-answered c =
    let old = c.args.held.now in
    record {
      in_order = answers_whole old.slot old.seat.me old.current old.held c.try_change-given.new.self.session _ c.requires.its_own.same_first c.args.op (key_fits c.args.op c.requires.fits) c.in-Some.answer c.in-Some.ensures.answered;
      same_place = record { same_table = refl; same_first = refl; same_place = refl };
    }
