use Rattle.std.proofs.Common.{Some, refl}
use Rattle.blink_map.proofs.Basics.{if_some}
use Rattle.blink_map.proofs.CallsOfSessions.{key_fits}
use Rattle.blink_map.proofs.InPlace.{answers_then, can_give_changed, continues, given_back, its_then, not_empty, own_out}
use Rattle.blink_map.proofs.growing.GrowingMap.change_in_place.Goals as goal

pub slot_mut-requires : goal.slot_mut-requires
slot_mut-requires c = let own = c.requires.taken in (c.requires.its_own, (Some own.taken.0, own_out c.args.slot c.args.seat.now.me own))

pub unreachable-unreachable : goal.unreachable-unreachable
unreachable-unreachable c = not_empty c.args.slot c.args.seat.now.me c.requires.taken c.slot_mut.result.now c.slot_mut.ensures.value c.in_default.is

pub try_change-given-requires-clause-its_own : goal.try_change-given-requires-clause-its_own
try_change-given-requires-clause-its_own c = its_then c.args.slot c.args.seat.now.me c.requires.taken c.slot_mut.result.now c.in-Some.current c.slot_mut.ensures.value c.in-Some.is _ refl

pub give_back-requires-clause-can : goal.give_back-requires-clause-can
give_back-requires-clause-can c =
    let new = c.try_change-given.new.self in
    record {
      held = new;
      there = refl;
      can = can_give_changed c.args.slot c.args.seat.now.me c.requires.taken c.slot_mut.result.now c.in-Some.current c.slot_mut.ensures.value c.in-Some.is new c.try_change-given.ensures.stays;
    }

pub returns-clause-back : goal.returns-clause-back
returns-clause-back c =
    given_back c.args.slot c.args.seat.now.me c.requires.taken c.slot_mut.result.now c.in-Some.current c.slot_mut.ensures.value c.in-Some.is c.try_change-given.new.self c.try_change-given.ensures.stays c.give_back.new.seat.me c.give_back.ensures.back

pub returns-clause-answered : goal.returns-clause-answered
returns-clause-answered c =
    if_some c.try_change-given.result _ _
    (answers_then c.args.slot c.args.seat.now.me c.requires.taken c.slot_mut.result.now c.in-Some.current c.slot_mut.ensures.value c.in-Some.is c.try_change-given.new.self c.try_change-given.ensures.stays c.give_back.new.seat.me c.give_back.ensures.back _ c.requires.same_first c.args.op (key_fits c.args.op c.requires.fits))
    c.try_change-given.ensures.answered

pub returns-clause-unchanged : goal.returns-clause-unchanged
returns-clause-unchanged c none =
    continues c.args.slot c.args.seat.now.me c.requires.taken c.slot_mut.result.now c.in-Some.current c.slot_mut.ensures.value c.in-Some.is c.try_change-given.new.self c.try_change-given.ensures.stays c.give_back.new.seat.me c.give_back.ensures.back (c.try_change-given.ensures.unchanged none)
