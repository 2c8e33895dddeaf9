use Rattle.std.proofs.Common.{refl, inr, ap, arith, subst}
use Rattle.blink_live.specs.{SeatState}
use Rattle.blink_generation.specs.Changing.{HasComeOut}
use Rattle.blink_generation.proofs.MembersComeBack.{gives, has_changed, is_idle_again, its_end, its_place, its_seat}
use Rattle.blink_generation.proofs.OperationsRest.{comes_to_rest}
use Rattle.blink_generation.proofs.OperationsStart.{can_begin, come_out}
use Rattle.blink_generation.proofs.member.Member.start.Goals as goal

pub change_by-requires-clause-can_begin : goal.change_by-requires-clause-can_begin
change_by-requires-clause-can_begin c = can_begin c.args.op c.args.self c.next_mark.result c.mark_place.new.seat.me c.requires.room c.next_mark.ensures.works c.mark_place.ensures.marked

pub come_back-requires : goal.come_back-requires
come_back-requires c =
    let came : HasComeOut c.args.live.now c.args.op c.args.self c.change_by.new.seat c.change_by.new.room c.change_by.result = come_out c.args.live.now c.args.op c.args.self c.mark_place.new.seat c.change_by.new.seat c.change_by.new.room c.change_by.result c.next_mark.result c.mark_place.ensures.marked c.mark_place.ensures.same c.change_by.ensures.came in
    let out = subst (HasComeOut c.args.live.now c.args.op c.args.self c.change_by.new.seat c.change_by.new.room) c.in-Ended.is came in
    record {
      seat = its_seat out.1;
      can = gives out.1;
      ended = (its_end out.1 c.in-Ended.answer out.2 out.3).idle;
      place = its_place out.1 c.requires.its_own;
    }

pub invariant_of-member : goal.invariant_of-member
invariant_of-member c =
    let came : HasComeOut c.args.live.now c.args.op c.args.self c.change_by.new.seat c.change_by.new.room c.change_by.result = come_out c.args.live.now c.args.op c.args.self c.mark_place.new.seat c.change_by.new.seat c.change_by.new.room c.change_by.result c.next_mark.result c.mark_place.ensures.marked c.mark_place.ensures.same c.change_by.ensures.came in
    let out = subst (HasComeOut c.args.live.now c.args.op c.args.self c.change_by.new.seat c.change_by.new.room) c.in-Ended.is came in
    let again = is_idle_again out.1 c.in-Ended.answer c.come_back.new.seat (its_end out.1 c.in-Ended.answer out.2 out.3) c.come_back.ensures.idle in record {
      rows_are = again.rows_are;
      pages_are = again.pages_are;
      place_is = again.place_is;
      in_order = again.in_order;
      role_is = again.role_is;
      common = again.common;
      no_key = again.no_key;
      none_told = again.none_told;
      idle = again.idle;
      rests = ap (λ (x : SeatState). x.0.busy) c.come_back.ensures.idle;
      authors = c.come_back.ensures.authors;
      no_slot = again.no_slot;
      shelved = again.shelved;
    }

pub returns-in-Ended-clause-changed : goal.returns-in-Ended-clause-changed
returns-in-Ended-clause-changed c =
    let came : HasComeOut c.args.live.now c.args.op c.args.self c.change_by.new.seat c.change_by.new.room c.change_by.result = come_out c.args.live.now c.args.op c.args.self c.mark_place.new.seat c.change_by.new.seat c.change_by.new.room c.change_by.result c.next_mark.result c.mark_place.ensures.marked c.mark_place.ensures.same c.change_by.ensures.came in
    let out = subst (HasComeOut c.args.live.now c.args.op c.args.self c.change_by.new.seat c.change_by.new.room) c.in-Ended.is came in
    has_changed out.1 c.in-Ended.answer _ c.requires.its_own (its_end out.1 c.in-Ended.answer out.2 out.3) c.come_back.ensures.same c.come_back.ensures.idle refl refl

pub mark_place-requires-in-Rests : goal.mark_place-requires-in-Rests
mark_place-requires-in-Rests c =
    let came : HasComeOut c.args.live.now c.args.op c.args.self c.change_by.new.seat c.change_by.new.room c.change_by.result = come_out c.args.live.now c.args.op c.args.self c.mark_place.new.seat c.change_by.new.seat c.change_by.new.room c.change_by.result c.next_mark.result c.mark_place.ensures.marked c.mark_place.ensures.same c.change_by.ensures.came in
    let out = subst (HasComeOut c.args.live.now c.args.op c.args.self c.change_by.new.seat c.change_by.new.room) c.in-Rests.is came in
    record { seat = its_seat out.0; place = its_place out.0 c.requires.its_own; idle = inr (omega arith) }

pub returns-in-Rests-clause-at_rest : goal.returns-in-Rests-clause-at_rest
returns-in-Rests-clause-at_rest c =
    let came : HasComeOut c.args.live.now c.args.op c.args.self c.change_by.new.seat c.change_by.new.room c.change_by.result = come_out c.args.live.now c.args.op c.args.self c.mark_place.new.seat c.change_by.new.seat c.change_by.new.room c.change_by.result c.next_mark.result c.mark_place.ensures.marked c.mark_place.ensures.same c.change_by.ensures.came in
    let out = subst (HasComeOut c.args.live.now c.args.op c.args.self c.change_by.new.seat c.change_by.new.room) c.in-Rests.is came in
    record {
      rest = comes_to_rest out.0 c.mark_place-in-Rests.new.seat c.mark_place-in-Rests.ensures.same c.mark_place-in-Rests.ensures.marked;
      beside = record { rows = refl; pages = refl; place = refl };
    }

pub returns-in-Rests-clause-waits : goal.returns-in-Rests-clause-waits
returns-in-Rests-clause-waits c =
    let came : HasComeOut c.args.live.now c.args.op c.args.self c.change_by.new.seat c.change_by.new.room c.change_by.result = come_out c.args.live.now c.args.op c.args.self c.mark_place.new.seat c.change_by.new.seat c.change_by.new.room c.change_by.result c.next_mark.result c.mark_place.ensures.marked c.mark_place.ensures.same c.change_by.ensures.came in
    (subst (HasComeOut c.args.live.now c.args.op c.args.self c.change_by.new.seat c.change_by.new.room) c.in-Rests.is came).1
