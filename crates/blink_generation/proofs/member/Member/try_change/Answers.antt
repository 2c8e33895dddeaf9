use Rattle.std.proofs.Common.{refl, ap}
use Rattle.blink_live.specs.{SeatState}
use Rattle.blink_generation.proofs.OperationsAreGivenUp.{ComesBack, comes_back}
use Rattle.blink_generation.proofs.OperationsStart.{can_begin}
use Rattle.blink_generation.proofs.member.Member.try_change.Goals as goal

pub try_change_by-given-requires-clause-can_begin : goal.try_change_by-given-requires-clause-can_begin
try_change_by-given-requires-clause-can_begin c = can_begin c.args.op c.args.self.now c.next_mark.result c.mark_place.new.seat.me c.requires.room c.next_mark.ensures.works c.mark_place.ensures.marked

pub come_back-requires : goal.come_back-requires
come_back-requires c =
    let done = c.try_change_by-given in
    let back : ComesBack c.args.live.now c.args.op c.args.self.now done.new.seat done.new.room done.result = comes_back c.args.live.now c.args.op c.args.self.now c.mark_place.new.seat done.new.seat done.new.room c.next_mark.result c.requires.its_own c.mark_place.ensures.marked c.mark_place.ensures.same done.result done.ensures.came done.ensures.given_up in
    record { seat = back.its_own; can = back.can; ended = back.ended; place = back.place }

pub invariant_of-self : goal.invariant_of-self
invariant_of-self c =
    let done = c.try_change_by-given in
    let back : ComesBack c.args.live.now c.args.op c.args.self.now done.new.seat done.new.room done.result = comes_back c.args.live.now c.args.op c.args.self.now c.mark_place.new.seat done.new.seat done.new.room c.next_mark.result c.requires.its_own c.mark_place.ensures.marked c.mark_place.ensures.same done.result done.ensures.came done.ensures.given_up in
    let again = back.idle c.come_back.new.seat c.come_back.ensures.idle in record {
      rows_are = again.rows_are;
      pages_are = again.pages_are;
      place_is = again.place_is;
      in_order = again.in_order;
      role_is = again.role_is;
      common = again.common;
      no_key = again.no_key;
      none_told = again.none_told;
      idle = again.idle;
      rests = ap (λ (x : SeatState). x.0.busy) c.come_back.ensures.idle;
      authors = c.come_back.ensures.authors;
      no_slot = again.no_slot;
      shelved = again.shelved;
    }

pub returns : goal.returns
returns c =
    let done = c.try_change_by-given in
    let back : ComesBack c.args.live.now c.args.op c.args.self.now done.new.seat done.new.room done.result = comes_back c.args.live.now c.args.op c.args.self.now c.mark_place.new.seat done.new.seat done.new.room c.next_mark.result c.requires.its_own c.mark_place.ensures.marked c.mark_place.ensures.same done.result done.ensures.came done.ensures.given_up in
    back.turned_out _ c.come_back.ensures.same c.come_back.ensures.idle refl refl
