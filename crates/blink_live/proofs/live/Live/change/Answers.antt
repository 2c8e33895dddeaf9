use Rattle.std.proofs.Common.{Err, ◌∙◌, refl, sym, ap}
use Rattle.blink_live.specs.declared.room.Room.{Room}
use Rattle.std.proofs.lemmas.Result.{err_from_is_err_and}
use Rattle.blink_live.proofs.changed.PassesComeBack.{answers_by_share, is_changed, is_whole, knows_its_keys}
use Rattle.blink_live.proofs.changed.PassesSetOut.{with_its_shelf, has_its_shelf, can_set_out}
use Rattle.blink_live.proofs.table.RefusalsTold.{no_refusal, passed_on}
use Rattle.blink_live.proofs.live.Live.change.Goals as goal

pub returns-in_err-accepts-clause-not_yours : goal.returns-in_err-accepts-clause-not_yours
returns-in_err-accepts-clause-not_yours g c =
    let passed = err_from_is_err_and c.from_residual.result c.from_residual.ensures.1 in
    passed_on c.accepts.result c.from_residual.result passed.0 _ (c.in_err-accepts.was ∙ ap Err (sym passed.2)) passed.1 c.accepts.ensures.not_yours

pub returns-in_err-accepts-clause-spent : goal.returns-in_err-accepts-clause-spent
returns-in_err-accepts-clause-spent g c =
    let passed = err_from_is_err_and c.from_residual.result c.from_residual.ensures.1 in
    passed_on c.accepts.result c.from_residual.result passed.0 _ (c.in_err-accepts.was ∙ ap Err (sym passed.2)) passed.1 c.accepts.ensures.spent

pub next_of-room-requires-clause-rows : goal.next_of-room-requires-clause-rows
next_of-room-requires-clause-rows g c =
    (can_set_out c.args.self.now c.args.op c.args.pass.now c.requires.its_own c.requires.updates c.in_ok-accepts.ensures.own_key c.in_ok-accepts.ensures.some_left).enough_rows

pub next_of-room-requires-clause-pages : goal.next_of-room-requires-clause-pages
next_of-room-requires-clause-pages g c =
    (can_set_out c.args.self.now c.args.op c.args.pass.now c.requires.its_own c.requires.updates c.in_ok-accepts.ensures.own_key c.in_ok-accepts.ensures.some_left).enough_pages

pub next_of-room-requires-clause-some_row : goal.next_of-room-requires-clause-some_row
next_of-room-requires-clause-some_row g c =
    (can_set_out c.args.self.now c.args.op c.args.pass.now c.requires.its_own c.requires.updates c.in_ok-accepts.ensures.own_key c.in_ok-accepts.ensures.some_left).some_row

pub update-requires-clause-seat : goal.update-requires-clause-seat
update-requires-clause-seat g c =
    (can_set_out c.args.self.now c.args.op c.args.pass.now c.requires.its_own c.requires.updates c.in_ok-accepts.ensures.own_key c.in_ok-accepts.ensures.some_left).seat

pub update-requires-clause-can_begin : goal.update-requires-clause-can_begin
update-requires-clause-can_begin g c =
    (can_set_out c.args.self.now c.args.op c.args.pass.now c.requires.its_own c.requires.updates c.in_ok-accepts.ensures.own_key c.in_ok-accepts.ensures.some_left).can_begin

pub update-requires-clause-room : goal.update-requires-clause-room
update-requires-clause-room g c =
    let can = can_set_out c.args.self.now c.args.op c.args.pass.now c.requires.its_own c.requires.updates c.in_ok-accepts.ensures.own_key c.in_ok-accepts.ensures.some_left in
    with_its_shelf c.args.op c.args.pass.now.seat.me.0 c.next_of-room.result (c.next_of-room.ensures.room ∙ can.same_room)

pub update-requires-clause-may : goal.update-requires-clause-may
update-requires-clause-may g c =
    (can_set_out c.args.self.now c.args.op c.args.pass.now c.requires.its_own c.requires.updates c.in_ok-accepts.ensures.own_key c.in_ok-accepts.ensures.some_left).may

pub update-requires-clause-enough : goal.update-requires-clause-enough
update-requires-clause-enough g c =
    has_its_shelf _ _ _ (ap (λ (r : Room). r.shelf) c.next_of-room.ensures.room) (can_set_out c.args.self.now c.args.op c.args.pass.now c.requires.its_own c.requires.updates c.in_ok-accepts.ensures.own_key c.in_ok-accepts.ensures.some_left).enough

pub invariant_of-pass : goal.invariant_of-pass
invariant_of-pass g c =
    let pass = c.args.pass.now in
    let ended = c.update.ensures.ended in
    let room = c.next_of-room.ensures in
    let whole = is_whole c.args.op pass c.update.new.seat c.update.result pass.keys.items c.next_of-room.new.rows c.next_of-room.new.pages c.requires.updates c.in_ok-accepts.ensures.some_left ended refl room.rows room.pages in record {
      keys_are = whole.keys_are;
      ascending = pass.ascending;
      rows_are = whole.rows_are;
      pages_are = whole.pages_are;
      in_order = whole.in_order;
      for_changes = whole.for_changes;
      role_is = whole.role_is;
      owned = whole.owned;
      own_seen = ended.knows_own.changes;
      none_told = whole.none_told;
      idle = ended.idle;
      no_slot = whole.no_slot;
    }

pub returns-clause-answer : goal.returns-clause-answer
returns-clause-answer g c = (answers_by_share c.args.op c.args.pass.now c.update.new.seat c.update.result c.in_ok-accepts.ensures.own_key c.update.ensures.ended).0

pub returns-clause-changed : goal.returns-clause-changed
returns-clause-changed g c = is_changed c.args.op c.args.pass.now _ c.update.result c.in_ok-accepts.ensures.own_key c.update.ensures.ended refl c.next_of-room.ensures.rows c.next_of-room.ensures.pages

pub returns-clause-knows : goal.returns-clause-knows
returns-clause-knows g c = knows_its_keys c.args.op c.args.pass.now _ c.update.result c.in_ok-accepts.ensures.own_key c.update.ensures.ended c.args.self.now c.requires.its_own

pub returns-clause-not_yours : goal.returns-clause-not_yours
returns-clause-not_yours g c = no_refusal _ _ (λ foreign. foreign c.in_ok-accepts.ensures.own_key)

pub returns-clause-spent : goal.returns-clause-spent
returns-clause-spent g c = no_refusal _ _ (λ spent. c.in_ok-accepts.ensures.some_left spent.1)
