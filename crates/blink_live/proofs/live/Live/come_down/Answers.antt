use Rattle.std.proofs.Common.{◌∙◌}
use Rattle.blink_live.specs.Views.{SeatState}
use Rattle.blink_live.proofs.found.FindsOfSeveral.{can_find, searched_more, searched_once, searched_seat}
use Rattle.blink_live.proofs.live.Live.come_down.Goals as goal

pub follow-requires-clause-seat : goal.follow-requires-clause-seat
follow-requires-clause-seat c =
    let come = c.come_to_noted-word.ensures in
    searched_seat c.args.self.now c.args.seat.now.table_id c.come_to_noted-word.new.seat.table_id c.args.seat.now.me c.come_to_noted-word.new.seat.me come.same_table.0 come.searched c.requires.seat

pub follow-requires-clause-idle : goal.follow-requires-clause-idle
follow-requires-clause-idle c = c.come_to_noted-word.ensures.searched.idle

pub returns-then-leaf-eq0-clause-searched : goal.returns-then-leaf-eq0-clause-searched
returns-then-leaf-eq0-clause-searched c = c.come_to_noted-word.ensures.searched

pub returns-in-Some-clause-searched : goal.returns-in-Some-clause-searched
returns-in-Some-clause-searched c =
    searched_more c.args.seat.now.me c.come_to_noted-word.new.seat.me c.follow.new.seat.me c.come_to_noted-word.ensures.searched c.follow.ensures.searched

pub come_to_leaf-word-requires-clause-seat : goal.come_to_leaf-word-requires-clause-seat
come_to_leaf-word-requires-clause-seat c =
    let come = c.come_to_noted-word.ensures in
    let then = c.follow.ensures in
    searched_seat c.args.self.now c.args.seat.now.table_id c.follow.new.seat.table_id c.args.seat.now.me c.follow.new.seat.me (then.same_table.0 ∙ come.same_table.0)
    (searched_more c.args.seat.now.me c.come_to_noted-word.new.seat.me c.follow.new.seat.me come.searched then.searched) c.requires.seat

pub come_to_leaf-word-requires-clause-idle : goal.come_to_leaf-word-requires-clause-idle
come_to_leaf-word-requires-clause-idle c = c.follow.ensures.searched.idle.idle

pub come_to_leaf-word-requires-clause-can_begin : goal.come_to_leaf-word-requires-clause-can_begin
come_to_leaf-word-requires-clause-can_begin c = can_find c.args.key c.follow.new.seat.me.0 c.follow.ensures.searched.idle

pub returns-clause-searched : goal.returns-clause-searched
returns-clause-searched c =
    let first : SeatState = c.args.seat.now.me in
    let noted : SeatState = c.come_to_noted-word.new.seat.me in
    let followed : SeatState = c.follow.new.seat.me in
    let come = c.come_to_leaf-word.ensures in
    let before = searched_more first noted followed c.come_to_noted-word.ensures.searched c.follow.ensures.searched in
    searched_more first followed c.come_to_leaf-word.new.seat.me before (searched_once c.args.key followed c.come_to_leaf-word.new.seat.me before.idle come.saw come.own come.idle come.same come.same_slots)
