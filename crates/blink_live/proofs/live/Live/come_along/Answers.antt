use Rattle.blink_live.proofs.found.FindsOfSeveral.{can_find, searched_more, searched_once, searched_seat}
use Rattle.blink_live.proofs.live.Live.come_along.Goals as goal

pub come_to_leaf-word-requires-clause-can_begin : goal.come_to_leaf-word-requires-clause-can_begin
come_to_leaf-word-requires-clause-can_begin c = can_find c.args.key c.args.seat.now.me.0 c.requires.idle

pub come_down-requires-2-clause-seat : goal.come_down-requires-2-clause-seat
come_down-requires-2-clause-seat c =
    let followed = c.follow.ensures in
    searched_seat c.args.self.now c.args.seat.now.table_id c.follow.new.seat.table_id c.args.seat.now.me c.follow.new.seat.me followed.same_table.0 followed.searched c.requires.seat

pub come_down-requires-2-clause-idle : goal.come_down-requires-2-clause-idle
come_down-requires-2-clause-idle c = c.follow.ensures.searched.idle

pub returns-in-Some-follow-clause-searched : goal.returns-in-Some-follow-clause-searched
returns-in-Some-follow-clause-searched c = c.follow.ensures.searched

pub returns-in_default-clause-searched : goal.returns-in_default-clause-searched
returns-in_default-clause-searched c = c.come_down.ensures.searched

pub returns-clause-searched : goal.returns-clause-searched
returns-clause-searched c = searched_more c.args.seat.now.me c.follow.new.seat.me c.come_down-2.new.seat.me c.follow.ensures.searched c.come_down-2.ensures.searched

pub returns-then-alone-clause-searched : goal.returns-then-alone-clause-searched
returns-then-alone-clause-searched c =
    let come = c.come_to_leaf-word.ensures in
    searched_once c.args.key c.args.seat.now.me c.come_to_leaf-word.new.seat.me c.requires.idle come.saw come.own come.idle come.same come.same_slots
