use Rattle.std.proofs.Common.{◌≡◌, sym, subst}
use Rattle.atomic_table.specs.Table.{rest}
use Rattle.blink_map.specs.Rule.{SlotSeat, known_of}
use Rattle.blink_map.specs.Steps.{CanGive, has_given, past_of}
use Rattle.blink_map.proofs.Tells.{can_give_lower, can_give_only, can_give_upper, given_back_untold, high_of_map, low_of_map, one_map, told_between}
use Rattle.blink_map.proofs.growing.GrowingMap.tell_between.Goals as goal

pub tell_one-low-requires-clause-low : goal.tell_one-low-requires-clause-low
tell_one-low-requires-clause-low c =
    let idle = c.requires.idle.2 in
    low_of_map c.args.lower c.args.upper c.args.seat.now.me c.take_unless_gathering.new.seat.me c.take_unless_gathering-2.new.seat.me c.in-Some.low c.in-Some-take_unless_gathering.high idle.none_now idle.none_taken idle.none_out c.in-Some.ensures.taken c.in-Some-take_unless_gathering.ensures.taken

pub tell_one-low-requires-clause-high : goal.tell_one-low-requires-clause-high
tell_one-low-requires-clause-high c =
    let idle = c.requires.idle.2 in
    high_of_map c.args.lower c.args.upper c.args.seat.now.me c.take_unless_gathering.new.seat.me c.take_unless_gathering-2.new.seat.me c.in-Some.low c.in-Some-take_unless_gathering.high idle.none_now idle.none_taken idle.none_out c.in-Some.ensures.taken c.in-Some-take_unless_gathering.ensures.taken

pub tell_one-low-requires-clause-same_map : goal.tell_one-low-requires-clause-same_map
tell_one-low-requires-clause-same_map c =
    let idle = c.requires.idle.2 in
    one_map c.args.lower c.args.upper c.args.seat.now.me c.take_unless_gathering.new.seat.me c.take_unless_gathering-2.new.seat.me c.in-Some.low c.in-Some-take_unless_gathering.high idle.none_now idle.none_taken idle.none_out c.in-Some.ensures.taken c.in-Some-take_unless_gathering.ensures.taken

pub give-requires-2-clause-can : goal.give-requires-2-clause-can
give-requires-2-clause-can c =
    let idle = c.requires.idle.2 in
    can_give_upper c.args.lower c.args.upper c.args.seat.now.me c.take_unless_gathering.new.seat.me c.take_unless_gathering-2.new.seat.me c.in-Some.low c.in-Some-take_unless_gathering.high idle.none_now idle.none_taken idle.none_out c.in-Some.ensures.taken c.in-Some-take_unless_gathering.ensures.taken
    c.tell_one-low.result.0 c.tell_one-low.result.1 c.tell_one-low.ensures.low c.tell_one-low.ensures.high

pub give-requires-3-clause-can : goal.give-requires-3-clause-can
give-requires-3-clause-can c =
    let idle = c.requires.idle.2 in
    can_give_lower c.args.lower c.args.upper c.args.seat.now.me c.take_unless_gathering.new.seat.me c.take_unless_gathering-2.new.seat.me c.in-Some.low c.in-Some-take_unless_gathering.high idle.none_now idle.none_taken idle.none_out c.in-Some.ensures.taken c.in-Some-take_unless_gathering.ensures.taken
    c.tell_one-low.result.0 c.tell_one-low.result.1 c.tell_one-low.ensures.low c.tell_one-low.ensures.high c.give-2.new.seat.me c.give-2.ensures.given

pub returns-clause-told : goal.returns-clause-told
returns-clause-told c own_low own_high idle =
    told_between c.args.lower c.args.upper c.args.seat.now.me c.take_unless_gathering.new.seat.me c.take_unless_gathering-2.new.seat.me c.in-Some.low c.in-Some-take_unless_gathering.high idle.none_now idle.none_taken idle.none_out c.in-Some.ensures.taken c.in-Some-take_unless_gathering.ensures.taken
    c.tell_one-low.result.0 c.tell_one-low.result.1 c.tell_one-low.ensures.low c.tell_one-low.ensures.high c.give-2.new.seat.me c.give-2.ensures.given c.give-3.new.seat.me c.give-3.ensures.given c.args.upwards c.tell_one-low.ensures.told own_low own_high idle

-- ---- the upper one isn't there

pub give-requires-clause-can : goal.give-requires-clause-can
give-requires-clause-can c =
    let idle = c.requires.idle.2 in
    subst (λ (m : SlotSeat). CanGive c.args.lower m c.in-Some.low) (sym c.in_default-take_unless_gathering.ensures.lost)
    (can_give_only c.args.lower c.args.seat.now.me c.take_unless_gathering.new.seat.me c.in-Some.low idle.none_taken c.in-Some.ensures.taken)

pub returns-in_default-take_unless_gathering-clause-told : goal.returns-in_default-take_unless_gathering-clause-told
returns-in_default-take_unless_gathering-clause-told c own_low own_high idle =
    let lower = c.args.lower in
    let low = c.in-Some.low in
    given_back_untold lower c.args.seat.now.me c.take_unless_gathering.new.seat.me low idle.none_taken c.in-Some.ensures.taken c.args.upper c.args.upwards own_low own_high idle c.give.new.seat.me
    (subst (λ (m : SlotSeat). c.give.new.seat.me ≡ (has_given m.0 lower (known_of (past_of m.0.now) lower low), rest m.1)) c.in_default-take_unless_gathering.ensures.lost c.give.ensures.given)
