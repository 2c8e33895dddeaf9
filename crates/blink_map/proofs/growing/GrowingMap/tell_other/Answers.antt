use Rattle.blink_map.proofs.Tells.{idle_downwards, idle_upwards, told_downwards, told_upwards}
use Rattle.blink_map.proofs.growing.GrowingMap.tell_other.Goals as goal

pub tell_between-requires-clause-idle : goal.tell_between-requires-clause-idle
tell_between-requires-clause-idle c =
    let has = c.requires.both in
    (has.0, has.1, idle_upwards c.args.from c.args.to has.0 has.1 c.args.seat.now.me has.2)

pub tell_between-requires-else-from-to-clause-idle : goal.tell_between-requires-else-from-to-clause-idle
tell_between-requires-else-from-to-clause-idle c =
    let has = c.requires.both in
    (has.1, has.0, idle_downwards c.args.from c.args.to has.0 has.1 c.args.seat.now.me has.2)

pub returns-then-from-to-clause-told : goal.returns-then-from-to-clause-told
returns-then-from-to-clause-told c own theirs has =
    told_upwards c.args.from c.args.to c.tell_between.result own theirs c.args.seat.now.me c.tell_between.new.seat.me has
    (c.tell_between.ensures.told own theirs (idle_upwards c.args.from c.args.to own theirs c.args.seat.now.me has))

pub returns-else-from-to-clause-told : goal.returns-else-from-to-clause-told
returns-else-from-to-clause-told c own theirs has =
    told_downwards c.args.from c.args.to c.tell_between-else-from-to.result own theirs c.args.seat.now.me c.tell_between-else-from-to.new.seat.me has
    (c.tell_between-else-from-to.ensures.told theirs own (idle_downwards c.args.from c.args.to own theirs c.args.seat.now.me has))
