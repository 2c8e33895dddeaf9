use Rattle.blink_index.specs.{map_of}
use Rattle.blink_map.proofs.NextMap.{has_ended, of_one_map}
use Rattle.blink_map.proofs.growing.GrowingMap.end.Goals as goal

pub tell_all-requires-clause-one_map : goal.tell_all-requires-clause-one_map
tell_all-requires-clause-one_map c = (of_one_map c.args.self.now c.copy.new.seat 0 c.in-Ok-copy.copied.lead c.in-Ok-copy.copied.others.items c.in-Ok-copy.ensures.copied.renewing).1

pub returns-in-Ok-copy-clause-ended : goal.returns-in-Ok-copy-clause-ended
returns-in-Ok-copy-clause-ended c =
    let copied = c.in-Ok-copy.ensures.copied in
    has_ended c.args.self.now c.copy.new.seat 0 c.in-Ok-copy.copied.lead c.in-Ok-copy.copied.others.items (map_of c.in-Ok-copy.copied.index) copied c.tell_all.ensures copied.renewing.no_account
