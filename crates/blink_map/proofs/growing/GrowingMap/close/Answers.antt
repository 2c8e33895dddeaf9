use Rattle.blink_index.specs.{map_of}
use Rattle.blink_map.proofs.Closes.{closed_with}
use Rattle.blink_map.proofs.growing.GrowingMap.close.Goals as goal

pub returns-in-Ok-clause-entries : goal.returns-in-Ok-clause-entries
returns-in-Ok-clause-entries c = closed_with c.args.self c.args.sessions.items c.in-Ok.seat c.join_all.new.seat (map_of c.in-Ok.index) c.in-Ok.ensures.ended c.join_all.ensures.joined c.join_all.ensures.compared c.requires.its_own
