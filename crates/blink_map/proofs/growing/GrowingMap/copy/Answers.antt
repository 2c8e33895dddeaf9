use Rattle.blink_map.proofs.Gathers.{heard_then, lead_sees_more}
use Rattle.blink_map.proofs.growing.GrowingMap.copy.Goals as goal

pub give_all-requires-in-Err : goal.give_all-requires-in-Err
give_all-requires-in-Err c = record { renewing = lead_sees_more c.args.self.now c.gather.new.seat 0 c.gather.new.lead c.index_of.new.lead c.gather.new.others.items c.gather.ensures.renewing c.index_of.ensures.more }

pub returns-in-Ok-clause-copied : goal.returns-in-Ok-clause-copied
returns-in-Ok-clause-copied c = record {
  renewing = lead_sees_more c.args.self.now c.gather.new.seat 0 c.gather.new.lead c.index_of.new.lead c.gather.new.others.items c.gather.ensures.renewing c.index_of.ensures.more;
  heard = heard_then c.gather.new.lead c.index_of.new.lead c.gather.new.others.items c.gather.ensures.heard c.index_of.ensures.more.saw;
  all = c.gather.ensures.all c.if-not-gather.false;
  kept = λ own. c.in-Ok.ensures.entries;
}
