use Rattle.blink_map.proofs.NextMap.{own_between}
use Rattle.blink_map.proofs.gather.tell.Goals as goal

pub returns-clause-own : goal.returns-clause-own
returns-clause-own c = own_between c.args.held.session c.args.lead.now.session c.tell.new.to c.requires.heard c.tell.ensures.told c.tell.ensures.to
