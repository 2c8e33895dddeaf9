use Rattle.blink_map.specs.Sessions.{places_of}
use Rattle.blink_map.proofs.Copies.{noted_still}
use Rattle.blink_map.proofs.Gathers.{lead_sees_more}
use Rattle.blink_map.proofs.growing.GrowingMap.copy_among.Goals as goal

pub gather_again-requires-clause-renewing : goal.gather_again-requires-clause-renewing
gather_again-requires-clause-renewing c = lead_sees_more c.args.self.now c.note.new.seat c.args.copier c.note.new.lead c.prepare-outcome.new.lead c.note.new.others.items c.note.ensures.renewing c.prepare-outcome.ensures.more

pub gather_again-requires-clause-noted : goal.gather_again-requires-clause-noted
gather_again-requires-clause-noted c = noted_still (places_of c.args.self.now) c.args.copier c.in-Some.noted.changes c.note.new.lead c.prepare-outcome.new.lead c.in-Some.ensures.noted c.prepare-outcome.ensures.more

pub returns-in-Err-clause-renewing : goal.returns-in-Err-clause-renewing
returns-in-Err-clause-renewing c = lead_sees_more c.args.self.now c.note.new.seat c.args.copier c.note.new.lead c.prepare-outcome.new.lead c.note.new.others.items c.note.ensures.renewing c.prepare-outcome.ensures.more
