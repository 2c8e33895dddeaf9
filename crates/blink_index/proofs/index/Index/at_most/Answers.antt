use Rattle.std.specs.Prelude.{filter}
use Rattle.blink_entries.specs.Index.{map_of}
use Rattle.blink_index.specs.Ends.{is_up_to}
use Rattle.blink_index.proofs.EndsOfMaps.{last_one_yielded}
use Rattle.blink_index.proofs.index.Index.at_most.Goals as goal

pub returns : goal.returns
returns c = last_one_yielded (filter (is_up_to c.args.key) (map_of c.args.self.now)) c.page_back.result c.next.result c.next.new.self c.page_back.ensures.entries c.next.ensures.steps
