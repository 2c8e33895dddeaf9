use Rattle.std.proofs.Common.{◌≡◌, ◌∙◌, ap}
use Rattle.blink_index.specs.Ends.{first_of}
use Rattle.blink_entries.specs.Index.{map_of}
use Rattle.blink_index.proofs.EndsOfMaps.{first_yielded}
use Rattle.blink_entries.proofs.Offered.{scan_of_all}
use Rattle.blink_index.proofs.index.Index.first.Goals as goal

pub returns : goal.returns
returns c =
    let all : c.scan.result ≡ map_of c.args.self.now = c.scan.ensures.entries ∙ scan_of_all c.args.self.now c.scan.ensures.map in
    first_yielded c.scan.result c.next.result c.next.new.self c.next.ensures.steps ∙ ap first_of all
