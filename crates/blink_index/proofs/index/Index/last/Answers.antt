use Rattle.std.proofs.Common.{◌≡◌, ◌∙◌, List, ap}
use Rattle.std.specs.Prelude.{reverse}
use Rattle.blink_operation.specs.declared.Entry.{Entry}
use Rattle.blink_entries.specs.Index.{map_of}
use Rattle.blink_index.proofs.EndsOfMaps.{last_yielded}
use Rattle.blink_entries.proofs.Offered.{scan_of_all}
use Rattle.blink_index.proofs.index.Index.last.Goals as goal

pub returns : goal.returns
returns c =
    let all : c.scan_back.result ≡ reverse (map_of c.args.self.now)
    = c.scan_back.ensures.entries ∙ ap (λ (entries : List Entry). reverse entries) (scan_of_all c.args.self.now c.scan_back.ensures.map) in
    last_yielded (map_of c.args.self.now) c.scan_back.result c.next.result c.next.new.self all c.next.ensures.steps
