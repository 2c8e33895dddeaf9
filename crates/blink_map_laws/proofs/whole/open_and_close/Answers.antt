use Rattle.std.proofs.Common.{◌≡◌, List, [], ap, ◌∙◌}
use Rattle.blink_batch.specs.declared.Entry.{Entry}
use Rattle.blink_batch.specs.{pointer_of}
use Rattle.blink_live.specs.declared.view.Change.{Change}
use Rattle.blink_live.specs.{after}
use Rattle.blink_map.specs.declared.growing.GrowingMap.{GrowingMap}
use Rattle.blink_map.specs.{opening_of, places_of}
use Rattle.blink_map_laws.proofs.NobodyElse.{no_change, none_at}
use Rattle.blink_map_laws.proofs.whole.open_and_close.Goals as goal

pub returns-in-Ok : goal.returns-in-Ok
returns-in-Ok c key small =
    let map : GrowingMap = c.in_ok-map.map in
    let closed = c.in-Ok.ensures.entries in
    let none : closed.final ≡ [] =
    no_change (places_of map) closed.final closed.is_list.authors (none_at map closed.final c.in_ok-map.sessions.items c.in_ok-map.ensures.dealt closed.is_list.made) in
    closed.kept key small
    ∙ (ap (λ (l : List Change). after (pointer_of (opening_of map)) l key) none
    ∙ ap (λ (l : List Entry). pointer_of l key) c.in_ok-map.ensures.opened)
