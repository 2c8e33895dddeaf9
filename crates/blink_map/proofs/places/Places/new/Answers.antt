use Rattle.std.proofs.Common.{None, replicate, sym, ◌∙◌, subst}
use Rattle.atomic_table.specs.Table.{opening}
use Rattle.blink_map.specs.declared.growing.GrowingMap.{GrowingMap}
use Rattle.blink_map.specs.Resting.{ArePlaces, visitor}
use Rattle.blink_map.proofs.PlacesKept.{opening_places}
use Rattle.blink_map.proofs.places.Places.new.Goals as goal

pub vacant-requires : goal.vacant-requires
vacant-requires c =
    let count = c.slot_count-count.result in
    subst (λ (map : GrowingMap). ArePlaces map (opening c.deref.result.now (replicate count None) visitor)) (sym c.of.ensures)
    (opening_places c.args.map.now count c.deref.result.now (c.deref.ensures.value ∙ c.in_ok-words.ensures))
