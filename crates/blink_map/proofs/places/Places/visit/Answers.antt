use Rattle.std.proofs.Common.{arith}
use Rattle.blink_map.proofs.PlacesKept.{visits_places}
use Rattle.blink_map.proofs.places.Places.visit.Goals as goal

pub load_new_seat-seat-requires : goal.load_new_seat-seat-requires
load_new_seat-seat-requires c =
    let places = c.args.self.now in
    (omega (arith, places.words, places.some_place), visits_places places.table.shared.key.map.value places.table.shared.table_id.slots 0)
