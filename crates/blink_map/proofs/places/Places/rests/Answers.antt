use Rattle.std.proofs.Common.{arith}
use Rattle.blink_map.proofs.PlacesKept.{visits_places}
use Rattle.blink_map.proofs.places.Places.rests.Goals as goal

pub load_new_seat-word-requires : goal.load_new_seat-word-requires
load_new_seat-word-requires c =
    let places = c.args.self.now in
    (omega (arith, places.words, c.requires.in_range), visits_places places.table.shared.key.map.value places.table.shared.table_id.slots c.args.place)
