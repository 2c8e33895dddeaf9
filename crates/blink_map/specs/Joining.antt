-- The places of a growing map, as contracts see them.
use Rattle.blink_map.specs.declared.growing.GrowingMap.{GrowingMap}
use Rattle.blink_map.specs.declared.places.Places.{Places}

-- the map whose sessions rest at these places
abbrev pub map_at : Places → GrowingMap
map_at places = places.table.shared.key.map.value
