use Rattle.std.proofs.Common.{◌≡◌, []}
use Rattle.blink_map.specs.Sessions.{opening_of}
use Rattle.blink_map.specs.Joining.{map_at}
use Rattle.blink_map.proofs.places.Places.join.Given as goal

-- no session rested at a place so far
abbrev pub invariant-loop-place : goal.invariant-loop-place
invariant-loop-place l = record {
  table : l.seat.table_id ≡ l.self.table.shared.table_id;
  none : l.seat.me.1 ≡ [];
}

abbrev pub ghosts-take_session : goal.ghosts-take_session
ghosts-take_session a = record { table = (map_at a.self.now).table.shared.table_id; first = opening_of (map_at a.self.now) }
