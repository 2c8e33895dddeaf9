use Rattle.std.proofs.Common.{◌≡◌, ◌≤◌, suc, length}
use Rattle.std.specs.Prelude.{vec_capacity}
use Rattle.blink_map.specs.Renewing.{HasHeardAll, IsRenewing, MaySeeMore}
use Rattle.blink_map.specs.Sessions.{places_of}
use Rattle.blink_map.proofs.growing.GrowingMap.gather.Given as goal

abbrev pub invariant-loop-level : goal.invariant-loop-level
invariant-loop-level l = record {
  renewing : IsRenewing l.self l.seat l.copier l.lead l.others.items;
  heard : HasHeardAll l.lead l.others.items;
  more : MaySeeMore l.initial.lead l.lead;
  width : suc (length l.others.items) ≡ l.level;
  room : places_of l.self ≤ suc (vec_capacity l.others);
}
