use Rattle.std.proofs.Common.{◌≡◌, length}
use Rattle.std.specs.Prelude.{vec_capacity}
use Rattle.blink_map.specs.Renewing.{IsRenewing}
use Rattle.blink_map.proofs.growing.GrowingMap.give_others.Given as goal

abbrev pub invariant-loop-held : goal.invariant-loop-held
invariant-loop-held l = record {
  renewing : IsRenewing l.self l.seat l.copier l._lead l.others.items;
  room : vec_capacity l.others ≡ vec_capacity l.initial.others;
}

abbrev pub decreases-loop-held : goal.decreases-loop-held
decreases-loop-held l = length l.others.items
