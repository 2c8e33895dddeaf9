-- What is left of the entries makes of the index what all make of the empty one, and may need no more pages.
use Rattle.std.proofs.Common.{◌≡◌, [], length, map}
use Rattle.blink_batch.specs.{map_after_all}
use Rattle.blink_index.specs.{map_of}
use Rattle.blink_handles.specs.Raw.{insertion_of}
use Rattle.blink_handles.proofs.PagesAreFew.{HasRoomFor}
use Rattle.blink_handles.proofs.make.index_of.Given as goal

abbrev pub invariant-loop-left : goal.invariant-loop-left
invariant-loop-left l = record {
  rest_makes_all : map_after_all (map_of l.index) (map insertion_of l.left) ≡ map_after_all [] (map insertion_of l.fn.entries);
  same_fan : l.index.fan ≡ l.fn.fan;
  room : HasRoomFor l.fn.entries l.left l.index;
}

abbrev pub decreases-loop-left : goal.decreases-loop-left
decreases-loop-left l = length l.left
