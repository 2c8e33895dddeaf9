-- The answers so far are given, and there are as many places as before.
use Rattle.std.proofs.Common.{◌≡◌, length, map, take}
use Rattle.blink_index.specs.{map_of}
use Rattle.blink_handles.specs.Found.{found_answer}
use Rattle.blink_handles.proofs.reads.find_each.Given as goal

abbrev pub invariant-loop-place : goal.invariant-loop-place
invariant-loop-place l = record {
  given_so_far : take l.place l.answers ≡ map (found_answer (map_of l.index)) (take l.place l.keys);
  as_many : length l.answers ≡ length l.keys;
}
