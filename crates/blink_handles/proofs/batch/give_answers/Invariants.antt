-- The answers so far are given, and there are as many places as before.
use Rattle.std.proofs.Common.{◌≡◌, length, map, take}
use Rattle.blink_handles.specs.Raw.{raw_given}
use Rattle.blink_handles.proofs.batch.give_answers.Given as goal

abbrev pub invariant-loop-place : goal.invariant-loop-place
invariant-loop-place l = record {
  given_so_far : take l.place l.answers ≡ map raw_given (take l.place l.given);
  as_many : length l.answers ≡ length l.given;
}
