-- The answers so far are those of the first places, and there is room for the rest.
use Rattle.std.proofs.Common.{◌≡◌, ◌≤◌, Some, length, map, take, vec_len, vec_capacity}
use Rattle.blink_settings.proofs.outcome.all_of.Given as goal

abbrev pub invariant-loop-answer : goal.invariant-loop-answer
invariant-loop-answer l = record {
  first_answers : map Some l.answers.items ≡ take l.answer-index l.given;
  room : length l.given ≤ vec_capacity l.answers;
  as_many : vec_len l.answers ≡ l.answer-index;
}
