use Rattle.std.proofs.Common.{◌≡◌, ◌++◌, take, string_bytes}
use Rattle.blink_batch.specs.{text_of}
use Rattle.blink_replay.proofs.text.push_answers.Given as goal

-- the lines of the answers so far are added
abbrev pub invariant-loop-answer : goal.invariant-loop-answer
invariant-loop-answer l = string_bytes l.text ≡ string_bytes l.initial.text ++ text_of (take l.answer-index l.answers)
