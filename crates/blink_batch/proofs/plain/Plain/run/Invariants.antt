use Rattle.std.proofs.Common.{◌≡◌, ◌≤◌, length, take, vec_capacity, vec_len}
use Rattle.blink_operation.specs.Operation.{answers, map_after_all}
use Rattle.blink_batch.proofs.plain.Plain.run.Given as goal

-- the operations so far are carried out and answered, and there is room for all answers
abbrev pub invariant-loop-op : goal.invariant-loop-op
invariant-loop-op l = record {
  answered : l.given.items ≡ answers l.initial.self (take l.op-index l.ops);
  counted : vec_len l.given ≡ l.op-index;
  room : length l.ops ≤ vec_capacity l.given;
  carried_out : l.self ≡ map_after_all l.initial.self (take l.op-index l.ops);
}
