use Rattle.std.proofs.Common.{◌≡◌, ◌≤◌, length, take, vec_capacity}
use Rattle.blink_operation.specs.{answers, map_after_all}
use Rattle.blink_rest.specs.{IsMapOf}
use Rattle.blink_index.specs.Edit.{HasPagesFor}
use Rattle.blink_entries.specs.Index.{map_of}
use Rattle.blink_index.proofs.index.Index.apply_each.Given as goal

-- the operations so far are carried out and answered, and there is room for all answers
abbrev pub invariant-loop-op : goal.invariant-loop-op
invariant-loop-op l = record {
  answered : l.given.items ≡ answers (map_of l.initial.self) (take l.op-index l.ops);
  counted : length l.given.items ≡ l.op-index;
  room : length l.ops ≤ vec_capacity l.given;
  carried_out : map_of l.self ≡ map_after_all (map_of l.initial.self) (take l.op-index l.ops);
  kept : IsMapOf l.self (map_of l.self);
  few_pages : HasPagesFor (take l.op-index l.ops) l.initial.self l.self;
  same_fan : l.self.fan ≡ l.initial.self.fan;
}
