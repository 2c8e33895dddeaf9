use Rattle.std.proofs.Common.{◌≡◌, length, string_bytes}
use Rattle.std.specs.Vec.Iter.{into_iter_items, into_iter_len}
use Rattle.blink_replay.proofs.ReplayOfParts.{IsToldWith}
use Rattle.blink_replay.proofs.TooLargeAmong.{HasRunBefore}
use Rattle.blink_replay.proofs.replay.Replay.run_parts.Given as goal

-- with what the parts to come add, all is told
abbrev pub invariant-loop-part : goal.invariant-loop-part
invariant-loop-part l = record {
  can_next : (goal.iterator-loop-part).can_next l.part-iterator;
  is_finite : (goal.iterator-loop-part).is_finite l.part-iterator;
  long : into_iter_len l.part-iterator ≡ length (into_iter_items l.part-iterator);
  same_workers : l.replay.workers ≡ l.fn.self.workers;
  told : IsToldWith l.fn.self.workers l.schedule l.fn.self.index l.fn.parts.items (string_bytes l.fn.self.trace) (string_bytes l.fn.self.text) (into_iter_items l.part-iterator) l.replay.index (string_bytes l.replay.trace) (string_bytes l.replay.text) l.batches_left;
  ran : HasRunBefore l.fn.self.workers l.fn.self.index l.fn.parts.items (into_iter_items l.part-iterator) l.replay.index;
}
