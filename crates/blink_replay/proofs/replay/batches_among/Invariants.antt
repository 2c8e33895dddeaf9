use Rattle.std.proofs.Common.{◌≡◌, take, count_by}
use Rattle.blink_replay.specs.Served.{is_batch}
use Rattle.blink_replay.proofs.replay.batches_among.Given as goal

-- the batches so far are counted
abbrev pub invariant-loop-part : goal.invariant-loop-part
invariant-loop-part l = l.batches ≡ count_by is_batch (take l.part-index l.parts)
