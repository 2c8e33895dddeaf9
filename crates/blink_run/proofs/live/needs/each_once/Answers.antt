-- Sorting keeps the keys, and leaving repeats out keeps each of them once.
use Rattle.std.proofs.lemmas.List.Filters.{dedup_is}
use Rattle.std.proofs.Math.Dec.{eqb}
use Rattle.blink_run.proofs.KeysEachOnce.{each_once_from_sorted, same_without_repeats}
use Rattle.blink_run.proofs.live.needs.each_once.Goals as goal

pub returns-clause-same : goal.returns-clause-same
returns-clause-same c = rw (dedup_is eqb _ _ c.dedup.ensures.filtered) (same_without_repeats c.args.keys.items c.sort_unstable.new.self.items c.sort_unstable.ensures.permutation)

pub returns-clause-once : goal.returns-clause-once
returns-clause-once c = rw (dedup_is eqb _ _ c.dedup.ensures.filtered) (each_once_from_sorted c.sort_unstable.new.self.items c.sort_unstable.ensures.sorted)
