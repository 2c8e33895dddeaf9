use Rattle.std.proofs.Common.{nat_lt, rules}
use Rattle.std.proofs.lemmas.List.Sorted.{IsPartitionPoint-from_clause}
use Rattle.blink_batch.proofs.LaneAmongRanges.{lane_by_point, parted_by_key}
use Rattle.blink_batch.proofs.cut.lane_in_ranges.Goals as goal

-- the bounds below the key end at its lane
pub returns : goal.returns
returns c =
    let parted = parted_by_key c.args.bounds.now c.args.key c.requires.1 in
    let point = IsPartitionPoint-from_clause (λ bound. nat_lt bound c.args.key) _ _ c.partition_point.ensures.partitioned parted (λ a r q k. search rules) in
    lane_by_point c.args.bounds.now c.args.key c.partition_point.result c.partition_point.ensures.bound point
