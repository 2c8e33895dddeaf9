use Rattle.std.proofs.Common.{◌≡◌, EachIndex, MatchOption, length, arith}
use Rattle.blink_batch.specs.Cut.{IsFirstSplitKey, IsSplitKey}
use Rattle.blink_batch.proofs.CutsSplitNoKey.{lawful_exactly_whole}
use Rattle.blink_batch.proofs.cut.Cut.is_for.Goals as goal

-- as many lanes as operations, and no split key
pub returns-then-len-ops : goal.returns-then-len-ops
returns-then-len-ops c =
    let ops = c.ops-ops.result.now in
    let lanes = c.self.inside.lanes.items in
    let long : length lanes ≡ length ops = omega (arith, c.len.ensures, c.if-len-ops.true, c.self.inside.lanes.ok.0) in
    let found : MatchOption c.first_split_key.result (EachIndex ops (λ place. ¬ IsSplitKey ops lanes place)) (IsFirstSplitKey ops lanes) = rw c.deref.ensures.value at c.first_split_key.ensures in
    rw (← c.self.view_is, ← c.ops-ops.ensures.ops) (lawful_exactly_whole ops c.self.inside.workers lanes c.first_split_key.result c.is_none.result long c.self.invariant.lanes_are_workers found c.is_none.ensures)
