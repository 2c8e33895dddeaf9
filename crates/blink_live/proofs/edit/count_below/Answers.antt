use Rattle.std.proofs.Common.{arith}
use Rattle.blink_live.proofs.scanned.EntriesAreEdited.{counts_all, counts_more, lesser_within}
use Rattle.blink_live.proofs.edit.count_below.Goals as goal

pub overflow_add-count : goal.overflow_add-count
overflow_add-count c =
    let all = lesser_within c.args.key c.args.entries.now in
    let more = counts_more c.args.key c.args.entries.now c.loop-entry.entry-index c.loop-entry.count c.from-count.result c.loop-entry.invariant c.loop-entry-test.true c.from-count.ensures in
    omega (arith, all, more)

pub loop-entry-preserved : goal.loop-entry-preserved
loop-entry-preserved c =
    counts_more c.args.key c.args.entries.now c.loop-entry.entry-index c.loop-entry.count c.from-count.result c.loop-entry.invariant c.loop-entry-test.true c.from-count.ensures

pub returns : goal.returns
returns c = record {
  count = counts_all c.args.key c.args.entries.now c.loop-entry.entry-index c.loop-entry.count c.loop-entry.invariant c.loop-entry-test.false;
}
