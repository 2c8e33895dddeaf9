use Rattle.std.proofs.Common.{◌∙◌}
use Rattle.blink_live.proofs.found.FindsOfSeveral.{searched_more, searched_seat}
use Rattle.blink_live.proofs.live.Live.snapshot_by.Goals as goal

pub try_snapshot-requires-clause-seat : goal.try_snapshot-requires-clause-seat
try_snapshot-requires-clause-seat c =
    let before = c.loop.invariant in
    searched_seat c.args.self.now c.args.seat.now.table_id c.loop.seat.table_id c.args.seat.now.me c.loop.seat.me before.same_table.0 before.searched c.requires.seat

pub try_snapshot-requires-clause-idle : goal.try_snapshot-requires-clause-idle
try_snapshot-requires-clause-idle c = c.loop.invariant.searched.idle

pub returns-in_err-found-clause-searched : goal.returns-in_err-found-clause-searched
returns-in_err-found-clause-searched c = searched_more c.args.seat.now.me c.loop.seat.me c.try_snapshot.new.seat.me c.loop.invariant.searched c.try_snapshot.ensures.searched

pub returns-then-is_some-clause-searched : goal.returns-then-is_some-clause-searched
returns-then-is_some-clause-searched c = searched_more c.args.seat.now.me c.loop.seat.me c.try_snapshot.new.seat.me c.loop.invariant.searched c.try_snapshot.ensures.searched

pub returns-then-is_some-clause-snapshot : goal.returns-then-is_some-clause-snapshot
returns-then-is_some-clause-snapshot c = c.in_ok-found.ensures.snapshot

pub loop-preserved : goal.loop-preserved
loop-preserved c =
    let before = c.loop.invariant in
    let tried = c.try_snapshot.ensures in record {
      same_table = (tried.same_table.0 ∙ before.same_table.0, tried.same_table.1 ∙ before.same_table.1);
      searched = searched_more c.args.seat.now.me c.loop.seat.me c.try_snapshot.new.seat.me before.searched tried.searched;
    }
