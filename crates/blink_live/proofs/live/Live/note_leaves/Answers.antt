use Rattle.std.proofs.Common.{◌∙◌, sym, subst, arith}
use Rattle.blink_live.specs.Snapshots.{AreNotedIn}
use Rattle.blink_live.proofs.found.FindsOfSeveral.{searched_more, searched_seat}
use Rattle.blink_live.proofs.looked.SnapshotsGoOn.{noted_more}
use Rattle.blink_live.proofs.live.Live.note_leaves.Goals as goal

pub note_leaf-high-requires-clause-seat : goal.note_leaf-high-requires-clause-seat
note_leaf-high-requires-clause-seat c =
    let before = c.loop-leaves.invariant in
    searched_seat c.args.self.now c.args.seat.now.table_id c.loop-leaves.seat.table_id c.args.seat.now.me c.loop-leaves.seat.me before.same_table.0 before.searched c.requires.seat

pub note_leaf-high-requires-clause-idle : goal.note_leaf-high-requires-clause-idle
note_leaf-high-requires-clause-idle c = c.loop-leaves.invariant.searched.idle

pub returns-in_err-push-clause-searched : goal.returns-in_err-push-clause-searched
returns-in_err-push-clause-searched c =
    searched_more c.args.seat.now.me c.loop-leaves.seat.me c.note_leaf-high.new.seat.me c.loop-leaves.invariant.searched c.note_leaf-high.ensures.searched

pub returns-then-high-hi-clause-searched : goal.returns-then-high-hi-clause-searched
returns-then-high-hi-clause-searched c =
    searched_more c.args.seat.now.me c.loop-leaves.seat.me c.note_leaf-high.new.seat.me c.loop-leaves.invariant.searched c.note_leaf-high.ensures.searched

pub returns-then-high-hi-clause-noted : goal.returns-then-high-hi-clause-noted
returns-then-high-hi-clause-noted c =
    let noted = c.note_leaf-high.ensures in
    subst (AreNotedIn c.args.self.now.counts c.note_leaf-high.new.seat.me.0.look) (sym c.in_ok-push.ensures.items)
    (noted_more c.args.self.now.counts c.loop-leaves.seat.me.0.look c.note_leaf-high.new.seat.me.0.look c.loop-leaves.leaves.items c.note_leaf-high.result.0 noted.more c.loop-leaves.invariant.noted noted.noted)

pub loop-leaves-preserved : goal.loop-leaves-preserved
loop-leaves-preserved c =
    let before = c.loop-leaves.invariant in
    let noted = c.note_leaf-high.ensures in record {
      same_table = (noted.same_table.0 ∙ before.same_table.0, noted.same_table.1 ∙ before.same_table.1);
      searched = searched_more c.args.seat.now.me c.loop-leaves.seat.me c.note_leaf-high.new.seat.me before.searched noted.searched;
      range = omega arith;
      noted = subst (AreNotedIn c.args.self.now.counts c.note_leaf-high.new.seat.me.0.look) (sym c.in_ok-push.ensures.items)
          (noted_more c.args.self.now.counts c.loop-leaves.seat.me.0.look c.note_leaf-high.new.seat.me.0.look c.loop-leaves.leaves.items c.note_leaf-high.result.0 noted.more before.noted noted.noted);
    }
