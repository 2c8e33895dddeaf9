use Rattle.std.proofs.Common.{sym, subst, ◌∙◌}
use Rattle.std.specs.Prelude.{IfOk, IfSome}
use Rattle.blink_live.specs.Snapshots.{AreNotedIn, IsSnapshot}
use Rattle.blink_live.specs.Views.{SeatState}
use Rattle.blink_live.proofs.found.FindsOfSeveral.{searched_more, searched_none, searched_seat}
use Rattle.blink_live.proofs.looked.SnapshotsGoOn.{marked_as_seen, noted_in_marked, searched_marked, searched_twice}
use Rattle.blink_live.proofs.live.Live.try_snapshot.Goals as goal

pub returns-then-lo-hi-clause-searched : goal.returns-then-lo-hi-clause-searched
returns-then-lo-hi-clause-searched c = searched_none c.args.seat.now.me c.requires.idle

pub returns-in_err-leaves-clause-searched : goal.returns-in_err-leaves-clause-searched
returns-in_err-leaves-clause-searched c = c.note_leaves.ensures.searched

pub mark_state-requires : goal.mark_state-requires
mark_state-requires c =
    let noted = c.note_leaves.ensures in
    record { seat = searched_seat c.args.self.now c.args.seat.now.table_id c.note_leaves.new.seat.table_id c.args.seat.now.me c.note_leaves.new.seat.me noted.same_table.0 noted.searched c.requires.seat }

pub read_leaves-requires-clause-seat : goal.read_leaves-requires-clause-seat
read_leaves-requires-clause-seat c =
    let noted = c.note_leaves.ensures in
    let marked = c.mark_state.ensures in
    let me : SeatState = c.args.seat.now.me in
    let then : SeatState = c.note_leaves.new.seat.me in
    let last : SeatState = c.mark_state.new.seat.me in
    searched_seat c.args.self.now c.args.seat.now.table_id c.mark_state.new.seat.table_id me last (marked.same_table.0 ∙ noted.same_table.0) (searched_more me then last noted.searched (searched_marked then last noted.searched.idle marked.marks)) c.requires.seat

pub read_leaves-requires-clause-idle : goal.read_leaves-requires-clause-idle
read_leaves-requires-clause-idle c = (searched_marked c.note_leaves.new.seat.me c.mark_state.new.seat.me c.note_leaves.ensures.searched.idle c.mark_state.ensures.marks).idle

pub read_leaves-requires-clause-marked : goal.read_leaves-requires-clause-marked
read_leaves-requires-clause-marked c = marked_as_seen c.note_leaves.new.seat.me c.mark_state.new.seat.me c.mark_state.ensures.marks

pub read_leaves-requires-clause-noted : goal.read_leaves-requires-clause-noted
read_leaves-requires-clause-noted c =
    subst (AreNotedIn c.args.self.now.counts c.mark_state.new.seat.me.0.look) (sym c.deref.ensures.value)
    (noted_in_marked c.args.self.now.counts c.note_leaves.new.seat.me c.mark_state.new.seat.me c.in_ok-leaves.leaves.items c.mark_state.ensures.marks c.in_ok-leaves.ensures.noted)

pub returns-clause-searched : goal.returns-clause-searched
returns-clause-searched c = searched_twice c.args.seat.now.me c.note_leaves.new.seat.me c.mark_state.new.seat.me c.read_leaves.new.seat.me c.note_leaves.ensures.searched c.mark_state.ensures.marks c.read_leaves.ensures.same

pub returns-clause-snapshot : goal.returns-clause-snapshot
returns-clause-snapshot c =
    subst (λ (x : SeatState). IfOk c.read_leaves.result (λ found. IfSome found (λ entries. IsSnapshot x.0.plan.opening x.0.seen c.args.lo c.args.hi entries.items))) (sym c.read_leaves.ensures.same) c.read_leaves.ensures.snapshot
