use Rattle.std.proofs.Common.{◌<◌, suc, ap, ◌∙◌, sym, subst, arith}
use Rattle.blink_rows.specs.{PlainCounts}
use Rattle.blink_machine.specs.declared.machine.State.TheVariants.{Going}
use Rattle.blink_live.specs.Snapshots.{NotesMore}
use Rattle.blink_live.specs.Views.{IsCommon, SeatState, plan_of}
use Rattle.blink_live.proofs.looked.LeavesAreNoted.{notes_leaf_at}
use Rattle.blink_live.proofs.live.Live.note_word.Goals as goal

pub load-requires : goal.load-requires
load-requires c =
    let live = c.args.self.now in
    let in_range = c.requires.in_range in
    let at = c.requires.at in
    let low = c.if-level-gt0.false in (
      c.requires.seat.same_table,
      omega (arith, live.width, in_range),
      notes_leaf_at (plan_of live.table.shared.key) live.table.shared.table_id.slots c.args.seat.now.id c.args.number c.args.seat.now.me at.machine c.requires.seat.role at.operation
          (at.state ∙ ap (Going c.args.number) (omega (arith, low))) in_range.0 (subst (λ (counts : PlainCounts). c.args.number < counts.numbers) live.counts_are in_range.1)
          (λ common. at.announced (subst IsCommon (sym c.requires.seat.same_plan) common)),
    )

pub returns-clause-more : goal.returns-clause-more
returns-clause-more c =
    subst (λ (x : SeatState). NotesMore c.args.seat.now.me.0.look x.0.look) (sym c.load.ensures.2) (λ number row has. (suc has.0, let inside = has.1 in omega (arith, inside), has.2))
