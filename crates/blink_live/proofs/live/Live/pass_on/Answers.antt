use Rattle.std.proofs.Common.{◌≤◌, subst, refl, arith}
use Rattle.blink_rows.specs.{PlainCounts}
use Rattle.blink_live.specs.Views.{plan_of}
use Rattle.blink_live.proofs.told.NotesKeepTable.{note_keeps_table}
use Rattle.blink_live.proofs.live.Live.pass_on.Goals as goal

pub split_seat-note-requires : goal.split_seat-note-requires
split_seat-note-requires c =
    let some_number : 1 ≤ (plan_of c.args.self.now.table.shared.key).counts.numbers = subst (λ (counts : PlainCounts). 1 ≤ counts.numbers) c.args.self.now.counts_are c.args.self.now.some_number in (
      c.requires.tables.0,
      omega (arith, c.args.self.now.width, c.args.self.now.some_number),
      note_keeps_table (plan_of c.args.self.now.table.shared.key) c.args.from.now.id c.args.from.now.me.0 some_number,
    )

pub hear-requires-clause-picked : goal.hear-requires-clause-picked
hear-requires-clause-picked c = refl
