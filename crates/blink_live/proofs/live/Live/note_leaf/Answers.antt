use Rattle.std.proofs.Common.{◌≡◌, ◌≤◌, ap, ◌∙◌, sym, subst, arith}
use Rattle.blink_rows.specs.{page_words, row_in}
use Rattle.blink_live.specs.Snapshots.{NotesMore}
use Rattle.blink_live.specs.Views.{SeatState}
use Rattle.blink_live.specs.Words.{row_start}
use Rattle.blink_live.proofs.table.VersionsOfPages.{same_head}
use Rattle.blink_live.proofs.live.Live.note_leaf.Goals as goal

pub returns-clause-more : goal.returns-clause-more
returns-clause-more c = subst (λ (x : SeatState). NotesMore c.args.seat.now.me.0.look x.0.look) (sym c.load_word-high.ensures.same.2) c.come_to_noted-word.ensures.more

pub returns-clause-high : goal.returns-clause-high
returns-clause-high c =
    let at = c.come_to_noted-word.ensures.leaf in
    let base : c.load_word-high.result ≡ at.reads.base.high = c.load_word-high.ensures.word (row_in c.come_to_noted-word.result.1) (page_words at.reads.base) (c.row_place-start.ensures.start ∙ ap (row_start c.args.self.now.counts) c.row_in.ensures.row) at.reads.reads (omega arith) in
    let same : at.leaf.high ≡ at.reads.base.high = (same_head at.reads.version).high in
    let high : c.load_word-high.result ≡ at.leaf.high = base ∙ sym same in
    let reaches : c.args.key ≤ at.leaf.high = at.reaches in
    omega (arith, high, reaches)
