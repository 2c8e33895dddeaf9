use Rattle.std.proofs.Common.{◌<◌, subst, arith}
use Rattle.blink_rows.specs.{PlainCounts}
use Rattle.blink_live.proofs.found.ReadsPage.{reads_page_word}
use Rattle.blink_live.proofs.live.Live.load_page.Goals as goal

pub load-requires : goal.load-requires
load-requires c =
    let in_range = c.requires.in_range in
    let at = c.requires.at in (
      c.requires.seat.same_table,
      omega (arith, c.args.self.now.width, in_range),
      reads_page_word _ _ _ _ _ at.0 c.requires.seat.role at.1 at.2 at.3 in_range.0
          (subst (λ (counts : PlainCounts). c.args.number < counts.numbers) c.args.self.now.counts_are in_range.1) c.requires.announced,
    )
