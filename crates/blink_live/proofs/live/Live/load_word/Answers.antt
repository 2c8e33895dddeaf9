use Rattle.std.proofs.Common.{arith}
use Rattle.blink_live.proofs.found.ReadsRow.{reads_row_word}
use Rattle.blink_live.proofs.live.Live.load_word.Goals as goal

pub overflow_add-start : goal.overflow_add-start
overflow_add-start c = omega (arith, c.args.self.now.width, c.requires.inside, c.requires.place, c.word_count-count.ensures)

pub load-requires : goal.load-requires
load-requires c = (
  c.requires.seat.same_table,
  omega (arith, c.args.self.now.width, c.requires.inside, c.requires.place),
  reads_row_word _ _ _ _ _,
)
