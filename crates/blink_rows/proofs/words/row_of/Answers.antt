use Rattle.std.proofs.Common.{◌-◌, length, ap, arith}
use Rattle.blink_rows.specs.declared.limits.TheConstants.{HEAD_WORDS, ROW_WORDS}
use Rattle.blink_rows.proofs.RowsOfContent.{row_of_words}
use Rattle.blink_rows.proofs.words.row_of.Goals as goal

pub returns : goal.returns
returns c =
    rw (c.copy_from_slice.ensures.after)
    (row_of_words c.args.head (ROW_WORDS - HEAD_WORDS) (omega (arith, c.copy_from_slice.ensures.len, ap length c.copy_from_slice.ensures.after)))
