use Rattle.std.proofs.Common.{suc, arith}
use Rattle.blink_live.proofs.changed.RowsTaken.{less_space}
use Rattle.blink_live.proofs.live.Live.keep_out.Goals as goal

pub returns-in_default-clause-space : goal.returns-in_default-clause-space
returns-in_default-clause-space c count has = less_space c.args.room.now.shelf (suc count) count (omega arith) has
