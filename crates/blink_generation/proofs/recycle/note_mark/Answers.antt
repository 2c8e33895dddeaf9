use Rattle.std.proofs.Common.{refl}
use Rattle.blink_generation.proofs.recycle.note_mark.Goals as goal

pub returns-then-len-capacity-clause-restocked : goal.returns-then-len-capacity-clause-restocked
returns-then-len-capacity-clause-restocked c = record { stock = c.args.seat.now.me.0.stock; is = refl }
