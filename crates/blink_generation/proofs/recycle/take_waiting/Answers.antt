use Rattle.std.proofs.Common.{refl}
use Rattle.blink_generation.proofs.recycle.take_waiting.Goals as goal

pub returns-else-is_ok-clause-restocked : goal.returns-else-is_ok-clause-restocked
returns-else-is_ok-clause-restocked c = record { stock = c.args.seat.now.me.0.stock; is = refl }
