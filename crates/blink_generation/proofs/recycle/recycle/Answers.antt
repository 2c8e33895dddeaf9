use Rattle.std.proofs.Common.{refl}
use Rattle.blink_generation.proofs.recycle.recycle.Goals as goal

pub returns-then-len-least-clause-restocked : goal.returns-then-len-least-clause-restocked
returns-then-len-least-clause-restocked c = record { stock = c.args.seat.now.me.0.stock; is = refl }
