use Rattle.std.proofs.Common.{refl}
use Rattle.blink_generation.proofs.recycle.find_past.Goals as goal

pub returns-then-place-live-clause-restocked : goal.returns-then-place-live-clause-restocked
returns-then-place-live-clause-restocked c = record { stock = c.args.seat.now.me.0.stock; is = refl }
