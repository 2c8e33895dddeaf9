use Rattle.std.proofs.Common.{refl, arith}
use Rattle.blink_generation.proofs.recycle.check_places.Goals as goal

pub loop-init : goal.loop-init
loop-init c = record { same = (refl, refl); restocked = record { stock = c.args.seat.now.me.0.stock; is = refl }; shelved = c.requires.shelved; none_lost = refl; free = omega arith }
