use Rattle.std.proofs.Common.{refl}
use Rattle.blink_generation.proofs.recycle.free_rows.Goals as goal

pub loop-init : goal.loop-init
loop-init c = record {
  same = (refl, refl);
  other_rows = record { rows = c.args.seat.now.me.0.rows; stock = c.args.seat.now.me.0.stock; is = refl };
  rows = c.requires.rows;
  in_order = c.requires.in_order;
  shelved = c.requires.shelved;
  none_lost = refl;
  at_hand = refl;
}
