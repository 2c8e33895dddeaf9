use Rattle.std.proofs.Common.{ℕ, List, length, refl, sym, ap, arith}
use Rattle.blink_generation.proofs.recycle.see_places.Goals as goal

pub loop-place-init : goal.loop-place-init
loop-place-init c = record {
  same = (refl, refl);
  restocked = record { stock = c.args.seat.now.me.0.stock; is = refl };
  shelved = c.requires.shelved;
  next = sym (ap (λ (l : List ℕ). length l) c.requires.none_seen);
  none_lost = refl;
  free = omega arith;
}
