use Rattle.std.proofs.Common.{ℕ}
use Rattle.atomic_table.specs.declared.Seat.{Seat}
use Rattle.blink_batch.specs.declared.Op.{Op}
use Rattle.blink_live.specs.declared.view.View.{View}
use Rattle.blink_live.specs.Straight.{HasCome}
use Rattle.blink_live.specs.Updating.{IsUnderWay}
use Rattle.blink_live.proofs.live.Live.wait_on.Given as goal

-- the operation has come so far
abbrev pub invariant-loop : goal.invariant-loop
invariant-loop g l = record {
  turns : (goal.iterator-loop g).can_next l.iterator' × (goal.iterator-loop g).is_finite l.iterator';
  came : (op : Op) (first : Seat ℕ View) → IsUnderWay l.self op first l.fn.seat l.resting l.fn.room → HasCome l.self op first l.seat l.room l.rested;
}
