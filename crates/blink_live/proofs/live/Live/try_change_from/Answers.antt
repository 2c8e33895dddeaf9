use Rattle.std.proofs.Common.{ℕ, None, sym, subst, arith}
use Rattle.atomic_table.specs.declared.Seat.{Seat}
use Rattle.blink_live.specs.declared.room.Room.{Room}
use Rattle.blink_live.specs.declared.view.View.{View}
use Rattle.blink_live.specs.GivingUp.{MayGiveUp}
use Rattle.blink_live.specs.Straight.{HasTurned, wanting}
use Rattle.blink_live.specs.Updating.{IsUnderWay}
use Rattle.blink_live.proofs.changed.OperationsAreGivenUp.{given_up_where_it_waits, may_where_full, may_where_it_waits}
use Rattle.blink_live.proofs.live.Live.try_change_from.Goals as goal
use Rattle.blink_live.proofs.live.Live.try_change_from.Goals.{else-loop-test, then-loop-test+in-Waits+then-left-eq0}

pub give_latch_up-requires-clause-may : goal.give_latch_up-requires-clause-may
give_latch_up-requires-clause-may c =
    let first = c.requires.wants.0 in
    let turned = subst (HasTurned c.args.self.now c.args.op c.change_leaf.new.descent first c.change_leaf.new.seat c.change_leaf.new.room) c.in-Whole.is (c.change_leaf.ensures first (c.loop.invariant first c.requires.wants.1)) in
    may_where_full c.change_leaf.new.descent turned

pub give_latch_up-requires-clause-in_range : goal.give_latch_up-requires-clause-in_range
give_latch_up-requires-clause-in_range c =
    let first = c.requires.wants.0 in
    let turned = subst (HasTurned c.args.self.now c.args.op c.change_leaf.new.descent first c.change_leaf.new.seat c.change_leaf.new.room) c.in-Whole.is (c.change_leaf.ensures first (c.loop.invariant first c.requires.wants.1)) in
    turned.leaf_in_range

pub give_up-requires-clause-may : goal.give_up-requires-clause-may
give_up-requires-clause-may c =
    let first = c.requires.wants.0 in
    let before = c.loop.invariant first c.requires.wants.1 in
    elim c.loop-test.branch [
      | else-loop-test w ↦ subst (λ (seat : Seat ℕ View). MayGiveUp seat.me.0 None) (sym w.seat-is) (may_where_it_waits c.loop.descent before)
      | then-loop-test+in-Waits+then-left-eq0 w ↦
          let turned = subst (HasTurned c.args.self.now c.args.op w.change_leaf.new.descent first w.change_leaf.new.seat w.change_leaf.new.room) w.in-Waits.is (w.change_leaf.ensures first before) in
          subst (λ (seat : Seat ℕ View). MayGiveUp seat.me.0 None) (sym w.seat-is) (may_where_it_waits w.change_leaf.new.descent turned)
    ]

pub returns-clause-given_up : goal.returns-clause-given_up
returns-clause-given_up c first is =
    let live = c.args.self.now in
    let before = c.loop.invariant first is in
    elim c.loop-test.branch [
      | else-loop-test w ↦
          let here = subst (λ (t : Seat ℕ View × Room). IsUnderWay live c.args.op first t.0 (wanting live.fan c.args.op c.loop.descent) t.1) (λ i. (sym w.seat-is i, sym w.room-is i)) before in
          given_up_where_it_waits c.loop.descent here c.give_up.new.seat c.give_up.ensures.same c.give_up.ensures.idle
      | then-loop-test+in-Waits+then-left-eq0 w ↦
          let turned = subst (HasTurned live c.args.op w.change_leaf.new.descent first w.change_leaf.new.seat w.change_leaf.new.room) w.in-Waits.is (w.change_leaf.ensures first before) in
          let here = subst (λ (t : Seat ℕ View × Room). IsUnderWay live c.args.op first t.0 (wanting live.fan c.args.op w.change_leaf.new.descent) t.1) (λ i. (sym w.seat-is i, sym w.room-is i)) turned in
          given_up_where_it_waits w.change_leaf.new.descent here c.give_up.new.seat c.give_up.ensures.same c.give_up.ensures.idle
    ]

pub returns-in-Whole-clause-given_up : goal.returns-in-Whole-clause-given_up
returns-in-Whole-clause-given_up c = grind arith
