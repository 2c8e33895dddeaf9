use Rattle.std.proofs.Common.{refl, sym, subst}
use Rattle.blink_live.specs.Pendings.{for_latch}
use Rattle.blink_live.specs.Straight.{HasCome, HasTurned}
use Rattle.blink_live.proofs.live.Live.change_from.Goals as goal

pub returns-then-left-eq0 : goal.returns-then-left-eq0
returns-then-left-eq0 c first is =
    let live = c.args.self.now in
    let turned = subst (HasTurned live c.args.op c.change_leaf.new.descent first c.change_leaf.new.seat c.change_leaf.new.room) c.in-Waits.is (c.change_leaf.ensures first (c.loop.invariant first is)) in
    subst (HasCome live c.args.op first c.change_leaf.new.seat c.change_leaf.new.room) (sym c.rest_at.ensures) (turned, for_latch c.change_leaf.new.descent.leaf refl)

pub returns : goal.returns
returns c first is = subst (HasCome c.args.self.now c.args.op first c.loop.seat c.loop.room) (sym c.rest_at-2.ensures) (c.loop.invariant first is, for_latch c.loop.descent.leaf refl)
