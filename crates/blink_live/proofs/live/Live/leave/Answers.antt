use Rattle.blink_live.proofs.live.Live.leave.Goals as goal

pub loop-seat-preserved : goal.loop-seat-preserved
loop-seat-preserved c op first is = c.turn.ensures.under_way op first (c.loop-seat.invariant op first is)

pub turn-requires-clause-under_way : goal.turn-requires-clause-under_way
turn-requires-clause-under_way c =
    let its = c.requires.under_way in (its.0, its.1, c.loop-seat.invariant its.0 its.1 its.2)
