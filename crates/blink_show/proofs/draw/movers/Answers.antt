use Rattle.blink_show.proofs.MoversAreThose.{mover_more, stayer_more}
use Rattle.blink_show.proofs.draw.movers.Goals.{then-would_move+in_ok-push, else-would_move}
use Rattle.blink_show.proofs.draw.movers.Goals as goal

-- one more worker is looked at
pub loop-worker-preserved : goal.loop-worker-preserved
loop-worker-preserved c =
    let run = c.args.world.now.run in
    elim c.if-would_move.branch [
      | then-would_move+in_ok-push w ↦ rw (w.movers-is) (mover_more run c.loop-worker.worker c.loop-worker.movers.items _ c.loop-worker.invariant (c.would_move.ensures.0 w.if-would_move.true) w.in_ok-push.ensures.items)
      | else-would_move w ↦ rw (w.movers-is) (stayer_more run c.loop-worker.worker c.loop-worker.movers.items c.loop-worker.invariant (λ moves. let told = c.would_move.ensures.1 moves in let not = w.if-would_move.false in absurd (cc)))
    ]
