use Rattle.std.proofs.Common.{codes, string_bytes}
use Rattle.blink_steps.specs.{IsFirstMover}
use Rattle.blink_show.proofs.TurnsAreShown.{none_yet, one_more}
use Rattle.blink_show.proofs.turns.show_finish.Goals as goal

pub loop-worker-init : goal.loop-worker-init
loop-worker-init c =
    let none = none_yet (codes "finish ") (λ turns. IsFirstMover) c.args.world.now (string_bytes c.args.film.now.text) in
    record { kept = c.requires; shown = (none.0, (_, none.1), none.2) }

-- one turn more is shown
pub loop-worker-preserved : goal.loop-worker-preserved
loop-worker-preserved c =
    let so_far = c.loop-worker.invariant in
    let shown = so_far.shown in
    let more = one_more (codes "finish ") (λ turns. IsFirstMover) c.args.world.now c.loop-worker.world c.advance.new.self shown.1.0 (string_bytes c.args.film.now.text) (string_bytes c.loop-worker.film.text) (string_bytes c.turn.new.self.text) c.in-Some.worker c.in_ok-step.step
    (shown.0, shown.1.1, shown.2) c.in-Some.ensures.first c.in_ok-step.ensures.turn (c.in_ok-turn.ensures.text c.loop-worker.world.run so_far.kept) in
    record { kept = c.in_ok-turn.ensures.kept; shown = (more.0, (_, more.1), more.2) }
