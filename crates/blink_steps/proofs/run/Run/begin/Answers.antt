use Rattle.std.proofs.Common.{◌≡◌, Some, ap, ◌∙◌, subst}
use Rattle.blink_machine.specs.declared.machine.State.TheVariants.{Start}
use Rattle.blink_machine.specs.{PlainMachine}
use Rattle.blink_steps.proofs.runs.NextInItsSeat.{has_operation, ready_in_seat, turn_from_seat, unseated}
use Rattle.blink_steps.proofs.runs.TurnFromItsParts.{IsTurn}
use Rattle.blink_steps.specs.Run.{PlainRun, idle_seat}
use Rattle.blink_steps.specs.Seats.{with_seat}
use Rattle.blink_steps.proofs.run.Run.begin.Goals as goal
use Rattle.blink_steps.proofs.run.Run.begin.Goals.{In-Err}

pub go_on-requires-clause-ready : goal.go_on-requires-clause-ready
go_on-requires-clause-ready c =
    let s = c.seat_next.ensures in
    rw s.seated (ready_in_seat c.args.self.now c.args.worker c.args.place s.m s.next c.requires.ready.seated s.was_next c.requires.ready)

pub go_on-requires-clause-busy : goal.go_on-requires-clause-busy
go_on-requires-clause-busy c =
    let s = c.seat_next.ensures in
    rw s.seated (has_operation c.args.self.now c.args.worker c.args.place s.m s.next c.requires.ready.seated s.was_next)

pub unseat-requires-clause-of_lane : goal.unseat-requires-clause-of_lane
unseat-requires-clause-of_lane c =
    let s = c.seat_next.ensures in
    rw (c.in-Err.ensures.unchanged, s.seated) s.its_own

pub returns-in-Err-clause-unchanged : goal.returns-in-Err-clause-unchanged
returns-in-Err-clause-unchanged c =
    let s = c.seat_next.ensures in
    c.unseat.ensures
    ∙ ap (λ (run : PlainRun). with_seat run c.args.worker (idle_seat (Some c.args.place))) (c.in-Err.ensures.unchanged ∙ s.seated)
    ∙ unseated c.args.self.now c.args.worker c.args.place s.m s.next c.requires.ready.seated s.was_next c.requires.idle

pub returns-in-Ok-clause-turn : goal.returns-in-Ok-clause-turn
returns-in-Ok-clause-turn c =
    let s = c.seat_next.ensures in
    let start : s.m.state ≡ Start = ap (λ (m : PlainMachine). m.state) s.same_machine in
    turn_from_seat c.args.self.now c.args.worker c.args.place s.m s.next c.requires.ready.seated s.was_next start c.in-Ok.step c.go_on.new.self
    (subst (λ (run : PlainRun). IsTurn run c.args.worker c.in-Ok.step c.go_on.new.self) s.seated c.in-Ok.ensures.turn)
