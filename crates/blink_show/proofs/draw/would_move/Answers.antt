use Rattle.std.proofs.Common.{◌↔◌, IsTrue, rules}
use Rattle.blink_steps.specs.{IsIdleWorker, WouldWait}
use Rattle.blink_show.specs.Draw.{LeavesUndecided}
use Rattle.blink_show.proofs.WhoWouldMove.{leaver, left}
use Rattle.blink_show.proofs.draw.would_move.Goals as goal

-- an idle worker would move if it leaves an operation undecided, and only then
pub returns : goal.returns
returns c =
    let world = c.args.world.now in
    let run = c.args.world.now.run in
    let no_wait : ¬ WouldWait run c.args.worker = λ waits. let told : IsTrue c.waits.result = c.waits.ensures.1 waits in let not = c.if-waits.false in absurd (cc) in
    let is_idle : IsTrue c.is_idle.result = search rules in
    let idle : IsIdleWorker run c.args.worker = c.is_idle.ensures.0 is_idle in
    let its : IsTrue c.leaves_undecided.result ↔ LeavesUndecided run.outcome.answers run.assignment.lanes c.args.worker = rw (c.answers.ensures.answers, c.requires.owners) at c.leaves_undecided.ensures in
    let lawful = c.schedule-lawful.ensures.of_its_schedule in (
      λ leaves. leaver world c.args.worker lawful c.answers.ensures.promised no_wait (its.0 leaves),
      λ moves. its.1 (left world c.args.worker lawful idle moves),
    )
