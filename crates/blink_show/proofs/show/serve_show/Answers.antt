use Rattle.std.proofs.Common.{◌≡◌, ◌<◌, ℕ, All, Result, Err, IfErr, ap, subst}
use Rattle.blink_steps.specs.{IsFirstNoWorker}
use Rattle.blink_replay.specs.{TellsWorkersFault}
use Rattle.blink_settings.specs.declared.error.ServeError.{ServeError}
use Rattle.blink_settings.specs.declared.error.ServeError.TheVariants as serve
use Rattle.blink_steps.specs.declared.StepError.TheVariants as step
use Rattle.blink_replay.proofs.Offered.{none_first, one_first}
use Rattle.blink_show.proofs.show.serve_show.Goals as goal

-- the number that is told is the first that is no worker's
pub returns-in-Some-clause-no_worker : goal.returns-in-Some-clause-no_worker
returns-in-Some-clause-no_worker g c =
    let first = subst (λ (workers : ℕ). IsFirstNoWorker workers c.args.schedule.now c.in-Some.worker) c.workers.ensures.workers c.in-Some.ensures in
    λ worker. (
      λ same. let told : c.in-Some.worker ≡ worker = cc in subst (λ (w : ℕ). IsFirstNoWorker c.args.settings.now.workers c.args.schedule.now w) told first,
      λ other. ap (λ (w : ℕ). Err (serve.Step (step.NoWorker w))) (one_first c.args.settings.now.workers c.args.schedule.now c.in-Some.worker worker first other),
    )

-- where all are workers none is told
pub returns-in-None-clause-no_worker : goal.returns-in-None-clause-no_worker
returns-in-None-clause-no_worker g c =
    let all = subst (λ (workers : ℕ). All (λ worker. worker < workers) c.args.schedule.now) c.workers.ensures.workers c.in-None.ensures in
    λ worker. (
      λ same. absurd (subst (λ (answer : Result (Unit {0}) ServeError). IfErr answer (TellsWorkersFault (g.R.Read.remaining c.args.reader.now))) same c.show_script.ensures.fault),
      λ first. absurd (none_first c.args.settings.now.workers c.args.schedule.now worker all first),
    )

pub returns-in-None-clause-unread : goal.returns-in-None-clause-unread
returns-in-None-clause-unread g c =
    let all = subst (λ (workers : ℕ). All (λ worker. worker < workers) c.args.schedule.now) c.workers.ensures.workers c.in-None.ensures in
    λ worker first. absurd (none_first c.args.settings.now.workers c.args.schedule.now worker all first)
