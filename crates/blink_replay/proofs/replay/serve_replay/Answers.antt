use Rattle.std.proofs.Common.{◌≡◌, ◌<◌, ℕ, All, Err, ap, subst}
use Rattle.std.proofs.lemmas.Result.{IfErr-weaker, err_from_is_err_and, on_ok_weaker}
use Rattle.blink_steps.specs.{IsFirstNoWorker}
use Rattle.blink_replay.specs.ServedReplay.{IsReplayText}
use Rattle.blink_settings.specs.declared.error.ServeError.TheVariants as serve
use Rattle.blink_steps.specs.declared.StepError.TheVariants as step
use Rattle.blink_replay.proofs.FirstThatIsNoWorker.{none_first, none_told, one_first}
use Rattle.blink_replay.proofs.ReplayIsWritten.{leaves_replay, tells_of_texts, texts_fault}
use Rattle.blink_replay.proofs.WhatWritersTake.{writes_whole}
use Rattle.blink_replay.proofs.replay.serve_replay.Goals as goal

-- the number that is told is the first that is no worker's
pub returns-in-Some-clause-no_worker : goal.returns-in-Some-clause-no_worker
returns-in-Some-clause-no_worker g c =
    let first = subst (λ (workers : ℕ). IsFirstNoWorker workers c.args.schedule.now c.in-Some.worker) c.workers.ensures.workers c.in-Some.ensures in
    λ worker. (
      λ same. let told : c.in-Some.worker ≡ worker = cc in subst (λ (w : ℕ). IsFirstNoWorker c.args.settings.now.workers c.args.schedule.now w) told first,
      λ other. ap (λ (w : ℕ). Err (serve.Step (step.NoWorker w))) (one_first c.args.settings.now.workers c.args.schedule.now c.in-Some.worker worker first other),
    )

-- where all are workers none is told
pub returns-in_err-of_script-in-None-clause-no_worker : goal.returns-in_err-of_script-in-None-clause-no_worker
returns-in_err-of_script-in-None-clause-no_worker g c =
    let all = subst (λ (workers : ℕ). All (λ worker. worker < workers) c.args.schedule.now) c.workers.ensures.workers c.in-None.ensures in
    let passed = err_from_is_err_and c.from_residual.result c.from_residual.ensures.1 in
    none_told c.args.settings.now.workers c.args.schedule.now all (g.R.Read.remaining c.args.reader.now) c.from_residual.result (rw (passed.1, passed.2) c.in_err-of_script-in-None.ensures.fault)

pub returns-in_err-of_script-in-None-clause-unread : goal.returns-in_err-of_script-in-None-clause-unread
returns-in_err-of_script-in-None-clause-unread g c =
    let all = subst (λ (workers : ℕ). All (λ worker. worker < workers) c.args.schedule.now) c.workers.ensures.workers c.in-None.ensures in
    λ worker first. absurd (none_first c.args.settings.now.workers c.args.schedule.now worker all first)

-- the texts are written
pub returns-in_ok-of_script-in-None-clause-replayed : goal.returns-in_ok-of_script-in-None-clause-replayed
returns-in_ok-of_script-in-None-clause-replayed g c =
    on_ok_weaker c.write.result
    (λ out. writes_whole g.W.Write.contents (g.R.Read.remaining c.args.reader.now) c.args.writer.now c.write.new.tracked_writer (IsReplayText c.args.settings.now.workers c.args.settings.now.fan c.args.schedule.now) _ c.in_ok-of_script-in-None.ensures.texts out)
    c.write.ensures.written

-- or aren't
pub returns-in_ok-of_script-in-None-clause-too_large : goal.returns-in_ok-of_script-in-None-clause-too_large
returns-in_ok-of_script-in-None-clause-too_large g c =
    IfErr-weaker c.write.result _ _
    (λ error left. tells_of_texts g.W.Write.contents c.args.settings.now.workers c.args.settings.now.fan c.args.schedule.now (g.R.Read.remaining c.args.reader.now) c.args.writer.now c.write.new.tracked_writer _ c.in_ok-of_script-in-None.ensures.texts error left)
    c.write.ensures.left

pub returns-in_ok-of_script-in-None-clause-no_worker : goal.returns-in_ok-of_script-in-None-clause-no_worker
returns-in_ok-of_script-in-None-clause-no_worker g c =
    let all = subst (λ (workers : ℕ). All (λ worker. worker < workers) c.args.schedule.now) c.workers.ensures.workers c.in-None.ensures in
    none_told c.args.settings.now.workers c.args.schedule.now all (g.R.Read.remaining c.args.reader.now) c.write.result
    (IfErr-weaker c.write.result _ _
    (λ error left. texts_fault g.W.Write.contents c.args.settings.now.workers c.args.settings.now.fan c.args.schedule.now (g.R.Read.remaining c.args.reader.now) c.args.writer.now c.write.new.tracked_writer _ c.in_ok-of_script-in-None.ensures.texts error left)
    c.write.ensures.left)

pub returns-in_ok-of_script-in-None-clause-unread : goal.returns-in_ok-of_script-in-None-clause-unread
returns-in_ok-of_script-in-None-clause-unread g c =
    let all = subst (λ (workers : ℕ). All (λ worker. worker < workers) c.args.schedule.now) c.workers.ensures.workers c.in-None.ensures in
    λ worker first. absurd (none_first c.args.settings.now.workers c.args.schedule.now worker all first)

pub returns-in_ok-of_script-in-None-clause-left : goal.returns-in_ok-of_script-in-None-clause-left
returns-in_ok-of_script-in-None-clause-left g c =
    IfErr-weaker c.write.result _ _
    (λ error left. leaves_replay g.W.Write.contents c.args.settings.now.workers c.args.settings.now.fan c.args.schedule.now (g.R.Read.remaining c.args.reader.now) c.args.writer.now c.write.new.tracked_writer _ c.in_ok-of_script-in-None.ensures.texts error left)
    c.write.ensures.left
