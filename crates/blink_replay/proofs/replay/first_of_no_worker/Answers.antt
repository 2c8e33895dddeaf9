use Rattle.std.proofs.Common.{◌<◌, ◌+◌, All, take, drop, sym, ap, ◌∙◌, subst, List, ℕ, ◌++◌, arith}
use Rattle.std.proofs.lemmas.List.{drop_more, take_all, take-append-drop}
use Rattle.std.proofs.lemmas.List.Elements.{All-more}
use Rattle.blink_replay.proofs.replay.first_of_no_worker.Goals as goal

-- this number is no worker's, and those before it are workers
pub returns-then-worker-workers : goal.returns-then-worker-workers
returns-then-worker-workers c =
    let at = c.loop-worker.worker-index in
    let schedule : List ℕ = c.args.schedule.now in
    record {
      prefix = take at schedule;
      rest = drop (at + 1) schedule;
      parts = sym (take-append-drop at schedule) ∙ ap (λ (rest : List ℕ). take at schedule ++ rest) (drop_more schedule at 0 (omega (arith, c.loop-worker-test.true)));
      no_worker = omega (arith, c.if-worker-workers.true);
      workers_before = c.loop-worker.invariant;
    }

-- one number more is a worker
pub loop-worker-preserved : goal.loop-worker-preserved
loop-worker-preserved c =
    All-more (λ worker. worker < c.args.workers) c.args.schedule.now c.loop-worker.worker-index 0 (omega (arith, c.loop-worker-test.true)) c.loop-worker.invariant (omega (arith, c.if-worker-workers.false))

-- all are
pub returns : goal.returns
returns c = subst (All (λ worker. worker < c.args.workers)) (take_all c.loop-worker.worker-index c.args.schedule.now (omega arith)) c.loop-worker.invariant
