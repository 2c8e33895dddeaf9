use Rattle.std.proofs.Common.{◌∙◌, ap, arith}
use Rattle.blink_show.specs.Lines.{line_of_worker, worker_line}
use Rattle.blink_show.proofs.OneMore.{line_more}
use Rattle.blink_show.proofs.line.push_workers.Goals as goal

pub loop-worker-preserved : goal.loop-worker-preserved
loop-worker-preserved c =
    line_more (line_of_worker c.args.world.now.run) c.args.lines.now.items c.loop-worker.lines.items c.push.new.self.items c.in_ok-worker_line.field-0 0 c.loop-worker.worker c.loop-worker.worker (omega arith) c.loop-worker.invariant c.in_ok-push.ensures.items
    (c.in_ok-worker_line.ensures ∙ ap (worker_line c.loop-worker.worker) c.working.ensures)
