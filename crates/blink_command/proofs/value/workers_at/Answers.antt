use Rattle.std.proofs.Common.{◌∙◌, Some, ap, map, sym}
use Rattle.blink_command.specs.Value.{worker_of}
use Rattle.blink_command.proofs.OneMissing.{one_missing, one_more}
use Rattle.blink_command.proofs.value.workers_at.Goals as goal

-- a part that spells no worker leaves no schedule
pub returns-in-None : goal.returns-in-None
returns-in-None c = λ workers all.
    one_missing (λ part. worker_of part.now) c.args.parts.now c.loop-part.part-index _ workers c.loop-part-test.true (sym c.worker_of.ensures ∙ c.in-None.is) all

-- a part more spells a worker more
pub loop-part-preserved : goal.loop-part-preserved
loop-part-preserved c =
    one_more (λ part. worker_of part.now) c.args.parts.now c.loop-part.part-index _ _ _ c.loop-part-test.true c.loop-part.invariant (sym c.worker_of.ensures ∙ c.in-Some.is)
    ∙ ap (map Some) (sym c.in_ok-push-in-Some.ensures.items)
