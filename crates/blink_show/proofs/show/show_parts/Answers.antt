use Rattle.std.proofs.Common.{ℕ, subst}
use Rattle.std.proofs.lemmas.Result.{on_ok_weaker}
use Rattle.blink_replay.specs.{HaveRunParts}
use Rattle.blink_show.specs.Show.{last_batch}
use Rattle.blink_show.proofs.show.show_parts.Goals as goal

-- the last batch is shown over the tree that those before it leave
pub returns-in_ok-index-in-Some-clause-shown : goal.returns-in_ok-index-in-Some-clause-shown
returns-in_ok-index-in-Some-clause-shown c =
    let prefix = c.take_last_batch.new.parts.items in
    let index = c.in_ok-index-in-Some.index in
    let run = subst (λ (workers : ℕ). HaveRunParts workers c.args.index prefix index) c.workers-workers.ensures.workers c.in_ok-index-in-Some.ensures.run in
    on_ok_weaker c.show_batch.result
    (λ adds. (adds.0, last_batch prefix c.in-Some.batch index c.in-Some.ensures run adds.1, adds.2))
    c.show_batch.ensures.shown
