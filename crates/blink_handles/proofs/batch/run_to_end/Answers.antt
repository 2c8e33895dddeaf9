use Rattle.std.proofs.Common.{subst}
use Rattle.blink_store.specs.{PlainStore}
use Rattle.blink_steps.specs.{IsStart}
use Rattle.blink_handles.proofs.RunOfBatch.{run_done}
use Rattle.blink_handles.proofs.batch.run_to_end.Goals as goal

pub returns-clause-ran : goal.returns-clause-ran
returns-clause-ran c =
    let begins = subst (λ (store : PlainStore). IsStart store c.args.batch c.into_lanes.result c.in-Ok-started.world) c.into_rest.ensures c.in-Ok-started.ensures.start in
    run_done c.args.index c.args.batch c.into_lanes.result c.in-Ok-started.world c.finish.new.self begins
    (rw (c.into_lanes.ensures.workers, c.into_lanes.ensures.lanes) c.in-Ok.ensures.lawful)
    c.finish.ensures.same_start c.finish.ensures.same_batch c.finish.ensures.promised c.in-Ok-finish.ensures.ended c.the_map_is_kept.ensures c.no_other_map_is_kept.ensures
