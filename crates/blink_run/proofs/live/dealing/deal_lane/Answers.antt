-- The lane's keys are free and its changes allowed, so it is dealt.
use Rattle.std.proofs.Common.{ℕ, List, subst, arith}
use Rattle.blink_run.specs.Lanes.{IsNeeded, lane_ops}
use Rattle.blink_run.proofs.LanesAreDealt.{changes_are_allowed, dealt_one_more, keys_are_free, may_run_where, on_ok}
use Rattle.blink_run.proofs.live.dealing.deal_lane.Goals as goal

pub deal-requires-clause-free : goal.deal-requires-clause-free
deal-requires-clause-free c =
    let lanes = c.args.live_run.cut.now.lanes in
    let ops = c.args.live_run.batch.now in
    let needed = subst (λ (lanes : List ℕ). IsNeeded (lane_ops ops lanes c.args.worker) c.in_ok-needs.needs) c.lanes.ensures.lanes c.in_ok-needs.ensures in
    keys_are_free c.args.live_run.live.now ops lanes c.args.worker c.args.keeper.now c.in_ok-needs.needs c.requires.before needed c.args.live_run.cut.now.workers c.requires.cut

pub deal-requires-clause-allowed : goal.deal-requires-clause-allowed
deal-requires-clause-allowed c =
    let lanes = c.args.live_run.cut.now.lanes in
    let ops = c.args.live_run.batch.now in
    let needed = subst (λ (lanes : List ℕ). IsNeeded (lane_ops ops lanes c.args.worker) c.in_ok-needs.needs) c.lanes.ensures.lanes c.in_ok-needs.ensures in
    changes_are_allowed c.args.live_run.live.now ops lanes c.args.worker c.args.keeper.now c.in_ok-needs.needs c.requires.before needed c.requires.cut.a_lane_each (omega (arith, c.requires.worker))

pub returns-clause-run : goal.returns-clause-run
returns-clause-run c =
    let lanes = c.args.live_run.cut.now.lanes in
    let ops = c.args.live_run.batch.now in
    let needed = subst (λ (lanes : List ℕ). IsNeeded (lane_ops ops lanes c.args.worker) c.in_ok-needs.needs) c.lanes.ensures.lanes c.in_ok-needs.ensures in
    may_run_where c.args.live_run.live.now c.args.keeper.now c.requires.before.none_seen (lane_ops ops lanes c.args.worker) c.in_ok-needs.needs needed c.deal.result c.deal.ensures.pass c.deal.ensures.none_yet c.deal.ensures.room

pub returns-clause-dealt : goal.returns-clause-dealt
returns-clause-dealt c =
    let lanes = c.args.live_run.cut.now.lanes in
    let ops = c.args.live_run.batch.now in
    let needed = subst (λ (lanes : List ℕ). IsNeeded (lane_ops ops lanes c.args.worker) c.in_ok-needs.needs) c.lanes.ensures.lanes c.in_ok-needs.ensures in
    on_ok c.deal.result (dealt_one_more c.args.live_run.live.now ops lanes c.args.worker c.args.keeper.now c.in_ok-needs.needs c.requires.before needed c.requires.cut.a_lane_each c.deal.new.keeper) c.deal.ensures.rest
