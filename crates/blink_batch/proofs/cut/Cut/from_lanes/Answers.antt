use Rattle.std.proofs.Common.{EachIndex, refl, ap, ◌∙◌}
use Rattle.blink_batch.specs.Cut.{IsFirstSplitKey, IsLawfulCut, IsSplitKey}
use Rattle.blink_batch.proofs.CutsSplitNoKey.{lawful_from_whole, whole_from_lawful}
use Rattle.blink_batch.proofs.cut.Cut.from_lanes.Goals as goal
use Rattle.blink_batch.proofs.cut.Cut.from_lanes.Goals.{In-None}

-- the first split key is one of the given lanes
pub returns-in-Some-clause-taken : goal.returns-in-Some-clause-taken
returns-in-Some-clause-taken c =
    let lanes = c.lanes.ensures.lanes ∙ c.in-Ok.ensures.lanes in
    let first : IsFirstSplitKey c.args.batch.now c.args.lanes.items c.in-Some.place = rw (c.ops.ensures.ops, lanes) at c.in-Some.ensures in
    (λ taken. absurd (cc), λ lawful. absurd (whole_from_lawful c.args.batch.now c.args.workers c.args.lanes.items lawful.1 c.in-Some.place first.in_range first.split))

-- an assignment without one is a lawful cut
lawful_lanes : (c : In-None) → IsLawfulCut c.args.batch.now c.args.workers c.args.lanes.items
lawful_lanes c =
    let given = c.in-Ok.ensures.taken.0 refl in
    let lanes = c.lanes.ensures.lanes ∙ c.in-Ok.ensures.lanes in
    let whole : EachIndex c.args.batch.now (λ place. ¬ IsSplitKey c.args.batch.now c.args.lanes.items place) = rw (c.ops.ensures.ops, lanes) at c.in-None.ensures in
    lawful_from_whole c.args.batch.now c.args.workers c.args.lanes.items given.a_lane_each given.of_workers.lanes_are_workers whole

pub returns-in-None-clause-lawful : goal.returns-in-None-clause-lawful
returns-in-None-clause-lawful c =
    let workers = ap (λ given. given.workers) c.given.view_is ∙ c.in-Ok.ensures.workers in
    let lanes = ap (λ given. given.lanes) c.given.view_is ∙ c.in-Ok.ensures.lanes in
    rw (workers, lanes) (lawful_lanes (goal.at.returns-in-None-clause-lawful c).In-None)

pub returns-in-None-clause-taken : goal.returns-in-None-clause-taken
returns-in-None-clause-taken c =
    let given = c.in-Ok.ensures.taken.0 refl in
    (λ taken. (given.of_workers.allowed, lawful_lanes (goal.at.returns-in-None-clause-taken c).In-None), λ lawful. refl)
