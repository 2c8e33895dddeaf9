use Rattle.std.proofs.Common.{◌≡◌, ◌∙◌, ◌+◌, ℕ, List, length, arith, refl, ap, sym, subst}
use Rattle.std.specs.List.{slice_get}
use Rattle.std.specs.Vec.Iter.{into_iter_items}
use Rattle.std.proofs.lemmas.Option.{none-some}
use Rattle.blink_run.specs.declared.live.lane.LaneRun.{LaneRun}
use Rattle.blink_run.specs.Lanes.{MayRun, lane_ops, promise_of}
use Rattle.blink_locked.specs.{AtEach}
use Rattle.blink_locked.proofs.Offered.{each_from_first, each_left, each_more}
use Rattle.blink_run.proofs.live.threads.start_all.Goals as goal

-- none is started yet
pub loop-run-init : goal.loop-run-init
loop-run-init g c =
    let none : length c.args.handles.now.items ≡ 0 = rw c.requires.none_yet refl in
    let MayRunAt : ℕ → LaneRun → Type 0 = λ worker run. MayRun c.args.live_run.live.now (lane_ops c.args.live_run.batch.now c.args.live_run.cut.now.lanes worker) run in
    record {
      all_workers = omega (arith, none, c.into_iter-run-iterator.ensures.into_iter_gives.1, c.requires.may.as_many);
      room = c.requires.room;
      its_own = λ worker handle at. absurd (none-some handle (ap (λ (handles : List _). slice_get handles worker) (sym c.requires.none_yet) ∙ at));
      may = each_from_first MayRunAt c.args.runs.items (length c.args.handles.now.items) (into_iter_items c.into_iter-run-iterator.result) none c.into_iter-run-iterator.ensures.into_iter_gives.0 c.requires.may.each;
    }

-- the run that is taken is the first of those left
pub start-requires-clause-may : goal.start-requires-clause-may
start-requires-clause-may g c κs within =
    let MayRunAt : ℕ → LaneRun → Type 0 = λ worker run. MayRun c.args.live_run.live.now (lane_ops c.args.live_run.batch.now c.args.live_run.cut.now.lanes worker) run in
    let started : ℕ = length c.loop-run.handles.items in
    let left = each_left MayRunAt started c.in-Some.run' (into_iter_items c.next.new.self)
    (subst (λ (runs : List LaneRun). AtEach (λ place run. MayRunAt (started + place) run) runs) c.in-Some.ensures.steps.0 c.loop-run.invariant.may) in
    let here : started ≡ c.len-worker.result = omega arith in
    subst (λ (worker : ℕ). MayRunAt worker c.in-Some.run') here left.0

-- and its handle is put where its worker stands
pub loop-run-preserved : goal.loop-run-preserved
loop-run-preserved g c =
    let MayRunAt : ℕ → LaneRun → Type 0 = λ worker run. MayRun c.args.live_run.live.now (lane_ops c.args.live_run.batch.now c.args.live_run.cut.now.lanes worker) run in
    let started : ℕ = length c.loop-run.handles.items in
    let left = each_left MayRunAt started c.in-Some.run' (into_iter_items c.next.new.self)
    (subst (λ (runs : List LaneRun). AtEach (λ place run. MayRunAt (started + place) run) runs) c.in-Some.ensures.steps.0 c.loop-run.invariant.may) in
    let here : c.len-worker.result ≡ started = omega arith in
    let more : started + 1 ≡ length c.push_reserved.new.self.items = omega arith in
    record {
      all_workers = omega (arith, c.in-Some.ensures.steps.1);
      room = omega arith;
      its_own = rw c.push_reserved.ensures.items (each_more _ c.loop-run.handles.items c.in_ok-start.field-0 c.loop-run.invariant.its_own (c.in_ok-start.ensures.promise ∙ ap (λ (worker : ℕ). promise_of c.args.live_run worker) here));
      may = subst (λ (n : ℕ). AtEach (λ place run. MayRunAt (n + place) run) (into_iter_items c.next.new.self)) more left.1;
    }
