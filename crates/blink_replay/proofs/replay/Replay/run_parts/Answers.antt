use Rattle.std.proofs.Common.{◌≡◌, ◌-◌, [], ℕ, List, count_by, ap, ◌∙◌, subst, string_bytes, length, arith}
use Rattle.std.proofs.lemmas.Result.{err_from_is_err_and}
use Rattle.std.specs.Vec.Iter.{into_iter_items}
use Rattle.blink_batch.specs.declared.Part.{Part}
use Rattle.blink_replay.specs.Served.{is_batch}
use Rattle.blink_replay.specs.ServedReplay.{TellsPart, scheduled_turns}
use Rattle.blink_replay.proofs.ReplayOfParts.{IsToldWith, all_told, no_part, one_told}
use Rattle.blink_replay.proofs.PartsAreServed.{batches_left}
use Rattle.blink_replay.proofs.TooLargeAmong.{HasRunBefore, found_too_large, one_run, part_refused}
use Rattle.blink_replay.proofs.replay.Replay.run_parts.Goals as goal

-- one part more is told
pub loop-part-preserved : goal.loop-part-preserved
loop-part-preserved c =
    let steps = c.in-Some.ensures.steps in
    let others : List Part = into_iter_items c.next.new.self in
    let so_far = subst (λ (parts : List Part). IsToldWith c.args.self.workers c.args.schedule.now c.args.self.index c.args.parts.items (string_bytes c.args.self.trace) (string_bytes c.args.self.text) parts c.loop-part.replay.index (string_bytes c.loop-part.replay.trace) (string_bytes c.loop-part.replay.text) c.loop-part.batches_left)
    steps.0 c.loop-part.invariant.told in
    let fewer : c.loop-part.batches_left - c.batches_with-batches_left.result ≡ count_by is_batch others = batches_left c.in-Some.part others c.loop-part.batches_left c.batches_with-batches_left.result so_far.counted c.batches_with-batches_left.ensures in
    let tells = subst (λ (schedule : List ℕ). TellsPart c.args.self.workers schedule c.loop-part.replay.index c.in-Some.part (string_bytes c.loop-part.replay.trace) (string_bytes c.in_ok-replay.replay.trace) c.in_ok-replay.replay.index) (c.scheduled_turns-turns.ensures ∙ ap (λ (n : ℕ). scheduled_turns n c.args.schedule.now) fewer)
    (subst (λ (workers : ℕ). TellsPart workers c.scheduled_turns-turns.result.now c.loop-part.replay.index c.in-Some.part (string_bytes c.loop-part.replay.trace) (string_bytes c.in_ok-replay.replay.trace) c.in_ok-replay.replay.index) c.loop-part.invariant.same_workers c.in_ok-replay.ensures.told) in
    record {
      can_next = tt;
      is_finite = tt;
      long = omega (arith, steps.1, c.loop-part.invariant.long, ap (λ (parts : List Part). length parts) steps.0);
      same_workers = c.in_ok-replay.ensures.workers ∙ c.loop-part.invariant.same_workers;
      told = one_told c.args.self.workers c.args.schedule.now c.args.self.index c.args.parts.items (string_bytes c.args.self.trace) (string_bytes c.args.self.text) c.in-Some.part others c.loop-part.replay.index c.in_ok-replay.replay.index _ _ _ _ c.loop-part.batches_left _ so_far tells
          c.in_ok-replay.ensures.text c.in_ok-replay.ensures.map fewer;
      ran = one_run c.args.self.workers c.args.self.index c.args.parts.items c.in-Some.part others c.loop-part.replay.index (subst (λ (parts : List Part). HasRunBefore c.args.self.workers c.args.self.index c.args.parts.items parts c.loop-part.replay.index) steps.0 c.loop-part.invariant.ran)
          c.args.schedule.now _ _ c.in_ok-replay.replay.index tells;
    }

-- a batch that is too large is the part that was taken
pub returns-in_err-replay-clause-too_large : goal.returns-in_err-replay-clause-too_large
returns-in_err-replay-clause-too_large c =
    let passed = err_from_is_err_and c.from_residual.result c.from_residual.ensures.1 in
    let others : List Part = into_iter_items c.next.new.self in
    rw (passed.1, passed.2)
    (found_too_large c.args.self.workers c.args.self.index c.args.parts.items c.in-Some.part others c.loop-part.replay.index (subst (λ (parts : List Part). HasRunBefore c.args.self.workers c.args.self.index c.args.parts.items parts c.loop-part.replay.index) c.in-Some.ensures.steps.0 c.loop-part.invariant.ran)
    c.in_err-replay.field-0.0 c.in_err-replay.ensures.refused)

pub returns-in_err-replay-clause-refused : goal.returns-in_err-replay-clause-refused
returns-in_err-replay-clause-refused c =
    let passed = err_from_is_err_and c.from_residual.result c.from_residual.ensures.1 in
    rw (passed.1, passed.2) (part_refused c.loop-part.replay.index c.in-Some.part c.in_err-replay.field-0.0 c.in_err-replay.ensures.refused)

-- all are
pub returns-clause-told : goal.returns-clause-told
returns-clause-told c =
    let none : into_iter_items c.loop-part.part-iterator ≡ [] = no_part (into_iter_items c.loop-part.part-iterator) (omega (arith, c.in-None.ensures.steps.0, c.loop-part.invariant.long)) in
    (all_told c.args.self.workers c.args.schedule.now c.args.self.index c.args.parts.items (string_bytes c.args.self.trace) (string_bytes c.args.self.text) c.loop-part.replay.index _ _ c.loop-part.batches_left
    (subst (λ (parts : List Part). IsToldWith c.args.self.workers c.args.schedule.now c.args.self.index c.args.parts.items (string_bytes c.args.self.trace) (string_bytes c.args.self.text) parts c.loop-part.replay.index (string_bytes c.loop-part.replay.trace) (string_bytes c.loop-part.replay.text) c.loop-part.batches_left)
    none c.loop-part.invariant.told)).0
