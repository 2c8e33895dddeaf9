use Rattle.std.proofs.Common.{◌≡◌, ◌<◌, ◌∙◌, ◌++◌, ℕ, List, All, ap, sym, subst, string_bytes}
use Rattle.blink_batch.specs.declared.Answer.{Answer}
use Rattle.blink_batch.specs.{Assignment, text_of}
use Rattle.blink_index.specs.{map_of}
use Rattle.blink_replay.proofs.ReplayOfBatch.{at_rest_before, replay_done, runs_batch}
use Rattle.blink_steps.proofs.Offered.{IsDone, one_thread_answers, one_thread_map}
use Rattle.blink_replay.proofs.replay.Replay.run_batch.Goals as goal

-- the schedule's numbers are workers of the world
pub tell_run-requires : goal.tell_run-requires
tell_run-requires c =
    subst (λ (workers : ℕ). All (λ worker. worker < workers) c.args.schedule.now) (sym (ap (λ (assignment : Assignment). assignment.workers) c.in_ok-world.ensures.begins.same_assignment)) c.requires.workers

-- all operations have ended
pub into_rest-requires : goal.into_rest-requires
into_rest-requires c = c.in_ok-tell_run.ensures.told.1.1.ended

same_tree : (c : goal.After-from_rest) → c.tell_run.new.world.run.shared.store ≡ c.from_rest.result
same_tree c = sym (c.from_rest.ensures ∙ c.into_rest.ensures.tree)

done : (c : goal.After-from_rest) → IsDone c.args.self.index c.from_rest.result c.args.batch c.in_ok-tell_run.ensures.told.0
done c =
    let told = c.in_ok-tell_run.ensures.told in
    let ran = told.1 in
    replay_done c.args.self.workers c.args.schedule.now c.args.self.index c.args.batch c.in_ok-world.world c.tell_run.new.world ran.0 told.0 c.in_ok-world.ensures.begins c.in_ok-world.ensures.lawful ran.1 c.from_rest.result (same_tree c)

pub returns-clause-told : goal.returns-clause-told
returns-clause-told c =
    let told = c.in_ok-tell_run.ensures.told in
    let ran = told.1 in (
      ran.0,
      runs_batch c.args.self.workers c.args.schedule.now c.args.self.index c.args.batch c.in_ok-world.world c.tell_run.new.world ran.0 told.0 c.in_ok-world.ensures.begins c.in_ok-world.ensures.lawful ran.1 c.from_rest.result (same_tree c),
      ran.2,
    )

pub returns-clause-text : goal.returns-clause-text
returns-clause-text c =
    let told = c.in_ok-tell_run.ensures.told in
    let ran = told.1 in
    let at_rest = at_rest_before c.args.self.workers c.args.schedule.now c.args.self.index c.args.batch c.in_ok-world.world c.tell_run.new.world ran.0 told.0 c.in_ok-world.ensures.begins c.in_ok-world.ensures.lawful ran.1 in
    let given = one_thread_answers c.args.self.index c.from_rest.result c.args.batch told.0 (done c) (map_of c.args.self.index) (c.the_map_is_kept.ensures c.args.self.index at_rest) in
    told.2 ∙ ap (λ (given : List Answer). string_bytes c.args.self.text ++ text_of given) given

pub returns-clause-map : goal.returns-clause-map
returns-clause-map c =
    let told = c.in_ok-tell_run.ensures.told in
    let ran = told.1 in
    let at_rest = at_rest_before c.args.self.workers c.args.schedule.now c.args.self.index c.args.batch c.in_ok-world.world c.tell_run.new.world ran.0 told.0 c.in_ok-world.ensures.begins c.in_ok-world.ensures.lawful ran.1 in
    one_thread_map c.args.self.index c.from_rest.result c.args.batch told.0 (done c) (map_of c.args.self.index) (c.the_map_is_kept.ensures c.args.self.index at_rest) map_of c.no_other_map_is_kept.ensures
