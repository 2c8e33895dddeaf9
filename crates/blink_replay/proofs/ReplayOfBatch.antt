-- A batch's replay from its start: the schedule's turns are traced, and picked turns go on to the end.
use Rattle.std.proofs.Common.{◌≡◌, ◌++◌, ℕ, Option, IsSome, List, All, length, ap, sym, ◌∙◌, subst}
use Rattle.std.proofs.lemmas.List.{append-nil}
use Rattle.blink_batch.specs.declared.Answer.{Answer}
use Rattle.blink_batch.specs.declared.Op.{Op}
use Rattle.blink_batch.specs.{Assignment, IsLawfulCut}
use Rattle.blink_rest.specs.{IsStoreAtRest}
use Rattle.blink_store.specs.{PlainStore}
use Rattle.blink_steps.specs.{IsPromised, Event, PlainWorld, HasEnded, IsStart, IsWorldOf}
use Rattle.blink_replay.specs.Replay.{IsRunToEnd, RunsBatch, by_residue}
use Rattle.blink_settings.specs.{lanes_by_residue}
use Rattle.blink_replay.specs.Trace.{trace_of}
use Rattle.blink_steps.proofs.Offered.{IsDone, all_some, no_turn_yet}

-- each operation of a run at its end has its answer
pub all_answered : (start : PlainStore) (world : PlainWorld) → IsWorldOf start world → IsPromised world → HasEnded world.run → length world.run.outcome.answers ≡ length world.run.ops
    → All (λ (answer : Option Answer). IsSome answer) world.run.outcome.answers
all_answered start world is_world promised ended one_each = all_some world.run one_each ((promised start is_world).ended ended).all_answered

module _ (workers : ℕ) (schedule : List ℕ) (before : PlainStore) (ops : List Op) (first finished : PlainWorld) (trace : List ℕ) (given : List Answer)
    (begins : IsStart before ops (by_residue workers ops) first) (lawful : IsLawfulCut ops workers (lanes_by_residue workers ops)) (to_end : IsRunToEnd first schedule finished trace given) where
  same_ops : finished.run.ops ≡ ops
  same_ops = to_end.same_batch.same_ops ∙ to_end.traced.same_batch.same_ops ∙ begins.same_ops

  same_assignment : finished.run.assignment ≡ by_residue workers ops
  same_assignment = to_end.same_batch.same_assignment ∙ to_end.traced.same_batch.same_assignment ∙ begins.same_assignment

  -- the world at the end, over the tree before
  is_world : IsWorldOf before finished
  is_world = to_end.same_start before (to_end.traced.goes_on before begins.is_world).now

  -- the run is at its end
  pub replay_done : (after : PlainStore) → finished.run.shared.store ≡ after → IsDone before after ops given
  replay_done after same_tree =
      let kept = to_end.promised before is_world in
      let cut : IsLawfulCut finished.run.ops finished.run.assignment.workers finished.run.assignment.lanes =
      subst (λ (xs : List Op). IsLawfulCut xs finished.run.assignment.workers finished.run.assignment.lanes) (sym same_ops)
      (subst (λ (a : Assignment). IsLawfulCut ops a.workers a.lanes) (sym same_assignment) lawful) in
      record {
        run = finished.run;
        same_ops = same_ops;
        same_answers = to_end.all_given;
        same_tree = same_tree;
        one_thread = kept.one_thread cut to_end.ended;
        at_rest = subst IsStoreAtRest same_tree (kept.ended to_end.ended).at_rest;
      }

  -- it is the batch's run by this schedule
  pub runs_batch : (after : PlainStore) → finished.run.shared.store ≡ after → RunsBatch workers schedule before ops after trace
  runs_batch after same_tree =
      let empty = no_turn_yet before first begins.is_world begins.same_schedule in
      let told = to_end.traced.goes_on before begins.is_world in
      let whole : told.now.history ≡ told.turns = told.more ∙ ap (λ (xs : List Event). told.turns ++ xs) empty ∙ append-nil told.turns in
      record {
        world = to_end.replayed;
        replay = record {
          is_world = told.now;
          same_ops = to_end.traced.same_batch.same_ops ∙ begins.same_ops;
          same_assignment = to_end.traced.same_batch.same_assignment ∙ begins.same_assignment;
          same_schedule = to_end.traced.told ∙ ap (λ (xs : List ℕ). xs ++ schedule) begins.same_schedule;
        };
        traced = told.traced ∙ ap trace_of (sym whole);
        finished = finished;
        picked = to_end.picked;
        ended = to_end.ended;
        same_tree = same_tree;
      }

  -- the tree before is at rest
  pub at_rest_before : IsStoreAtRest before
  at_rest_before = begins.is_world.may_begin.at_rest
