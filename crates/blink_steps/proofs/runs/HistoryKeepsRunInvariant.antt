-- A run keeps the invariant along every history, and its answers at the end are those of its order.
use Rattle.std.proofs.Common.{◌≡◌, ℕ, zero, suc, ◌<◌, List, [], ◌∷◌, length, map, Option, Some, refl, sym, subst, arith}
use Rattle.std.specs.List.{slice_get}
use Rattle.blink_batch.specs.declared.Answer.{Answer}
use Rattle.blink_steps.specs.RunInvariant.{RunInvariant}
use Rattle.blink_steps.specs.Decided.{AnswersSoFar}
use Rattle.blink_machine.specs.StepLaw.{StepLaw}
use Rattle.blink_steps.proofs.runs.DecidedAtEnd.{each_decided, each_is_decided_once}
use Rattle.blink_steps.proofs.runs.RunStatements.{EndedRunIsAnswered, HasAnswerAt, HistoryKeepsRunInvariant}
use Rattle.blink_steps.proofs.runs.TurnsKeepRunInvariant.{turn_keeps_run_invariant}

-- whatever turns are taken, a run keeps its invariant
pub history_keeps_run_invariant : StepLaw → HistoryKeepsRunInvariant
history_keeps_run_invariant laws entries start run [] invariant follows = subst (RunInvariant entries) (sym follows) invariant
history_keeps_run_invariant laws entries start run (taken ∷ history) invariant follows =
    turn_keeps_run_invariant laws entries follows.0 run taken (history_keeps_run_invariant laws entries start follows.0 history invariant follows.1) follows.2

-- answers that are all there
all_there : (given : List (Option Answer)) → ((place : ℕ) → place < length given → HasAnswerAt given place) → (found : List Answer) × (given ≡ map Some found)
all_there [] has = ([], refl)
all_there (o ∷ given) has =
    let first = has 0 (omega arith) in
    let rest = all_there given (λ place within. has (suc place) (omega arith)) in
    let is : o ≡ Some first.0 = (let e = first.1 in cc) in
    (first.0 ∷ rest.0, (let more = rest.1 in cc))

-- one of them stands where it was
found_at : (found : List Answer) (place : ℕ) (answer : Answer) → slice_get (map Some found) place ≡ Some (Some answer) → slice_get found place ≡ Some answer
found_at [] place answer there = absurd (cc)
found_at (one ∷ found) zero answer there = cc
found_at (one ∷ found) (suc place) answer there = found_at found place answer there

-- at the end the answers are those of the order
pub ended_run_is_answered : EndedRunIsAnswered
ended_run_is_answered entries run invariant ended =
    let found = all_there run.outcome.answers (λ place within.
    (each_is_decided_once entries run invariant).has_answer place (each_decided entries run invariant ended place (omega (arith, invariant.shaped.an_answer_each, invariant.shaped.a_lane_each)))) in
    let so_far : AnswersSoFar entries run.ops run.outcome.order (map Some found.0) = subst (AnswersSoFar entries run.ops run.outcome.order) found.1 invariant.decided.answered in
    record {
      given = found.0;
      all_given = found.1;
      in_order = λ k d within. found_at found.0 _ _ (so_far k d within);
    }
