-- Every turn of a worker keeps the invariant of runs.
use Rattle.std.proofs.Common.{◌≡◌, ◌≢◌, ℕ, ◌+◌, ◌⊎◌, Bool, true, false, Option, Some, None, IsSome, List, [], ◌∷◌, ◌++◌, length, count_by, set, if◌then◌else◌, refl, ap, sym, ◌∙◌, subst, inl, inr}
use Rattle.std.proofs.lemmas.Bool.{cases_eq}
use Rattle.std.proofs.lemmas.List.{length-set}
use Rattle.std.proofs.lemmas.Option.{get_or_from_slice_get, slice_get_within}
use Rattle.std.specs.List.{slice_get}
use Rattle.blink_batch.specs.declared.Answer.{Answer}
use Rattle.blink_batch.specs.declared.Entry.{Entry}
use Rattle.blink_batch.specs.{FitsWords, map_after_all, operations_at, part_of}
use Rattle.blink_batch.proofs.Offered.{fresh_from_part, IsAscending-map_after_all}
use Rattle.blink_store.proofs.Offered.{slice_get-set_other, slice_get-set_same}
use Rattle.blink_machine.specs.declared.machine.State.{State}
use Rattle.blink_machine.specs.declared.machine.State.TheVariants.{Start, Going, Want, Held, Change, SplitNew, SplitOld, AskPrime, Root, NewPrime, Leave, Posting, Ended}
use Rattle.blink_steps.specs.declared.seat.WorkerState.{WorkerState}
use Rattle.blink_steps.specs.declared.seat.Working.{Working}
use Rattle.blink_machine.specs.declared.step.Kind.{Kind}
use Rattle.blink_machine.specs.declared.step.Step.TheVariants.{Moved}
use Rattle.blink_steps.specs.Acts.{PlainShared, Acts}
use Rattle.blink_machine.specs.{is_page_read, PlainMachine, Steps, goes_on, Decides, deciding, other}
use Rattle.blink_steps.specs.Run.{PlainRun, IsNextOf, moves, waits, idles, after_move, tree_state_of, seat_after}
use Rattle.blink_steps.specs.Outcome.{one_more_at}
use Rattle.blink_steps.specs.RunInvariant.{HasDecided, WorkingInvariant, IdleInvariant, IsShaped, RunInvariant, WorkerInvariant, decided_below, is_answered}
use Rattle.blink_steps.specs.Decided.{IsDecided}
use Rattle.blink_steps.proofs.runs.DecidedAfterMove.{as_many_more, as_many_stay, decided_more, decided_stays, decides_from_none, decides_not_same, part_decided-other, part_decided-own, set_same}
use Rattle.blink_steps.proofs.runs.OperationOfTurn.{machines_of, move_is_step, next_has_seat, next_is_busy, next_is_its}
use Rattle.blink_steps.proofs.runs.RunStatements.{TurnKeepsRunInvariant}
use Rattle.blink_steps.proofs.runs.MovesKeepStore.{move_keeps_lawful}
use Rattle.blink_machine.specs.StepLaw.{StepLaw}
use Rattle.blink_machine.proofs.Offered.{StaysItself, step_stays}

-- an operation goes on unless it has ended
ends_or_goes_on : (m : PlainMachine) (state : State) → ((state ≡ Ended) × (goes_on m state ≡ None)) ⊎ ((state ≢ Ended) × (goes_on m state ≡ Some m))
ends_or_goes_on m Start = inr (λ ended. cc, refl)
ends_or_goes_on m (Going page level) = inr (λ ended. cc, refl)
ends_or_goes_on m (Want page) = inr (λ ended. cc, refl)
ends_or_goes_on m (Held page) = inr (λ ended. cc, refl)
ends_or_goes_on m (Change page changed kept) = inr (λ ended. cc, refl)
ends_or_goes_on m (SplitNew page before) = inr (λ ended. cc, refl)
ends_or_goes_on m (SplitOld page lower debt) = inr (λ ended. cc, refl)
ends_or_goes_on m (AskPrime page debt) = inr (λ ended. cc, refl)
ends_or_goes_on m (Root page debt prime) = inr (λ ended. cc, refl)
ends_or_goes_on m (NewPrime page debt root prime) = inr (λ ended. cc, refl)
ends_or_goes_on m (Leave page next) = inr (λ ended. cc, refl)
ends_or_goes_on m Posting = inr (λ ended. cc, refl)
ends_or_goes_on m Ended = inl (refl, refl)

-- an operation with an answer is decided with those before it
decided_with_answer : (place : ℕ) (answer : Option Answer) → IsSome answer → decided_below place answer ≡ place + 1
decided_with_answer place None is = absurd (cc)
decided_with_answer place (Some answer) is = refl

-- counts keep their number
long_as_before : (test : Bool) (counts : List ℕ) (place : ℕ) → length (if test then one_more_at counts place else counts) ≡ length counts
long_as_before true counts place = length-set counts place _
long_as_before false counts place = refl

-- what is decided after a move, and the workers' parts of it
record Outcome (entries : List Entry) (old new : PlainRun) (worker place : ℕ) (after : PlainMachine) : Type 0 where
  decided : IsDecided entries new
  as_many : count_by is_answered new.outcome.answers ≡ length new.outcome.order
  own : HasDecided new worker (decided_below place after.answer)
  others : (number : ℕ) → number ≢ worker → part_of new.assignment.lanes number new.outcome.order ≡ part_of new.assignment.lanes number old.outcome.order

module _ (laws : StepLaw) (entries : List Entry) (old : PlainRun) (worker place : ℕ) (m after : PlainMachine) (next : Option ℕ) (kind : Kind) (shared : PlainShared)
    (invariant : RunInvariant entries old) (is_next : IsNextOf old worker place m next) (acts : Acts old.shared worker m (Moved kind) after shared) where
  -- the run after the move
  abbrev moved : PlainRun
  moved = after_move old worker place next m kind after shared

  -- the operation as it was
  busy : WorkingInvariant old worker (record { place = place; machine = m }) next
  busy = next_is_busy entries old worker place m next invariant is_next

  -- the move as a step of the tree state
  steps : Steps (tree_state_of old) worker m (Moved kind) after (tree_state_of moved)
  steps = move_is_step old worker place m after next kind shared is_next acts

  -- its numbers fit
  fits : FitsWords m.op
  fits = subst FitsWords (get_or_from_slice_get old.ops place m.op m.op busy.same_op) (invariant.shaped.words place m.op (slice_get_within old.ops place m.op busy.same_op))

  -- it stays itself
  itself : StaysItself m after
  itself = step_stays (tree_state_of old) (tree_state_of moved) worker m after (Moved kind) invariant.invariant (next_is_its old worker place m next is_next) steps busy.goes_on

  -- what the step makes of the entries
  outcome_from : Decides (tree_state_of moved) m after (map_after_all entries (operations_at old.ops old.outcome.order)) → Outcome entries old moved worker place after
  outcome_from (deciding was is kept) =
      let more_order : moved.outcome.order ≡ old.outcome.order ++ place ∷ [] = ap (λ (b : Bool). if b then old.outcome.order ++ place ∷ [] else old.outcome.order) (decides_from_none m.answer after.answer _ was is) in
      let more_answers = ap (set old.outcome.answers place) is in
      let before : HasDecided old worker place = subst (λ (a : Option Answer). HasDecided old worker (decided_below place a)) was busy.decided in
      let none : slice_get old.outcome.answers place ≡ Some None = busy.same_answer ∙ ap Some was in
      let not_yet = fresh_from_part old.assignment.lanes worker old.outcome.order place busy.own before in
      record {
        decided = decided_more entries old moved invariant.decided refl place m.op _ busy.same_op none not_yet refl kept more_order more_answers;
        as_many = as_many_more old moved place _ invariant.as_many_decided none more_order more_answers;
        own = subst (λ (a : Option Answer). HasDecided moved worker (decided_below place a)) (sym is)
            (ap (part_of old.assignment.lanes worker) more_order ∙ part_decided-own old.assignment.lanes worker old.outcome.order place busy.own before);
        others = λ number differs. ap (part_of old.assignment.lanes number) more_order ∙ part_decided-other old.assignment.lanes worker old.outcome.order place busy.own number differs;
      }
  outcome_from (other same kept) =
      let same_order : moved.outcome.order ≡ old.outcome.order = ap (λ (b : Bool). if b then old.outcome.order ++ place ∷ [] else old.outcome.order) (decides_not_same m.answer after.answer same) in
      let same_answers : moved.outcome.answers ≡ old.outcome.answers = set_same old.outcome.answers place after.answer (busy.same_answer ∙ ap Some (sym same)) in
      record {
        decided = decided_stays entries old moved invariant.decided refl place kept same_order same_answers;
        as_many = as_many_stay old moved invariant.as_many_decided same_order same_answers;
        own = ap (part_of old.assignment.lanes worker) same_order ∙ subst (λ (a : Option Answer). HasDecided old worker (decided_below place a)) (sym same) busy.decided;
        others = λ number differs. ap (part_of old.assignment.lanes number) same_order;
      }

  -- which is what the tree state's law says
  outcome : Outcome entries old moved worker place after
  outcome = outcome_from (laws.step_decides (tree_state_of old) (tree_state_of moved) worker m after (Moved kind) (map_after_all entries (operations_at old.ops old.outcome.order)) invariant.invariant fits
      (next_is_its old worker place m next is_next) steps (IsAscending-map_after_all entries (operations_at old.ops old.outcome.order) invariant.ascending) invariant.decided.kept)

  -- the lists keep their lengths
  shaped : IsShaped moved
  shaped = record {
    lawful_store = move_keeps_lawful laws old.shared shared (machines_of old.seats) worker m after kind invariant.invariant (next_is_its old worker place m next is_next) invariant.shaped.lawful_store acts;
    words = invariant.shaped.words;
    lanes = invariant.shaped.lanes;
    a_lane_each = invariant.shaped.a_lane_each;
    a_seat_each = length-set old.seats worker _ ∙ invariant.shaped.a_seat_each;
    an_answer_each = length-set old.outcome.answers place after.answer ∙ invariant.shaped.an_answer_each;
    a_read_count_each = long_as_before (is_page_read kind) old.outcome.reads place ∙ invariant.shaped.a_read_count_each;
    a_move_count_each = length-set old.outcome.moves place _ ∙ invariant.shaped.a_move_count_each;
  }

  -- the worker that moved: its operation goes on
  seat_going_on : after.state ≢ Ended → WorkingInvariant moved worker (record { place = place; machine = after }) next
  seat_going_on on = record {
    own = busy.own;
    same_op = busy.same_op ∙ ap Some (sym itself.same_op);
    goes_on = on;
    same_answer = slice_get-set_same old.outcome.answers place after.answer (slice_get_within old.outcome.answers place m.answer busy.same_answer);
    next_of_lane = busy.next_of_lane;
    decided = outcome.own;
  }

  -- or has ended
  seat_ended : after.state ≡ Ended → IdleInvariant moved worker next
  seat_ended ended = record {
    from = place + 1;
    next_of_lane = busy.next_of_lane;
    decided = subst (HasDecided moved worker) (decided_with_answer place after.answer (itself.ends_answered ended)) outcome.own;
  }

  -- so its seat has the invariant
  own_seat : WorkerInvariant moved worker (seat_after (goes_on after after.state) place next).working (seat_after (goes_on after after.state) place next).next
  own_seat = elim (ends_or_goes_on after after.state) [
    | inl ended ↦ subst (λ (now : Option PlainMachine). WorkerInvariant moved worker (seat_after now place next).working (seat_after now place next).next) (sym ended.1) (seat_ended ended.0)
    | inr on ↦ subst (λ (now : Option PlainMachine). WorkerInvariant moved worker (seat_after now place next).working (seat_after now place next).next) (sym on.1) (seat_going_on on.0)
  ]

  -- and another's keeps the invariant
  other_seat : (number : ℕ) → number ≢ worker → (working : Option Working) (following : Option ℕ) → WorkerInvariant old number working following → WorkerInvariant moved number working following
  other_seat number differs None following idle = record {
    from = idle.from;
    next_of_lane = idle.next_of_lane;
    decided = outcome.others number differs ∙ idle.decided;
  }
  other_seat number differs (Some working) following its =
      let apart : working.place ≢ place = λ same. differs (let own : slice_get old.assignment.lanes place ≡ Some number = subst (λ (n : ℕ). slice_get old.assignment.lanes n ≡ Some number) same its.own in
      let mine : slice_get old.assignment.lanes place ≡ Some worker = busy.own in cc) in
      record {
        own = its.own;
        same_op = its.same_op;
        goes_on = its.goes_on;
        same_answer = slice_get-set_other old.outcome.answers place working.place after.answer apart ∙ its.same_answer;
        next_of_lane = its.next_of_lane;
        decided = outcome.others number differs ∙ its.decided;
      }

  -- each worker's seat
  workers_have_invariant : (number : ℕ) (seat : WorkerState) → slice_get moved.seats number ≡ Some seat → WorkerInvariant moved number seat.working seat.next
  workers_have_invariant number seat there = elim (cases_eq number worker) [
    | inl same ↦
        let was = next_has_seat old worker place m next is_next in
        let now : slice_get moved.seats worker ≡ Some (seat_after (goes_on after after.state) place next) = slice_get-set_same old.seats worker _ (slice_get_within old.seats worker was.0 was.1) in
        let there_too : slice_get moved.seats worker ≡ Some seat = subst (λ (n : ℕ). slice_get moved.seats n ≡ Some seat) same there in
        let is : seat_after (goes_on after after.state) place next ≡ seat = cc in
        subst (λ (n : ℕ). WorkerInvariant moved n seat.working seat.next) (sym same) (subst (λ (s : WorkerState). WorkerInvariant moved worker s.working s.next) is own_seat)
    | inr differs ↦
        let was : slice_get old.seats number ≡ Some seat = sym (slice_get-set_other old.seats worker number _ differs) ∙ there in
        other_seat number differs seat.working seat.next (invariant.seats number seat was)
  ]

  -- a move keeps the invariant of runs
  pub move_keeps : RunInvariant entries moved
  move_keeps = record {
    invariant = laws.step_keeps_invariant (tree_state_of old) (tree_state_of moved) worker m after (Moved kind) invariant.invariant fits (next_is_its old worker place m next is_next) steps;
    shaped = shaped;
    ascending = invariant.ascending;
    decided = outcome.decided;
    as_many_decided = outcome.as_many;
    seats = workers_have_invariant;
  }

-- a turn keeps the invariant of runs
pub turn_keeps_run_invariant : StepLaw → TurnKeepsRunInvariant
turn_keeps_run_invariant laws entries old new taken invariant (moves next kind is_next step acts is) =
    subst (RunInvariant entries) (sym is) (move_keeps laws entries old taken.worker taken.place taken.before taken.after next kind new.shared invariant is_next acts)
turn_keeps_run_invariant laws entries old new taken invariant (waits next is_next step acts is) = subst (RunInvariant entries) (sym is) invariant
turn_keeps_run_invariant laws entries old new taken invariant (idles seat step is) = subst (RunInvariant entries) (sym is) invariant
