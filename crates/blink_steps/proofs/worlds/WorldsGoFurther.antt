-- Worlds: how they begin and go further, that a turn can be taken, and what is promised of them.
use Rattle.std.proofs.Common.{◌≡◌, ℕ, zero, suc, ◌+◌, ◌<◌, ◌≤◌, ◌^◌, Bool, true, false, cond, Option, Some, None, List, [], ◌∷◌, ◌++◌, length, map, reverse, count_by, slice_get, slice_index_or, take, drop, get_or, All, refl, ap, sym, ◌∙◌, subst, arith}
use Rattle.std.proofs.lemmas.List.{drop_more, length-map, length-reverse, reverse-append, take-append-drop, take_more}
use Rattle.std.proofs.lemmas.List.Elements.{All-append, All-from_recursion}
use Rattle.std.proofs.lemmas.Option.{slice_get_within, get_or_from_slice_get}
use Rattle.std.proofs.lemmas.List.Sums.{count_by-le-length, sum_by-cons}
use Rattle.blink_batch.specs.declared.Answer.{Answer}
use Rattle.blink_batch.specs.declared.Entry.{Entry}
use Rattle.blink_batch.specs.declared.Op.{Op}
use Rattle.blink_batch.specs.{Assignment, operations_at}
use Rattle.blink_store.specs.{PlainStore}
use Rattle.blink_batch.specs.declared.step_error.StepError.{StepError}
use Rattle.blink_batch.specs.declared.step_error.StepError.TheVariants.{OutOfMemory, NoWorker, TooLarge}
use Rattle.blink_machine.specs.declared.step.Step.{Step}
use Rattle.blink_steps.specs.Counts.{page_reads_in, moves_in}
use Rattle.blink_machine.specs.{PlainMachine, IsMapOf}
use Rattle.blink_steps.specs.Decided.{map_now}
use Rattle.blink_steps.specs.Headline.{ReachesPresent}
use Rattle.blink_steps.specs.Promises.{KeepsItsPromises}
use Rattle.blink_steps.specs.Run.{PlainRun, Event, AppliesEvent, IsHistory, IsOpeningRun, IsNextOf, idle_seat, busy_seat}
use Rattle.blink_steps.specs.RunInvariant.{is_answered, IsShaped, RunInvariant, CanTakeTurn}
use Rattle.blink_steps.specs.World.{PlainWorld, IsFirstNoWorker, IsReplay, IsReplayRefusal, IsScheduleRefusal, IsStepRefusal, IsWorldOf, MayBegin, TakesStep, HasTurnMore, SameBatch, OnEachTurn, AfterEachTurn, WritesItsOwn}
use Rattle.blink_batch.proofs.Offered.{IsAscending-map_after_all, next_place_is}
use Rattle.blink_steps.proofs.worlds.OneThread.{one_thread}
use Rattle.blink_steps.proofs.runs.RunStatements.{CountsAreOf, RunLaws}

-- a turn leaves the batch and its lanes
pub same_batch : (old new : PlainRun) (taken : Event) → AppliesEvent old taken new → SameBatch old new
same_batch old new taken (AppliesEvent.moves next kind is_next step acts same) = record { same_ops = ap (λ (r : PlainRun). r.ops) same; same_assignment = ap (λ (r : PlainRun). r.assignment) same }
same_batch old new taken (AppliesEvent.waits next is_next step acts same) = record { same_ops = ap (λ (r : PlainRun). r.ops) same; same_assignment = ap (λ (r : PlainRun). r.assignment) same }
same_batch old new taken (AppliesEvent.idles seat step same) = record { same_ops = ap (λ (r : PlainRun). r.ops) same; same_assignment = ap (λ (r : PlainRun). r.assignment) same }

-- a run that begins is the world of the empty schedule
pub begins : (start : PlainStore) (ops : List Op) (assignment : Assignment) (run : PlainRun) → MayBegin start ops assignment → IsOpeningRun start ops assignment run
    → IsWorldOf start (record { run = run; schedule = [] })
begins start ops assignment run may_begin opening = record {
  may_begin = subst (λ (xs : List Op). MayBegin start xs run.assignment) (sym opening.same_ops) (subst (λ (a : Assignment). MayBegin start ops a) (sym opening.same_assignment) may_begin);
  opening = run;
  is_opening = subst (λ (xs : List Op). IsOpeningRun start xs run.assignment run) (sym opening.same_ops) (subst (λ (a : Assignment). IsOpeningRun start ops a run) (sym opening.same_assignment) opening);
  history = [];
  follows = refl;
  same_schedule = refl;
}

-- a world goes further by a turn
pub goes_further : (start : PlainStore) (old new : PlainWorld) (worker : ℕ) (step : Step) → IsWorldOf start old → TakesStep old worker step new → IsWorldOf start new
goes_further start old new worker step world takes =
    let same = same_batch old.run new.run takes.taken takes.turn in
    record {
      may_begin = subst (λ (xs : List Op). MayBegin start xs new.run.assignment) (sym same.same_ops) (subst (λ (a : Assignment). MayBegin start old.run.ops a) (sym same.same_assignment) world.may_begin);
      opening = world.opening;
      is_opening = subst (λ (xs : List Op). IsOpeningRun start xs new.run.assignment world.opening) (sym same.same_ops) (subst (λ (a : Assignment). IsOpeningRun start old.run.ops a world.opening) (sym same.same_assignment) world.is_opening);
      history = takes.taken ∷ world.history;
      follows = (old.run, world.follows, takes.turn);
      same_schedule = takes.told ∙ ap (λ (xs : List ℕ). xs ++ worker ∷ []) world.same_schedule ∙ ap (λ (n : ℕ). reverse (map (λ (taken : Event). taken.worker) world.history) ++ n ∷ []) (sym takes.same_worker) ∙ sym (reverse-append (takes.taken.worker ∷ []) (map (λ (taken : Event). taken.worker) world.history));
    }

-- its history is the old one with the turn in front
pub has_turn_more : (start : PlainStore) (old new : PlainWorld) (worker : ℕ) (step : Step) (is_world : IsWorldOf start old) → TakesStep old worker step new
    → HasTurnMore start old is_world worker step new
unfolding goes_further
has_turn_more start old new worker step is_world takes = record {
  taken = takes.taken;
  same_worker = takes.same_worker;
  same_step = takes.same_step;
  turn = takes.turn;
  now = goes_further start old new worker step is_world takes;
  same_opening = refl;
  one_more = refl;
}

-- the world of a prefix of a schedule, and after one number more
pub replays_further : (start : PlainStore) (ops : List Op) (assignment : Assignment) (schedule : List ℕ) (old new : PlainWorld) (worker : ℕ) (step : Step)
    → IsReplay start ops assignment schedule old → TakesStep old worker step new → IsReplay start ops assignment (schedule ++ worker ∷ []) new
replays_further start ops assignment schedule old new worker step is takes =
    let same = same_batch old.run new.run takes.taken takes.turn in
    record {
      is_world = goes_further start old new worker step is.is_world takes;
      same_ops = same.same_ops ∙ is.same_ops;
      same_assignment = same.same_assignment ∙ is.same_assignment;
      same_schedule = takes.told ∙ ap (λ (xs : List ℕ). xs ++ worker ∷ []) is.same_schedule;
    }

-- a number after a prefix of workers that is no worker's is the first
pub first_no_worker : (workers : ℕ) (schedule : List ℕ) (index : ℕ) → index < length schedule → All (λ worker. worker < workers) (take index schedule)
    → workers ≤ get_or schedule index 0 → IsFirstNoWorker workers schedule (get_or schedule index 0)
first_no_worker workers schedule index within before no_worker = record {
  prefix = take index schedule;
  rest = drop (index + 1) schedule;
  parts = sym (take-append-drop index schedule) ∙ ap (λ (xs : List ℕ). take index schedule ++ xs) (drop_more schedule index 0 within);
  no_worker = no_worker;
  workers_before = before;
}

-- a step that is refused after a prefix of workers is why the schedule isn't followed
pub schedule_refusal : (workers : ℕ) (schedule : List ℕ) (index : ℕ) (refusal : StepError) → index < length schedule
    → All (λ worker. worker < workers) (take index schedule) → IsStepRefusal workers (get_or schedule index 0) refusal → IsScheduleRefusal workers schedule refusal
schedule_refusal workers schedule index OutOfMemory within before refused = tt
schedule_refusal workers schedule index (NoWorker number) within before refused =
    subst (IsFirstNoWorker workers schedule) (sym refused.0) (first_no_worker workers schedule index within before refused.1)
schedule_refusal workers schedule index TooLarge within before refused = absurd refused

-- and so why it isn't replayed
pub replay_refusal : (start : PlainStore) (ops : List Op) (workers : ℕ) (schedule : List ℕ) (refusal : StepError) → IsScheduleRefusal workers schedule refusal → IsReplayRefusal start ops workers schedule refusal
replay_refusal start ops workers schedule OutOfMemory refused = tt
replay_refusal start ops workers schedule (NoWorker number) refused = refused
replay_refusal start ops workers schedule TooLarge refused = absurd refused

-- a prefix of workers and one more
pub workers_more : (workers : ℕ) (schedule : List ℕ) (index : ℕ) → index < length schedule → All (λ worker. worker < workers) (take index schedule)
    → get_or schedule index 0 < workers → All (λ worker. worker < workers) (take (index + 1) schedule)
workers_more workers schedule index within before worker =
    subst (All (λ worker. worker < workers)) (sym (take_more schedule index 0 within)) (All-append (λ worker. worker < workers) (take index schedule) (get_or schedule index 0 ∷ []) before (All-from_recursion (λ worker. worker < workers) (get_or schedule index 0 ∷ []) (worker, tt)))

-- a world's history is as long as its schedule
pub history_long : (start : PlainStore) (world : PlainWorld) (is_world : IsWorldOf start world) → length is_world.history ≡ length world.schedule
history_long start world is_world =
    sym (ap (λ (xs : List ℕ). length xs) is_world.same_schedule ∙ length-reverse (map (λ (taken : Event). taken.worker) is_world.history) ∙ length-map is_world.history (λ (taken : Event). taken.worker))

-- one place more counts for its own answer
one_place_more : (given : Option Answer) (answers : List (Option Answer)) → count_by is_answered (given ∷ answers) ≡ cond {A = ℕ} (is_answered given) 1 0 + count_by is_answered answers
one_place_more given answers = sum_by-cons (λ (a : Option Answer). cond {A = ℕ} (is_answered a) 1 0) given answers

one_at_most : (b : Bool) → cond {A = ℕ} b 1 0 ≤ 1
one_at_most true = omega arith
one_at_most false = omega arith

none_of : (given : Option Answer) → Some given ≡ Some None → cond {A = ℕ} (is_answered given) 1 0 ≡ 0
none_of None missing = refl
none_of (Some answer) missing = absurd (cc)

-- where an answer is missing, fewer are given than there are places
pub fewer_given : (answers : List (Option Answer)) (place : ℕ) → slice_get answers place ≡ Some None → count_by is_answered answers < length answers
fewer_given [] place missing = absurd (cc)
fewer_given (given ∷ answers) zero missing = omega (arith, count_by-le-length is_answered answers, none_of given missing, one_place_more given answers)
fewer_given (given ∷ answers) (suc place) missing = omega (arith, fewer_given answers place missing, one_at_most (is_answered given), one_place_more given answers)

module _ (laws : RunLaws) where
  -- every tree state of a run has the invariant
  pub invariant_after : (start : PlainStore) (ops : List Op) (assignment : Assignment) (opening run : PlainRun) (history : List Event) (entries : List Entry)
      → MayBegin start ops assignment → IsMapOf start entries → IsOpeningRun start ops assignment opening → IsHistory opening history run → RunInvariant entries run
  invariant_after start ops assignment opening run [] entries may_begin is_map is_opening follows =
      subst (RunInvariant entries) (sym follows) (laws.opening_run_has_invariant start ops assignment opening entries may_begin is_map.ascending is_map.kept is_opening)
  invariant_after start ops assignment opening run (taken ∷ history) entries may_begin is_map is_opening follows =
      laws.turn_keeps_run_invariant entries follows.0 run taken (invariant_after start ops assignment opening follows.0 history entries may_begin is_map is_opening follows.1) follows.2

  -- each write of it is the writer's own
  writes_after : (start : PlainStore) (ops : List Op) (assignment : Assignment) (opening run : PlainRun) (history : List Event) (entries : List Entry)
      → MayBegin start ops assignment → IsMapOf start entries → IsOpeningRun start ops assignment opening → (follows : IsHistory opening history run)
      → OnEachTurn WritesItsOwn opening history run follows
  writes_after start ops assignment opening run [] entries may_begin is_map is_opening follows = tt
  writes_after start ops assignment opening run (taken ∷ history) entries may_begin is_map is_opening follows = (
    laws.writes_are_own entries follows.0 run taken (invariant_after start ops assignment opening follows.0 history entries may_begin is_map is_opening follows.1) follows.2,
    writes_after start ops assignment opening follows.0 history entries may_begin is_map is_opening follows.1,
  )

  -- after each turn of it each key present is reached
  reached_after : (start : PlainStore) (ops : List Op) (assignment : Assignment) (opening run : PlainRun) (history : List Event) (entries : List Entry)
      → MayBegin start ops assignment → IsMapOf start entries → IsOpeningRun start ops assignment opening → (follows : IsHistory opening history run)
      → AfterEachTurn (ReachesPresent entries) opening history run follows
  reached_after start ops assignment opening run [] entries may_begin is_map is_opening follows = tt
  reached_after start ops assignment opening run (taken ∷ history) entries may_begin is_map is_opening follows = (
    λ key pointer. laws.present_is_reached entries run key pointer (invariant_after start ops assignment opening run (taken ∷ history) entries may_begin is_map is_opening follows),
    reached_after start ops assignment opening follows.0 history entries may_begin is_map is_opening follows.1,
  )

  module _ (start : PlainStore) (world : PlainWorld) (is_world : IsWorldOf start world) (entries : List Entry) (is_map : IsMapOf start entries) where
    -- the tree state of its run has the invariant
    pub invariant_now : RunInvariant entries world.run
    invariant_now = invariant_after start world.run.ops world.run.assignment is_world.opening world.run is_world.history entries is_world.may_begin is_map is_world.is_opening is_world.follows

    -- the lists of its run have their lengths
    pub shaped_with : IsShaped world.run
    shaped_with = invariant_now.shaped

    -- what its run counts of an operation is what its history has
    pub counts_with : CountsAreOf is_world.history world.run
    counts_with = laws.counts_are_kept start world.run.ops world.run.assignment is_world.opening world.run is_world.history is_world.is_opening is_world.follows

    -- whatever map the tree had at the start
    invariant_with : (others : List Entry) → IsMapOf start others → RunInvariant others world.run
    invariant_with others are = invariant_after start world.run.ops world.run.assignment is_world.opening world.run is_world.history others is_world.may_begin are is_world.is_opening is_world.follows

    -- what is promised of a world, from the entries at its start
    pub promises_with : KeepsItsPromises start world is_world
    promises_with =
        let invariant = invariant_now in
        let ops : List Op = world.run.ops in
        let assignment : Assignment = world.run.assignment in
        record {
          tree = (invariant.invariant.0, invariant.invariant.1.lawful);
          has_map = (map_now entries world.run, record { ascending = IsAscending-map_after_all entries (operations_at ops world.run.outcome.order) is_map.ascending; kept = invariant.decided.kept });
          one_latch = laws.one_latch_each world.run;
          writes_its_own = writes_after start ops assignment is_world.opening world.run is_world.history entries is_world.may_begin is_map is_world.is_opening is_world.follows;
          decided = λ others are. (invariant_with others are).decided;
          reached = λ others are key pointer. laws.present_is_reached others world.run key pointer (invariant_with others are);
          reached_throughout = record {
            at_first = λ others are key pointer. laws.present_is_reached others is_world.opening key pointer
                (laws.opening_run_has_invariant start ops assignment is_world.opening others is_world.may_begin are.ascending are.kept is_world.is_opening);
            after_each = λ others are. reached_after start ops assignment is_world.opening world.run is_world.history others is_world.may_begin are is_world.is_opening is_world.follows;
          };
          once = laws.each_is_decided_once entries world.run invariant;
          lanes_in_order = λ worker. laws.prefixes_are_decided entries world.run worker invariant;
          each_has_its_turn = λ worker. laws.each_has_its_turn entries world.run worker invariant;
          bounded = laws.history_is_bounded start ops assignment is_world.opening world.run is_world.history entries is_world.may_begin is_map.ascending is_map.kept is_world.is_opening is_world.follows;
          short = laws.history_is_short start ops assignment is_world.opening world.run is_world.history entries is_world.may_begin is_map.ascending is_map.kept is_world.is_opening is_world.follows;
          ended = laws.ended_run_is_whole entries world.run invariant;
          ended_in_order = λ others are. laws.ended_run_is_answered others world.run (invariant_with others are);
          one_thread = one_thread laws start world.run invariant_with entries is_map;
        }

    -- an idle worker's next place is one of the batch
    next_within : (worker place : ℕ) → slice_get world.run.seats worker ≡ Some (idle_seat (Some place)) → place < length world.run.ops
    next_within worker place seat =
        let idle = invariant_now.seats worker (idle_seat (Some place)) seat in
        let is_place = next_place_is world.run.assignment.lanes worker idle.from place (sym idle.next_of_lane) in
        omega (arith, is_place.1, invariant_now.shaped.a_lane_each)

    -- the place of a worker's next operation is one of the batch
    pub place_within : (worker place : ℕ) (m : PlainMachine) (next : Option ℕ) → IsNextOf world.run worker place m next → place < length world.run.ops
    place_within worker place m next (IsNextOf.under_way seat) = slice_get_within world.run.ops place m.op (invariant_now.seats worker (busy_seat place m next) seat).same_op
    place_within worker place m next (IsNextOf.taken_on op seat there fresh after) = slice_get_within world.run.ops place op there

    -- a count that a run keeps is at most the number of its turns
    count_within : (counts : List ℕ) (place count : ℕ) → slice_get counts place ≡ Some count → count ≤ length is_world.history → length world.schedule + 1 < 2 ^ 64
        → slice_index_or counts place 0 + 1 < 2 ^ 64
    count_within counts place count there few short =
        let long = history_long start world is_world in
        let same : slice_index_or counts place 0 ≡ count = get_or_from_slice_get counts place count 0 there in
        omega arith

    -- a worker's turn can be taken
    pub turn_can_be_taken : (worker : ℕ) → worker < world.run.assignment.workers → length world.schedule + 1 < 2 ^ 64 → CanTakeTurn world.run worker
    turn_can_be_taken worker within short =
        let shaped = invariant_now.shaped in
        let counts = counts_with in
        record {
          seated = omega (arith, shaped.a_seat_each);
          next_of_batch = λ place seat. next_within worker place seat;
          can_act = λ place m next is_next. laws.turn_is_ready entries world.run worker place m next invariant_now is_next
              (laws.number_is_left start world.run.ops world.run.assignment is_world.opening world.run is_world.history entries worker place m next is_world.may_begin is_map.ascending is_map.kept is_world.is_opening is_world.follows is_next);
          place_of_batch = λ place m next is_next. let within = place_within worker place m next is_next in omega (arith, shaped.an_answer_each);
          room = λ place m next is_next unanswered.
              let fewer = fewer_given world.run.outcome.answers place (laws.next_is_unanswered entries world.run worker place m next invariant_now is_next unanswered) in
              omega (arith, invariant_now.as_many_decided);
          countable = λ place m next is_next.
              let within = place_within worker place m next is_next in (
                count_within world.run.outcome.reads place (page_reads_in is_world.history place) (counts.reads place within) (counts.few_reads place) short,
                count_within world.run.outcome.moves place (moves_in is_world.history place) (counts.moves place within) (counts.few_moves place) short,
              );
        }
