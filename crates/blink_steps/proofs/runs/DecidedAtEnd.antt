-- What a run with its invariant has decided: each operation once, the prefixes of the lanes, and at the end all.
use Rattle.std.proofs.Common.{◌≡◌, ◌≢◌, ℕ, ◌+◌, ◌<◌, ◌≤◌, List, [], ◌∷◌, length, get_or, take, true, false, Option, Some, None, refl, ap, sym, ◌∙◌, subst, inl, inr, arith}
use Rattle.std.proofs.lemmas.Bool.{cases_Bool, cases_lt, eq-eqb}
use Rattle.std.proofs.lemmas.List.Elements.{Contains-get_or, recursion_from_All}
use Rattle.std.proofs.lemmas.Option.{slice_get-get_or, slice_get_past, slice_get_within}
use Rattle.std.proofs.lemmas.Slice.Zip.{get_or-zip, length-zip}
use Rattle.std.specs.List.{All, AllByRecursion, Contains, slice_get, zip}
use Rattle.blink_batch.specs.declared.Answer.{Answer}
use Rattle.blink_batch.specs.declared.Answer.TheVariants.{Absent}
use Rattle.blink_batch.specs.declared.Entry.{Entry}
use Rattle.blink_batch.specs.declared.Op.{Op}
use Rattle.blink_batch.specs.{answers, is_worker, lane_of, operations_at, part_of, places_from}
use Rattle.blink_batch.proofs.Offered.{get_or-places_from, length-answers, length-operations_at, length-places_from, part_of-no_next_place, part_of-nobody}
use Rattle.blink_store.proofs.Offered.{one_page_each}
use Rattle.blink_rest.specs.{AllDiffer}
use Rattle.blink_steps.specs.declared.seat.WorkerState.{WorkerState}
use Rattle.blink_steps.specs.declared.seat.Working.{Working}
use Rattle.blink_steps.specs.Run.{PlainRun, idle_seat, machine_of_seat, tree_state_of}
use Rattle.blink_steps.specs.RunInvariant.{HasDecided, IdleInvariant, RunInvariant, WorkerInvariant, decided_below}
use Rattle.blink_steps.specs.Decided.{AnswersSoFar}
use Rattle.blink_machine.specs.StepLaw.{StepLaw}
use Rattle.blink_machine.proofs.Offered.{contains_or_not, filter-take, holds_at_passing, holds_of_both, holds_of_filter, one_index, AllDiffer-filter, AllDiffer-take}
use Rattle.blink_steps.proofs.runs.RunStatements.{EachHasItsTurn, EachIsDecidedOnce, EndedRunIsWhole, PrefixesAreDecided, HasAnswerAt, HasEnded, OneLatchEach}

-- ---- prefixes

-- a worker with a seat has decided its lane up to some place
seat_prefix : (run : PlainRun) (worker : ℕ) (working : Option Working) (next : Option ℕ) → WorkerInvariant run worker working next → (place : ℕ) × HasDecided run worker place
seat_prefix run worker None next idle = (idle.from, idle.decided)
seat_prefix run worker (Some working) next busy = (decided_below working.place working.machine.answer, busy.decided)

-- and every worker has
prefix : (entries : List Entry) (run : PlainRun) (worker : ℕ) → RunInvariant entries run → (place : ℕ) × HasDecided run worker place
prefix entries run worker invariant = elim (cases_lt worker (length run.seats)) [
  | inl within ↦
      let seat : WorkerState = get_or run.seats worker (idle_seat None) in
      seat_prefix run worker seat.working seat.next (invariant.seats worker seat (slice_get-get_or run.seats worker (idle_seat None) within))
  | inr past ↦
      let above : run.assignment.workers ≤ worker = omega (arith, invariant.shaped.a_seat_each) in
      let all = invariant.shaped.lanes.lanes_are_workers in (
        0,
        part_of-nobody run.assignment.workers run.assignment.lanes worker run.outcome.order all above
            ∙ sym (part_of-nobody run.assignment.workers run.assignment.lanes worker (take 0 (places_from 0 run.assignment.lanes)) all above),
      )
]

-- what is decided of a worker's lane is its beginning
pub prefixes_are_decided : PrefixesAreDecided
prefixes_are_decided entries run worker invariant =
    let its = prefix entries run worker invariant in
    let lanes : List ℕ = run.assignment.lanes in (
      length (part_of lanes worker (take its.0 (places_from 0 lanes))),
      its.1 ∙ filter-take (λ place. is_worker worker (slice_get lanes place)) its.0 (places_from 0 lanes),
    )

-- ---- each once

-- places with lanes differ, if those of each worker do
apart_from_parts : (lanes order : List ℕ) → AllByRecursion (λ place. place < length lanes) order → ((worker : ℕ) → AllDiffer (part_of lanes worker order)) → AllDiffer order
apart_from_parts lanes [] within parts = tt
apart_from_parts lanes (place ∷ order) within parts =
    let worker : ℕ = get_or lanes place 0 in
    let low : place < length lanes = within.0 in
    let lane : slice_get lanes place ≡ Some worker = slice_get-get_or lanes place 0 low in
    let passes : is_worker worker (slice_get lanes place) ≡ true = ap (is_worker worker) lane ∙ eq-eqb worker worker refl in
    let here = rw passes at (parts worker) in (
      holds_of_both (λ other. place ≢ other) (λ n. is_worker worker (slice_get lanes n)) order here.0
          (λ other fails same. let also : is_worker worker (slice_get lanes place) ≡ false = ap (λ (n : ℕ). is_worker worker (slice_get lanes n)) same ∙ fails in cc),
      apart_from_parts lanes order within.1 (λ number. rest lanes number place order (parts number)),
    )
  where
    rest : (lanes : List ℕ) (worker place : ℕ) (order : List ℕ) → AllDiffer (part_of lanes worker (place ∷ order)) → AllDiffer (part_of lanes worker order)
    rest lanes worker place order apart = elim (cases_Bool (is_worker worker (slice_get lanes place))) [
      | inl passes ↦ (rw passes at apart).1
      | inr fails ↦ rw fails at apart
    ]

-- the places of a list differ
AllDiffer-places_from : {X : Type 0} (from : ℕ) (xs : List X) → AllDiffer (places_from from xs)
AllDiffer-places_from from [] = tt
AllDiffer-places_from from (x ∷ xs) = (above from (from + 1) xs (omega arith), AllDiffer-places_from (from + 1) xs)
  where
    above : {X : Type 0} (low from : ℕ) (xs : List X) → low < from → AllByRecursion (λ y. low ≢ y) (places_from from xs)
    above low from [] less = tt
    above low from (x ∷ xs) less = ((λ same. omega arith), above low (from + 1) xs (omega arith))

-- the decided places differ
order_apart : (entries : List Entry) (run : PlainRun) → RunInvariant entries run → AllDiffer run.outcome.order
order_apart entries run invariant =
    let lanes : List ℕ = run.assignment.lanes in
    let within : All (λ place. place < length lanes) run.outcome.order = rw invariant.shaped.a_lane_each invariant.decided.places_of_batch in
    apart_from_parts lanes run.outcome.order (recursion_from_All (λ place. place < length lanes) run.outcome.order within) (λ worker.
    let its = prefix entries run worker invariant in
    subst AllDiffer (sym its.1) (AllDiffer-filter (λ place. is_worker worker (slice_get lanes place)) (take its.0 (places_from 0 lanes)) (AllDiffer-take its.0 (places_from 0 lanes) (AllDiffer-places_from 0 lanes))))

-- a decided place has its answer
decided_has_answer : (entries : List Entry) (ops : List Op) (order : List ℕ) (given : List (Option Answer)) (place : ℕ) → All (λ n. n < length ops) order → AnswersSoFar entries ops order given
    → Contains order place → HasAnswerAt given place
decided_has_answer entries ops order given place within answered inside =
    let run = answers entries (operations_at ops order) in
    let long : length run ≡ length order = length-answers entries (operations_at ops order) ∙ length-operations_at ops order within in
    let k : ℕ = inside.0 in
    let low : k < length order = inside.1 in
    let fits : k < length (zip order run) = (let both = length-zip order run in omega arith) in
    let pair = get_or-zip order run k (place, Absent) low (omega arith) in
    let at : get_or order k place ≡ place = inside.2 in
    let told = rw (pair, at) at (answered k (place, Absent) fits) in
    (get_or run k Absent, told)

-- each operation is decided once, where it has its answer
pub each_is_decided_once : EachIsDecidedOnce
each_is_decided_once entries run invariant = record {
  at_most_once = λ first second place at also. one_index run.outcome.order first second place (order_apart entries run invariant) at also;
  has_answer = λ place inside. decided_has_answer entries run.ops run.outcome.order run.outcome.answers place invariant.decided.places_of_batch invariant.decided.answered inside;
  is_decided = λ place has. elim (contains_or_not run.outcome.order place) [
    | inl inside ↦ inside
    | inr outside ↦
        let within : place < length run.outcome.answers = slice_get_within run.outcome.answers place (Some has.0) has.1 in
        let none : slice_get run.outcome.answers place ≡ Some None = invariant.decided.undecided place (omega (arith, invariant.shaped.an_answer_each)) outside in
        let some = has.1 in
        absurd (cc)
  ];
}

-- ---- whole lanes

-- where a worker's part of an order is its lane, each place of the lane is in the order
lane_decided : (lanes order : List ℕ) (worker place : ℕ) → part_of lanes worker order ≡ lane_of lanes worker → place < length lanes → slice_get lanes place ≡ Some worker
    → Contains order place
lane_decided lanes order worker place whole within lane = elim (contains_or_not order place) [
  | inl inside ↦ inside
  | inr outside ↦
      let passes : is_worker worker (slice_get lanes place) ≡ true = ap (is_worker worker) lane ∙ eq-eqb worker worker refl in
      let P : ℕ → Type 0 = λ n. n ≢ place in
      let long : length (places_from 0 lanes) ≡ length lanes = length-places_from 0 lanes in
      let here : slice_get (places_from 0 lanes) place ≡ Some place = slice_get-get_or (places_from 0 lanes) place 0 (omega arith) ∙ ap Some (get_or-places_from 0 lanes place 0 within ∙ omega arith) in
      let none : AllByRecursion P order = recursion_from_All P order (λ k d low same. outside (subst (Contains order) same (Contains-get_or order k d low))) in
      let none_of_lane : AllByRecursion P (lane_of lanes worker) = subst (AllByRecursion P) whole (holds_of_filter P (λ n. is_worker worker (slice_get lanes n)) order none) in
      absurd (holds_at_passing P (λ n. is_worker worker (slice_get lanes n)) (places_from 0 lanes) place place none_of_lane here passes refl)
]

-- a worker at its lane's end has decided all of it
pub each_has_its_turn : EachHasItsTurn
each_has_its_turn entries run worker invariant undecided at_end =
    let lanes : List ℕ = run.assignment.lanes in
    let idle : IdleInvariant run worker None = invariant.seats worker (idle_seat None) at_end in
    let whole : part_of lanes worker run.outcome.order ≡ lane_of lanes worker = idle.decided ∙ part_of-no_next_place lanes worker idle.from (sym idle.next_of_lane) in
    let within : undecided.place < length lanes = slice_get_within lanes undecided.place worker undecided.of_lane in
    let answered = (each_is_decided_once entries run invariant).has_answer undecided.place (lane_decided lanes run.outcome.order worker undecided.place whole within undecided.of_lane) in
    absurd (cc (answered.1, undecided.undecided))

-- ---- the end

module _ (entries : List Entry) (run : PlainRun) (invariant : RunInvariant entries run) (ended : HasEnded run) where
  -- each worker has decided its lane
  pub each_lane : (worker : ℕ) → part_of run.assignment.lanes worker run.outcome.order ≡ lane_of run.assignment.lanes worker
  each_lane worker = elim (cases_lt worker run.assignment.workers) [
    | inl within ↦
        let idle : IdleInvariant run worker None = invariant.seats worker (idle_seat None) (ended worker within) in
        idle.decided ∙ part_of-no_next_place run.assignment.lanes worker idle.from (sym idle.next_of_lane)
    | inr above ↦
        let all = invariant.shaped.lanes.lanes_are_workers in
        part_of-nobody run.assignment.workers run.assignment.lanes worker run.outcome.order all above
        ∙ sym (part_of-nobody run.assignment.workers run.assignment.lanes worker (places_from 0 run.assignment.lanes) all above)
  ]

  -- each place is decided
  pub each_decided : (place : ℕ) → place < length run.assignment.lanes → Contains run.outcome.order place
  each_decided place within =
      let worker : ℕ = get_or run.assignment.lanes place 0 in
      lane_decided run.assignment.lanes run.outcome.order worker place (each_lane worker) within (slice_get-get_or run.assignment.lanes place 0 within)

  -- no worker has an operation
  all_idle : (worker : ℕ) → machine_of_seat (slice_get run.seats worker) ≡ None
  all_idle worker = elim (cases_lt worker run.assignment.workers) [
    | inl within ↦ ap machine_of_seat (ended worker within)
    | inr above ↦ ap machine_of_seat (slice_get_past run.seats worker (omega (arith, invariant.shaped.a_seat_each)))
  ]

-- at the end every operation is decided and answered, and the tree is at rest
pub ended_run_is_whole : StepLaw → EndedRunIsWhole
ended_run_is_whole laws entries run invariant ended = record {
  all_answered = λ place within. (each_is_decided_once entries run invariant).has_answer place (each_decided entries run invariant ended place (omega (arith, invariant.shaped.a_lane_each)));
  whole_order = record { places_of_batch = invariant.decided.places_of_batch; each_lane_in_order = each_lane entries run invariant ended };
  at_rest = (laws.all_idle_is_at_rest (tree_state_of run) invariant.invariant (all_idle entries run invariant ended)).at_rest;
}

-- ---- latches

-- a worker holds one latch at most
pub one_latch_each : OneLatchEach
one_latch_each run worker first second holds also = one_page_each run.shared.latches first second worker holds also
