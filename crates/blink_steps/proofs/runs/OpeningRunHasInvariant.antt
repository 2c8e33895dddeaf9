-- The first tree state of a run has the invariant.
use Rattle.std.proofs.Common.{◌≡◌, ℕ, zero, suc, ◌<◌, Option, Some, None, List, length, count_by, replicate, if◌then◌else◌, refl, ap, sym, ◌∙◌, subst, inl, inr, arith}
use Rattle.std.proofs.lemmas.Bool.{cases_lt}
use Rattle.std.proofs.lemmas.List.{get_or-replicate, length-replicate}
use Rattle.std.proofs.lemmas.List.Elements.{All-nil}
use Rattle.std.proofs.lemmas.List.Folds.{sum_by-replicate}
use Rattle.std.proofs.lemmas.Option.{slice_get_past, slice_get_within, slice_get-get_or}
use Rattle.std.specs.List.{slice_get}
use Rattle.blink_batch.specs.declared.Answer.{Answer}
use Rattle.blink_batch.specs.declared.Entry.{Entry}
use Rattle.blink_batch.specs.declared.Op.{Op}
use Rattle.blink_batch.specs.{Assignment, next_place, IsAscending}
use Rattle.blink_page.specs.{IsPageNumber, PlainPage}
use Rattle.blink_rest.specs.{AreEntries, IsStoreAtRest}
use Rattle.blink_store.specs.{PlainStore, IsLawfulStore, page_of}
use Rattle.blink_steps.specs.declared.seat.WorkerState.{WorkerState}
use Rattle.blink_steps.specs.Run.{PlainRun, IsOpeningRun, idle_seat, machine_of_seat, tree_state_of}
use Rattle.blink_steps.specs.RunInvariant.{IsShaped, RunInvariant, WorkerInvariant, is_answered, IdleInvariant}
use Rattle.blink_steps.specs.Decided.{IsDecided}
use Rattle.blink_machine.specs.{HasEntries, pairs_of, IsOpening}
use Rattle.blink_steps.proofs.runs.RunStatements.{MayBegin, OpeningRunHasInvariant}
use Rattle.blink_machine.specs.StepLaw.{StepLaw}
use Rattle.blink_steps.specs.Outcome.{PlainOutcome}

-- the number of a page of a lawful store is one that a page may have
pub number_in_range : (store : PlainStore) (number : ℕ) (page : PlainPage) → IsLawfulStore store → page_of store number ≡ Some page → IsPageNumber number
number_in_range store zero page lawful there = absurd (cc)
number_in_range store (suc n) page lawful there =
    let inside : n < length store.pages = slice_get_within store.pages n page there in
    let range = lawful.count_in_range.1 in
    (omega arith, omega arith)

-- each place of a list of one value has that value
replicate_at : {X : Type 0} (n place : ℕ) (x : X) → place < n → slice_get (replicate n x) place ≡ Some x
replicate_at n place x within = slice_get-get_or (replicate n x) place x (omega (arith, length-replicate n x)) ∙ ap Some (get_or-replicate n place x x within)

-- where no place has an answer none is counted
none_counted : (n : ℕ) → count_by is_answered (replicate n None) ≡ 0
none_counted n = let count = sum_by-replicate (λ (o : Option Answer). if is_answered o then 1 else 0) n None in omega arith

module _ (start : PlainStore) (ops : List Op) (assignment : Assignment) (run : PlainRun) (entries : List Entry) (may : MayBegin start ops assignment)
    (ascending : IsAscending entries) (are : AreEntries start.fan start.prime (page_of start) (pairs_of entries)) (opening : IsOpeningRun start ops assignment run) where
  -- the run's store is lawful
  lawful : IsLawfulStore run.shared.store
  lawful = subst IsLawfulStore (sym opening.same_store) may.lawful_store

  -- no worker has an operation
  no_machine : (worker : ℕ) → machine_of_seat (slice_get run.seats worker) ≡ None
  no_machine worker = elim (cases_lt worker assignment.workers) [
    | inl within ↦ ap machine_of_seat (opening.all_idle worker within)
    | inr past ↦ ap machine_of_seat (slice_get_past run.seats worker (omega (arith, opening.a_seat_each)))
  ]

  -- its tree state is an opening
  is_opening : IsOpening (tree_state_of run)
  is_opening = record {
    fan_in_range = lawful.fan_in_range;
    some_level = lawful.some_level;
    numbers_in_range = λ number page there. number_in_range run.shared.store number page lawful there;
    at_rest = subst IsStoreAtRest (sym opening.same_store) may.at_rest;
    no_latch = opening.no_latch;
    all_idle = no_machine;
  }

  -- its lists have their lengths
  shaped : IsShaped run
  shaped = record {
    lawful_store = lawful;
    words = rw opening.same_ops may.words;
    lanes = rw opening.same_assignment may.lanes;
    a_lane_each = rw (opening.same_assignment, opening.same_ops) may.a_lane_each;
    a_seat_each = opening.a_seat_each ∙ ap (λ (a : Assignment). a.workers) (sym opening.same_assignment);
    an_answer_each = ap (λ (outcome : PlainOutcome). length outcome.answers) opening.nothing_recorded ∙ length-replicate (length ops) None ∙ ap length (sym opening.same_ops);
    a_read_count_each = ap (λ (outcome : PlainOutcome). length outcome.reads) opening.nothing_recorded ∙ length-replicate (length ops) 0 ∙ ap length (sym opening.same_ops);
    a_move_count_each = ap (λ (outcome : PlainOutcome). length outcome.moves) opening.nothing_recorded ∙ length-replicate (length ops) 0 ∙ ap length (sym opening.same_ops);
  }

  -- the tree has the entries
  keeps : HasEntries (tree_state_of run) entries
  keeps = subst (λ (store : PlainStore). AreEntries store.fan store.prime (page_of store) (pairs_of entries)) (sym opening.same_store) are

  -- nothing is decided
  decided : IsDecided entries run
  decided = record {
    places_of_batch = rw opening.nothing_recorded (All-nil (λ place. place < length run.ops));
    answered = rw opening.nothing_recorded (λ k default within. absurd (omega arith));
    undecided = λ place within outside. rw opening.nothing_recorded (replicate_at (length ops) place None (let same = ap length opening.same_ops in omega arith));
    kept = rw opening.nothing_recorded keeps;
  }

  -- each worker is at the beginning of its lane
  seats : (worker : ℕ) (seat : WorkerState) → slice_get run.seats worker ≡ Some seat → WorkerInvariant run worker seat.working seat.next
  seats worker seat there =
      let within : worker < assignment.workers = omega (arith, opening.a_seat_each, slice_get_within run.seats worker seat there) in
      let idle : slice_get run.seats worker ≡ Some (idle_seat (next_place assignment.lanes worker 0)) = opening.all_idle worker within in
      let is : idle_seat (next_place assignment.lanes worker 0) ≡ seat = cc in
      let its : IdleInvariant run worker (next_place assignment.lanes worker 0) = record {
        from = 0;
        next_of_lane = ap (λ (a : Assignment). next_place a.lanes worker 0) (sym opening.same_assignment);
        decided = rw opening.nothing_recorded refl;
      } in
      subst (λ (s : WorkerState). WorkerInvariant run worker s.working s.next) is its

  -- so it has the invariant
  pub opening_invariant : StepLaw → RunInvariant entries run
  opening_invariant laws = record {
    invariant = laws.opening_has_invariant (tree_state_of run) is_opening;
    shaped = shaped;
    ascending = ascending;
    decided = decided;
    as_many_decided = rw opening.nothing_recorded (none_counted (length ops));
    seats = seats;
  }

-- the first tree state of a run has the invariant
pub opening_run_has_invariant : StepLaw → OpeningRunHasInvariant
opening_run_has_invariant laws start ops assignment run entries may ascending are opening = opening_invariant start ops assignment run entries may ascending are opening laws
