-- Along a history every operation stays within what it may need.
use Rattle.std.proofs.Common.{◌≡◌, ℕ, ◌+◌, ◌<◌, ◌≤◌, ◌∙◌, false, Option, Some, None, List, [], ◌∷◌, length, slice_get, refl, ap, sym, subst, inl, inr, arith}
use Rattle.std.specs.Prelude.{slice_set}
use Rattle.std.proofs.lemmas.Bool.{cases_eq}
use Rattle.std.proofs.lemmas.Option.{get_or_from_slice_get, slice_get_within}
use Rattle.blink_batch.specs.declared.Entry.{Entry}
use Rattle.blink_batch.specs.declared.Op.{Op}
use Rattle.blink_batch.specs.{FitsWords, Assignment, next_place, IsAscending}
use Rattle.blink_batch.proofs.Offered.{next_place_is}
use Rattle.blink_rest.specs.{AreEntries}
use Rattle.blink_store.specs.{PlainStore, page_of}
use Rattle.blink_machine.specs.declared.machine.Job.TheVariants.{Leaf}
use Rattle.blink_store.proofs.Offered.{slice_get-set_other, slice_get-set_same}
use Rattle.blink_steps.specs.declared.seat.WorkerState.{WorkerState}
use Rattle.blink_steps.specs.declared.seat.Working.{Working}
use Rattle.blink_machine.specs.declared.step.Kind.{Kind}
use Rattle.blink_machine.specs.declared.step.Step.TheVariants.{Moved}
use Rattle.blink_machine.specs.{numbers_for, UsesUp, PlainMachine, goes_on, pairs_of}
use Rattle.blink_steps.specs.Counts.{takes_number, numbers_in, moves_in}
use Rattle.blink_steps.specs.Run.{PlainRun, Event, AppliesEvent, IsHistory, IsOpeningRun, after_move, seat_after, idle_seat, tree_state_of}
use Rattle.blink_steps.specs.RunInvariant.{RunInvariant, WorkerInvariant}
use Rattle.blink_machine.proofs.Offered.{step_law}
use Rattle.blink_steps.proofs.runs.OperationOfTurn.{move_is_step, next_is_its}
use Rattle.blink_steps.proofs.bounds.CountsOfOperations.{IsWithin, IsLimited, IsInsertAt, IsCounted, IsKnown, next_is_known}
use Rattle.blink_steps.proofs.bounds.MovesStayWithin.{is_moving_turn, is_write_turn, is_prime_turn, own_within, other_within, within_is_limited, other_limited, numbers_for_inserts, next_after, working_is_after}
use Rattle.blink_steps.proofs.runs.RunStatements.{MayBegin, OpeningRunHasInvariant, TurnKeepsRunInvariant}
use Rattle.blink_steps.proofs.bounds.CountedTurns.{turns_of-other, turns_of-unlike}

-- two places of different workers are two places
pub other_lane : (lanes : List ℕ) (place other worker : ℕ) (lane : ℕ) → slice_get lanes place ≡ Some lane → slice_get lanes other ≡ Some worker → (worker ≡ lane → ⊥)
    → place ≡ other → ⊥
other_lane lanes place other worker lane one two differ same =
    let both : ◌≡◌ {A = Option ℕ} (Some worker) (Some lane) = sym two ∙ ap (slice_get lanes) (sym same) ∙ one in
    differ (cc)

-- a worker's operation under way is of its lane
pub own_of_working : (entries : List Entry) (run : PlainRun) (worker : ℕ) (seat : WorkerState) (working : Working) → RunInvariant entries run
    → slice_get run.seats worker ≡ Some seat → seat.working ≡ Some working → slice_get run.assignment.lanes working.place ≡ Some worker
own_of_working entries run worker seat working invariant is_seat is_working =
    (subst (λ (working : Option Working). WorkerInvariant run worker working seat.next) is_working (invariant.seats worker seat is_seat)).own

-- a turn that moves keeps all counts
counted_of_move : (history : List Event) (taken : Event) (kind : Kind) (old new : PlainRun) (next : Option ℕ) (entries : List Entry) → RunInvariant entries old
    → IsCounted history old → IsKnown history old taken.worker taken.place taken.before next → taken.step ≡ Moved kind
    → UsesUp taken.before taken.step taken.after
    → new ≡ after_move old taken.worker taken.place next taken.before kind taken.after new.shared → IsCounted (taken ∷ history) new
counted_of_move history taken kind old new next entries invariant counted known moved uses same =
    let within_now : IsWithin (taken ∷ history) taken.place taken.after = own_within history taken kind moved known.within uses in
    let same_ops : new.ops ≡ old.ops = ap (λ (run : PlainRun). run.ops) same in
    let same_lanes : new.assignment.lanes ≡ old.assignment.lanes = ap (λ (run : PlainRun). run.assignment.lanes) same in
    let seat_now : WorkerState = seat_after (goes_on taken.after taken.after.state) taken.place next in
    let same_seats : new.seats ≡ slice_set old.seats taken.worker seat_now = ap (λ (run : PlainRun). run.seats) same in
    let own_seat : slice_get new.seats taken.worker ≡ Some seat_now =
    ap (λ (seats : List WorkerState). slice_get seats taken.worker) same_seats ∙ slice_get-set_same old.seats taken.worker seat_now known.seated in
    let other_seat : (worker : ℕ) → (worker ≡ taken.worker → ⊥) → slice_get new.seats worker ≡ slice_get old.seats worker =
    λ worker other. ap (λ (seats : List WorkerState). slice_get seats worker) same_seats ∙ slice_get-set_other old.seats taken.worker worker seat_now other in
    record {
      under_way = λ worker seat working is_seat is_working. elim (cases_eq worker taken.worker) [
        | inl mine ↦
            let here : Some seat ≡ Some seat_now = sym is_seat ∙ ap (slice_get new.seats) mine ∙ own_seat in
            let same_seat : seat ≡ seat_now = cc in
            let now = working_is_after taken.after taken.after.state taken.place next working (sym (ap (λ (seat : WorkerState). seat.working) same_seat) ∙ is_working) in
            subst (λ (working : Working). IsWithin (taken ∷ history) working.place working.machine) (sym now) within_now
        | inr other ↦
            let there : slice_get old.seats worker ≡ Some seat = sym (other_seat worker other) ∙ is_seat in
            let within = counted.under_way worker seat working there is_working in
            let own = own_of_working entries old worker seat working invariant there is_working in
            other_within history taken working.place working.machine (other_lane old.assignment.lanes taken.place working.place worker taken.worker known.own own other) within
      ];
      to_come = λ worker soon later seat is_seat is_next after own.
          let own_lane : slice_get old.assignment.lanes later ≡ Some worker = rw same_lanes at own in
          elim (cases_eq worker taken.worker) [
            | inl mine ↦
                let here : Some seat ≡ Some seat_now = sym is_seat ∙ ap (slice_get new.seats) mine ∙ own_seat in
                let same_seat : seat ≡ seat_now = cc in
                let is_soon : next ≡ Some soon = sym (next_after (goes_on taken.after taken.after.state) taken.place next) ∙ sym (ap (λ (seat : WorkerState). seat.next) same_seat) ∙ is_next in
                let follows = next_place_is old.assignment.lanes taken.worker (taken.place + 1) soon (sym known.next_of_lane ∙ is_soon) in
                let beyond : taken.place + 1 ≤ soon = follows.0 in
                let none : moves_in history later ≡ 0 = known.to_come soon later is_soon after (own_lane ∙ ap Some mine) in
                turns_of-other later is_moving_turn taken history (λ (at : taken.place ≡ later). omega arith) ∙ none
            | inr other ↦
                let there : slice_get old.seats worker ≡ Some seat = sym (other_seat worker other) ∙ is_seat in
                let none : moves_in history later ≡ 0 = counted.to_come worker soon later seat there is_next after own_lane in
                turns_of-other later is_moving_turn taken history (other_lane old.assignment.lanes taken.place later worker taken.worker known.own own_lane other) ∙ none
          ];
      everywhere = λ place. elim (cases_eq taken.place place) [
        | inl at ↦ subst (IsLimited (taken ∷ history)) at (within_is_limited (taken ∷ history) taken.place taken.after within_now)
        | inr other ↦ other_limited history taken place other (counted.everywhere place)
      ];
      inserts = λ place some. rw same_ops (elim (cases_eq taken.place place) [
        | inr other ↦ counted.inserts place (rw (turns_of-other place takes_number taken history other) at some)
        | inl at ↦
            let more : 0 < numbers_in (taken ∷ history) taken.place = subst (λ (n : ℕ). 0 < numbers_in (taken ∷ history) n) (sym at) some in
            let bound = within_now.numbers in
            let same_numbers : numbers_for Leaf taken.after.op ≡ numbers_for Leaf taken.before.op = ap (numbers_for Leaf) uses.same_op in
            subst (IsInsertAt old.ops) at (record { op = taken.before.op; there = known.there; inserts = numbers_for_inserts taken.before.op (omega arith) })
      ]);
    }

-- a turn that doesn't move keeps them too
counted_of_rest : (history : List Event) (taken : Event) (old new : PlainRun) → IsCounted history old → new ≡ old → takes_number taken ≡ false
    → is_moving_turn taken ≡ false → is_write_turn taken ≡ false → is_prime_turn taken ≡ false → IsCounted (taken ∷ history) new
counted_of_rest history taken old new counted same takes_none moves_none writes_none primes_none = rw same record {
  under_way = λ worker seat working is_seat is_working.
      let within = counted.under_way worker seat working is_seat is_working in
      record {
        numbers = rw (turns_of-unlike working.place takes_number taken history takes_none) within.numbers;
        page_writes = rw (turns_of-unlike working.place is_write_turn taken history writes_none) within.page_writes;
        prime_writes = rw (turns_of-unlike working.place is_prime_turn taken history primes_none) within.prime_writes;
      };
  to_come = λ worker soon later seat is_seat is_next after own.
      turns_of-unlike later is_moving_turn taken history moves_none ∙ counted.to_come worker soon later seat is_seat is_next after own;
  everywhere = λ place.
      let limited = counted.everywhere place in
      record {
        numbers = rw (turns_of-unlike place takes_number taken history takes_none) limited.numbers;
        page_writes = rw (turns_of-unlike place is_write_turn taken history writes_none) limited.page_writes;
        prime_writes = rw (turns_of-unlike place is_prime_turn taken history primes_none) limited.prime_writes;
      };
  inserts = λ place some. counted.inserts place (rw (turns_of-unlike place takes_number taken history takes_none) at some);
}

-- the numbers of the next operation fit
pub next_fits : (entries : List Entry) (history : List Event) (run : PlainRun) (worker place : ℕ) (m : PlainMachine) (next : Option ℕ) → RunInvariant entries run
    → IsKnown history run worker place m next → FitsWords m.op
next_fits entries history run worker place m next invariant known =
    subst FitsWords (get_or_from_slice_get run.ops place m.op m.op known.there) (invariant.shaped.words place m.op (slice_get_within run.ops place m.op known.there))

-- so every turn keeps them
counted_of_turn : (history : List Event) (taken : Event) (old new : PlainRun) (entries : List Entry) → RunInvariant entries old
    → IsCounted history old → AppliesEvent old taken new → IsCounted (taken ∷ history) new
counted_of_turn history taken old new entries invariant counted (AppliesEvent.moves next kind is_next moved acts same) =
    let known = next_is_known entries history old taken.worker taken.place taken.before next invariant counted is_next in
    let words : FitsWords taken.before.op = next_fits entries history old taken.worker taken.place taken.before next invariant known in
    let step = move_is_step old taken.worker taken.place taken.before taken.after next kind new.shared is_next acts in
    let moved_to : PlainRun = after_move old taken.worker taken.place next taken.before kind taken.after new.shared in
    let uses : UsesUp taken.before (Moved kind) taken.after = step_law.allowance_is_used_up.by_step (tree_state_of old) (tree_state_of moved_to) taken.worker taken.before taken.after (Moved kind)
    invariant.invariant words (next_is_its old taken.worker taken.place taken.before next is_next) step in
    counted_of_move history taken kind old new next entries invariant counted known moved (rw moved uses) same
counted_of_turn history taken old new entries invariant counted (AppliesEvent.waits next is_next waited acts same) =
    counted_of_rest history taken old new counted same (rw waited refl) (rw waited refl) (rw waited refl) (rw waited refl)
counted_of_turn history taken old new entries invariant counted (AppliesEvent.idles idle idled same) =
    counted_of_rest history taken old new counted same (rw idled refl) (rw idled refl) (rw idled refl) (rw idled refl)

-- at the opening no operation is under way
pub none_under_way : (start : PlainStore) (ops : List Op) (assignment : Assignment) (run : PlainRun) → IsOpeningRun start ops assignment run
    → (worker : ℕ) (seat : WorkerState) (working : Working) → slice_get run.seats worker ≡ Some seat → seat.working ≡ Some working → ⊥
none_under_way start ops assignment run begins worker seat working is_seat is_working =
    let seated : worker < length run.seats = slice_get_within run.seats worker seat is_seat in
    let seats : length run.seats ≡ assignment.workers = begins.a_seat_each in
    let idle = begins.all_idle worker (omega arith) in
    let same : Some seat ≡ Some (idle_seat (next_place assignment.lanes worker 0)) = sym is_seat ∙ idle in
    let same_seat : seat ≡ idle_seat (next_place assignment.lanes worker 0) = cc in
    let none : seat.working ≡ None = ap (λ (seat : WorkerState). seat.working) same_seat in
    cc

-- they hold at the opening, where no operation is under way
counted_at_opening : (start : PlainStore) (ops : List Op) (assignment : Assignment) (run : PlainRun) → IsOpeningRun start ops assignment run → IsCounted [] run
counted_at_opening start ops assignment run begins = record {
  under_way = λ worker seat working is_seat is_working. absurd (none_under_way start ops assignment run begins worker seat working is_seat is_working);
  to_come = λ worker soon later seat is_seat is_next after own. refl;
  everywhere = λ place. record { numbers = omega arith; page_writes = omega arith; prime_writes = omega arith };
  inserts = λ place some. absurd (omega arith);
}

-- what holds in each state of the tree of a run: it has the invariant and counted
pub record InvariantAndCounts (entries : List Entry) (history : List Event) (run : PlainRun) : Type 0 where
  pub invariant : RunInvariant entries run
  pub counted : IsCounted history run

-- so it is in each state of the tree
pub counted_along : OpeningRunHasInvariant → TurnKeepsRunInvariant → (start : PlainStore) (ops : List Op) (assignment : Assignment)
    (opening run : PlainRun) (history : List Event) (entries : List Entry) → MayBegin start ops assignment → IsAscending entries
    → AreEntries start.fan start.prime (page_of start) (pairs_of entries) → IsOpeningRun start ops assignment opening → IsHistory opening history run
    → InvariantAndCounts entries history run
counted_along opening_run_has_invariant turn_keeps_run_invariant start ops assignment opening run [] entries may_begin ascending are_entries begins same =
    rw same record {
      invariant = opening_run_has_invariant start ops assignment opening entries may_begin ascending are_entries begins;
      counted = counted_at_opening start ops assignment opening begins;
    }
counted_along opening_run_has_invariant turn_keeps_run_invariant start ops assignment opening run (taken ∷ history) entries may_begin ascending are_entries begins (before, follows, turn) =
    let earlier : InvariantAndCounts entries history before =
    counted_along opening_run_has_invariant turn_keeps_run_invariant start ops assignment opening before history entries may_begin ascending are_entries begins follows in
    record {
      invariant = turn_keeps_run_invariant entries before run taken earlier.invariant turn;
      counted = counted_of_turn history taken before run entries earlier.invariant earlier.counted turn;
    }
