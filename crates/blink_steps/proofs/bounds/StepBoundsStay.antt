-- Along a history every operation's way is short.
use Rattle.std.proofs.Common.{◌≡◌, ℕ, ◌<◌, ◌≤◌, ◌∙◌, false, Option, Some, List, [], ◌∷◌, length, slice_get, refl, ap, sym, subst, inl, inr, arith}
use Rattle.std.specs.Prelude.{slice_set}
use Rattle.std.proofs.lemmas.Bool.{cases_eq}
use Rattle.std.proofs.lemmas.Option.{slice_get_within}
use Rattle.blink_batch.specs.declared.Entry.{Entry}
use Rattle.blink_batch.specs.declared.Op.{Op}
use Rattle.blink_batch.specs.declared.Op.TheVariants.{Find}
use Rattle.blink_batch.specs.{FitsWords, Assignment, IsAscending}
use Rattle.blink_batch.proofs.Offered.{next_place_is}
use Rattle.blink_rest.specs.{AreEntries}
use Rattle.blink_store.specs.{PlainStore, page_of}
use Rattle.blink_machine.specs.declared.machine.Job.TheVariants.{Leaf}
use Rattle.blink_machine.specs.{primes_for, primes_left, has_moved, moved_by, is_page_read, PlainMachine, goes_on, IsItsOperation, KeepsPlaces, pairs_of}
use Rattle.blink_store.proofs.Offered.{slice_get-set_other, slice_get-set_same}
use Rattle.blink_steps.specs.declared.seat.WorkerState.{WorkerState}
use Rattle.blink_steps.specs.declared.seat.Working.{Working}
use Rattle.blink_machine.specs.declared.step.Kind.{Kind}
use Rattle.blink_machine.specs.declared.step.Step.TheVariants.{Moved}
use Rattle.blink_steps.specs.Acts.{Acts}
use Rattle.blink_steps.specs.StepBounds.{page_on_way, page_to_latch, read_on_way, latched_by}
use Rattle.blink_steps.specs.Counts.{moves_in}
use Rattle.blink_steps.specs.Run.{PlainRun, Event, AppliesEvent, IsHistory, IsOpeningRun, IsNextOf, after_move, seat_after, idle_seat, busy_seat, tree_state_of}
use Rattle.blink_steps.specs.RunInvariant.{RunInvariant, IdleInvariant}
use Rattle.blink_steps.proofs.bounds.HistoriesStayWithin.{InvariantAndCounts, counted_along, next_fits, none_under_way, other_lane, own_of_working}
use Rattle.blink_steps.proofs.bounds.CountsOfOperations.{IsCounted, IsKnown, next_is_known}
use Rattle.blink_steps.proofs.bounds.MovesStayWithin.{working_is_after}
use Rattle.blink_steps.proofs.bounds.FindsReadOnTheirWay.{find_reads_on_way}
use Rattle.blink_machine.proofs.Offered.{its_place, step_law, TreeLaws}
use Rattle.blink_steps.proofs.bounds.OperationTracks.{track_stays, fresh_on_track}
use Rattle.blink_steps.proofs.runs.OperationOfTurn.{machines_of, move_is_step, next_is_its}
use Rattle.blink_steps.proofs.runs.RunStatements.{MayBegin, OpeningRunHasInvariant, TurnKeepsRunInvariant}
use Rattle.blink_steps.proofs.bounds.MovesKeepStepBounds.{WithinStepBoundAt, IsTracked, own_track, other_track, rest_track, own_short, other_short, rest_short, short_stays}
use Rattle.blink_steps.proofs.bounds.ReadsKeepTrack.{GoesOnTrack}
use Rattle.blink_steps.proofs.bounds.StepsKeepTrack.{step_tracks}
use Rattle.blink_steps.proofs.bounds.CountedTurns.{turns_of-other, turns_of-unlike}
use Rattle.blink_steps.proofs.bounds.PagesOfTurns.{no_pages}

-- each operation under way is on its track, each operation's way is short, and only operations of the batch have taken steps
pub record IsWalked (history : List Event) (run : PlainRun) : Type 0 where
  pub under_way : (worker : ℕ) (seat : WorkerState) (working : Working) → slice_get run.seats worker ≡ Some seat → seat.working ≡ Some working
      → IsTracked (page_of run.shared.store) history working.place working.machine
  pub everywhere : (place : ℕ) → WithinStepBoundAt (page_of run.shared.store) run.ops history place
  pub of_batch : (place : ℕ) → 0 < moves_in history place → place < length run.ops

-- the operation of a worker's next turn is on its track, also where it is taken on
next_on_track : (entries : List Entry) (history : List Event) (run : PlainRun) (worker place : ℕ) (m : PlainMachine) (next : Option ℕ) → RunInvariant entries run
    → IsCounted history run → IsWalked history run → IsNextOf run worker place m next → IsTracked (page_of run.shared.store) history place m
next_on_track entries history run worker place m next invariant counted walked (IsNextOf.under_way is_seat) =
    walked.under_way worker (busy_seat place m next) (record { place = place; machine = m }) is_seat refl
next_on_track entries history run worker place m next invariant counted walked (IsNextOf.taken_on op is_seat is_op is_fresh is_next) =
    let idle : IdleInvariant run worker (Some place) = invariant.seats worker (idle_seat (Some place)) is_seat in
    let found = next_place_is run.assignment.lanes worker idle.from place (sym idle.next_of_lane) in
    let none : moves_in history place ≡ 0 = counted.to_come worker place place (idle_seat (Some place)) is_seat refl (omega arith) found.2 in
    fresh_on_track (page_of run.shared.store) m (read_on_way history place) (latched_by history place) (moves_in history place) _
    (ap (λ (m : PlainMachine). m.state) is_fresh) (ap (λ (m : PlainMachine). m.job) is_fresh) refl
    (no_pages page_on_way history place none) (no_pages page_to_latch history place none) none

-- a turn that moves keeps all ways short
walked_of_move : TreeLaws → (history : List Event) (taken : Event) (kind : Kind) (old new : PlainRun) (next : Option ℕ) (entries : List Entry) → RunInvariant entries old
    → IsCounted history old → IsWalked history old → IsKnown history old taken.worker taken.place taken.before next
    → IsNextOf old taken.worker taken.place taken.before next → taken.step ≡ Moved kind
    → Acts old.shared taken.worker taken.before (Moved kind) taken.after new.shared
    → new ≡ after_move old taken.worker taken.place next taken.before kind taken.after new.shared → IsWalked (taken ∷ history) new
walked_of_move laws history taken kind old new next entries invariant counted walked known is_next moved acts same =
    let its : IsItsOperation (tree_state_of old) taken.worker taken.before = next_is_its old taken.worker taken.place taken.before next is_next in
    let fits : FitsWords taken.before.op = next_fits entries history old taken.worker taken.place taken.before next invariant known in
    let moved_to : PlainRun = after_move old taken.worker taken.place next taken.before kind taken.after new.shared in
    let step = move_is_step old taken.worker taken.place taken.before taken.after next kind new.shared is_next acts in
    let keeps : KeepsPlaces (page_of old.shared.store) (page_of new.shared.store) =
    step_law.places_stay.stay (tree_state_of old) (tree_state_of moved_to) taken.worker taken.before taken.after (Moved kind) invariant.invariant its step in
    let before : IsTracked (page_of old.shared.store) history taken.place taken.before =
    next_on_track entries history old taken.worker taken.place taken.before next invariant counted walked is_next in
    let goes : GoesOnTrack (page_of old.shared.store) taken.before.state taken.after (read_on_way history taken.place) (latched_by history taken.place) (moves_in history taken.place) =
    step_tracks laws old.shared new.shared (machines_of old.seats) invariant.invariant.0 invariant.invariant.1 taken.worker taken.before taken.after kind its fits
    (read_on_way history taken.place) (latched_by history taken.place) (moves_in history taken.place) before acts in
    let after : IsTracked (page_of old.shared.store) (taken ∷ history) taken.place taken.after = own_track (page_of old.shared.store) history taken kind moved goes in
    let same_ops : new.ops ≡ old.ops = ap (λ (run : PlainRun). run.ops) same in
    let seat_now : WorkerState = seat_after (goes_on taken.after taken.after.state) taken.place next in
    let same_seats : new.seats ≡ slice_set old.seats taken.worker seat_now = ap (λ (run : PlainRun). run.seats) same in
    let own_seat : slice_get new.seats taken.worker ≡ Some seat_now =
    ap (λ (seats : List WorkerState). slice_get seats taken.worker) same_seats ∙ slice_get-set_same old.seats taken.worker seat_now known.seated in
    let other_seat : (worker : ℕ) → (worker ≡ taken.worker → ⊥) → slice_get new.seats worker ≡ slice_get old.seats worker =
    λ worker other. ap (λ (seats : List WorkerState). slice_get seats worker) same_seats ∙ slice_get-set_other old.seats taken.worker worker seat_now other in
    record {
      under_way = λ worker seat working is_seat is_working.
          track_stays (page_of old.shared.store) (page_of new.shared.store) keeps working.machine (read_on_way (taken ∷ history) working.place)
          (latched_by (taken ∷ history) working.place) (moves_in (taken ∷ history) working.place) (elim (cases_eq worker taken.worker) [
            | inl mine ↦
                let here : Some seat ≡ Some seat_now = sym is_seat ∙ ap (slice_get new.seats) mine ∙ own_seat in
                let same_seat : seat ≡ seat_now = cc in
                let now = working_is_after taken.after taken.after.state taken.place next working (sym (ap (λ (seat : WorkerState). seat.working) same_seat) ∙ is_working) in
                subst (λ (working : Working). IsTracked (page_of old.shared.store) (taken ∷ history) working.place working.machine) (sym now) after
            | inr other ↦
                let there : slice_get old.seats worker ≡ Some seat = sym (other_seat worker other) ∙ is_seat in
                let track = walked.under_way worker seat working there is_working in
                let own = own_of_working entries old worker seat working invariant there is_working in
                other_track (page_of old.shared.store) history taken working.place working.machine
                (other_lane old.assignment.lanes taken.place working.place worker taken.worker known.own own other) track
          ]);
      everywhere = λ place.
          short_stays (page_of old.shared.store) (page_of new.shared.store) new.ops (taken ∷ history) place keeps (rw same_ops (elim (cases_eq taken.place place) [
            | inl at ↦ subst (WithinStepBoundAt (page_of old.shared.store) old.ops (taken ∷ history)) at
                (own_short (page_of old.shared.store) old.ops history taken kind moved before after (λ key there.
                let both : Some taken.before.op ≡ Some (Find key) = sym known.there ∙ there in
                let is_find : taken.before.op ≡ Find key = cc in
                let bound = known.within.prime_writes in
                let few : primes_left taken.before ≤ primes_for Leaf taken.before.op = omega arith in
                find_reads_on_way old.shared new.shared (tree_state_of old) invariant.invariant.0 taken.worker taken.before taken.after kind key (read_on_way history taken.place)
                (its_place (tree_state_of old) invariant.invariant.0 taken.worker taken.before invariant.invariant.1 fits its) few is_find acts) (walked.everywhere taken.place))
            | inr other ↦ other_short (page_of old.shared.store) old.ops history taken place other (walked.everywhere place)
          ]));
      of_batch = λ place some. rw same_ops (elim (cases_eq taken.place place) [
        | inl at ↦ subst (λ (place : ℕ). place < length old.ops) at (slice_get_within old.ops taken.place taken.before.op known.there)
        | inr other ↦ walked.of_batch place (rw (turns_of-other place (λ (turn : Event). has_moved turn.step) taken history other) at some)
      ]);
    }

-- a turn that doesn't move keeps them too
walked_of_rest : (history : List Event) (taken : Event) (old new : PlainRun) → IsWalked history old → new ≡ old → has_moved taken.step ≡ false
    → moved_by is_page_read taken.step ≡ false → IsWalked (taken ∷ history) new
walked_of_rest history taken old new walked same rests reads_none = rw same record {
  under_way = λ worker seat working is_seat is_working.
      rest_track (page_of old.shared.store) history taken working.place working.machine rests (walked.under_way worker seat working is_seat is_working);
  everywhere = λ place. rest_short (page_of old.shared.store) old.ops history taken place rests reads_none (walked.everywhere place);
  of_batch = λ place some. walked.of_batch place (rw (turns_of-unlike place (λ (turn : Event). has_moved turn.step) taken history rests) at some);
}

-- so every turn keeps them
walked_of_turn : TreeLaws → (history : List Event) (taken : Event) (old new : PlainRun) (entries : List Entry) → RunInvariant entries old → IsCounted history old → IsWalked history old
    → AppliesEvent old taken new → IsWalked (taken ∷ history) new
walked_of_turn laws history taken old new entries invariant counted walked (AppliesEvent.moves next kind is_next moved acts same) =
    walked_of_move laws history taken kind old new next entries invariant counted walked
    (next_is_known entries history old taken.worker taken.place taken.before next invariant counted is_next) is_next moved acts same
walked_of_turn laws history taken old new entries invariant counted walked (AppliesEvent.waits next is_next waited acts same) =
    walked_of_rest history taken old new walked same (rw waited refl) (rw waited refl)
walked_of_turn laws history taken old new entries invariant counted walked (AppliesEvent.idles idle idled same) =
    walked_of_rest history taken old new walked same (rw idled refl) (rw idled refl)

-- they are short at the opening, where no operation is under way
walked_at_opening : (start : PlainStore) (ops : List Op) (assignment : Assignment) (run : PlainRun) → IsOpeningRun start ops assignment run → IsWalked [] run
walked_at_opening start ops assignment run begins = record {
  under_way = λ worker seat working is_seat is_working. absurd (none_under_way start ops assignment run begins worker seat working is_seat is_working);
  everywhere = λ place. record {
    reads_differ = tt;
    reads_there = tt;
    latches_differ = tt;
    latches_there = tt;
    moves = omega arith;
    reads_of_find = λ key there. omega arith;
  };
  of_batch = λ place some. absurd (omega arith);
}

-- so they are in each state of the tree
pub walked_along : TreeLaws → OpeningRunHasInvariant → TurnKeepsRunInvariant → (start : PlainStore) (ops : List Op) (assignment : Assignment) (opening run : PlainRun) (history : List Event) (entries : List Entry)
    → MayBegin start ops assignment → IsAscending entries → AreEntries start.fan start.prime (page_of start) (pairs_of entries) → IsOpeningRun start ops assignment opening
    → IsHistory opening history run → IsWalked history run
walked_along laws opening_run_has_invariant turn_keeps_run_invariant start ops assignment opening run [] entries may_begin ascending are_entries begins same = rw same (walked_at_opening start ops assignment opening begins)
walked_along laws opening_run_has_invariant turn_keeps_run_invariant start ops assignment opening run (taken ∷ history) entries may_begin ascending are_entries begins (before, follows, turn) =
    let earlier : InvariantAndCounts entries history before =
    counted_along opening_run_has_invariant turn_keeps_run_invariant start ops assignment opening before history entries
    may_begin ascending are_entries begins follows in
    walked_of_turn laws history taken before run entries earlier.invariant earlier.counted
    (walked_along laws opening_run_has_invariant turn_keeps_run_invariant start ops assignment opening before history entries may_begin ascending are_entries begins follows) turn
