-- A run with the next operation in its seat takes the same turn as the run before.
use Rattle.std.proofs.Common.{◌≡◌, ℕ, ◌<◌, List, length, set, Option, Some, None, sym, ap, ◌∙◌, subst, arith}
use Rattle.std.proofs.lemmas.List.{set-set, length-set}
use Rattle.std.specs.List.{slice_get}
use Rattle.blink_store.proofs.Offered.{slice_get-set_same}
use Rattle.blink_machine.specs.declared.machine.State.{State}
use Rattle.blink_machine.specs.declared.machine.State.TheVariants.{Start}
use Rattle.blink_machine.specs.declared.step.Step.{Step}
use Rattle.blink_machine.specs.declared.step.Step.TheVariants.{Waited}
use Rattle.blink_machine.specs.{PlainMachine, need_at, goes_on, WaitsForLevel}
use Rattle.blink_steps.specs.declared.seat.WorkerState.{WorkerState}
use Rattle.blink_steps.specs.declared.seat.Working.{Working}
use Rattle.blink_steps.specs.Acts.{PlainShared, Acts, ActsOn}
use Rattle.blink_steps.specs.Run.{PlainRun, Event, AppliesEvent, IsNextOf, idle_seat, busy_seat, seat_after, after_move}
use Rattle.blink_steps.specs.RunInvariant.{CanTakeTurn}
use Rattle.blink_steps.specs.Seats.{HasOperation, with_seat}
use Rattle.blink_steps.proofs.runs.TurnFromItsParts.{IsTurn, seats-same}

-- what one seat has under way
module _ (p place : ℕ) (n m : PlainMachine) (after next : Option ℕ) (same : busy_seat p n after ≡ busy_seat place m next) where
  under_way : ◌≡◌ {A = Option Working} (Some (record { place = p; machine = n })) (Some (record { place = place; machine = m }))
  under_way = ap (λ (seat : WorkerState). seat.working) same

  working_is : ◌≡◌ {A = Working} (record { place = p; machine = n }) (record { place = place; machine = m })
  working_is = let e = under_way in cc

  place_is : p ≡ place
  place_is = ap (λ (working : Working). working.place) working_is

  machine_is : n ≡ m
  machine_is = ap (λ (working : Working). working.machine) working_is

  next_is : after ≡ next
  next_is = ap (λ (seat : WorkerState). seat.next) same

module _ (old : PlainRun) (worker place : ℕ) (m : PlainMachine) (next : Option ℕ) (within : worker < length old.seats) (was_next : IsNextOf old worker place m next) where
  -- the run with the operation in its seat
  abbrev pub begun : PlainRun
  begun = with_seat old worker (busy_seat place m next)

  -- its seat
  seated : slice_get begun.seats worker ≡ Some (busy_seat place m next)
  seated = slice_get-set_same old.seats worker (busy_seat place m next) within

  -- it has an operation
  pub has_operation : HasOperation begun worker
  has_operation = record { place = place; m = m; next = next; seated = seated }

  -- the worker isn't idle
  busy : (idle : Option ℕ) → slice_get begun.seats worker ≡ Some (idle_seat idle) → ⊥
  busy idle found =
      let seats : ◌≡◌ {A = Option WorkerState} (Some (busy_seat place m next)) (Some (idle_seat idle)) = sym seated ∙ found in
      let seat : busy_seat place m next ≡ idle_seat idle = cc in
      let working : ◌≡◌ {A = Option Working} (Some (record { place = place; machine = m })) None = ap (λ (s : WorkerState). s.working) seat in
      cc

  -- its next step is the same
  same_seat : (p : ℕ) (n : PlainMachine) (after : Option ℕ) → IsNextOf begun worker p n after → busy_seat p n after ≡ busy_seat place m next
  same_seat p n after (IsNextOf.under_way found) =
      let seats : ◌≡◌ {A = Option WorkerState} (Some (busy_seat p n after)) (Some (busy_seat place m next)) = sym found ∙ seated in
      cc
  same_seat p n after (IsNextOf.taken_on op found there fresh_is after_is) = absurd (busy (Some p) found)

  -- so what holds of the one holds of the other
  back : (P : ℕ → PlainMachine → Option ℕ → Type 0) → P place m next → (p : ℕ) (n : PlainMachine) (after : Option ℕ) → IsNextOf begun worker p n after → P p n after
  back P holds p n after is_next =
      let same = same_seat p n after is_next in
      subst (λ (q : ℕ). P q n after) (sym (place_is p place n m after next same))
      (subst (λ (o : PlainMachine). P place o after) (sym (machine_is p place n m after next same))
      (subst (λ (a : Option ℕ). P place m a) (sym (next_is p place n m after next same)) holds))

  pub ready_in_seat : CanTakeTurn old worker → CanTakeTurn begun worker
  ready_in_seat ready = record {
    seated = omega (arith, within, length-set old.seats worker (busy_seat place m next));
    next_of_batch = λ p found. absurd (busy (Some p) found);
    can_act = λ p n after is_next. ready.can_act p n after (back (IsNextOf old worker) was_next p n after is_next);
    place_of_batch = λ p n after is_next. ready.place_of_batch p n after (back (IsNextOf old worker) was_next p n after is_next);
    room = λ p n after is_next. ready.room p n after (back (IsNextOf old worker) was_next p n after is_next);
    countable = λ p n after is_next. ready.countable p n after (back (IsNextOf old worker) was_next p n after is_next);
  }

  -- the seat is written again
  written_again : (seat : WorkerState) → set begun.seats worker seat ≡ set old.seats worker seat
  written_again seat = set-set old.seats worker (busy_seat place m next) seat

  -- the idle worker is as it was
  pub unseated : slice_get old.seats worker ≡ Some (idle_seat (Some place)) → with_seat begun worker (idle_seat (Some place)) ≡ old
  unseated idle = ap (λ (seats : List WorkerState). record old { seats = seats }) (written_again (idle_seat (Some place)) ∙ seats-same old.seats worker (idle_seat (Some place)) idle)

  -- an operation that has taken no step doesn't wait
  no_wait : m.state ≡ Start → (shared : PlainShared) (after : PlainMachine) (new : PlainShared) → Acts shared worker m Waited after new → ⊥
  no_wait start shared after new acts =
      let waits : WaitsForLevel m shared.store.prime = (subst (λ (state : State). ActsOn (need_at state) shared worker m Waited after new) start acts).0 in
      let posting = waits.posting in
      cc

  event : (taken : Event) (step : Step) (new : PlainRun) → m.state ≡ Start → taken.worker ≡ worker → taken.step ≡ step → AppliesEvent begun taken new → AppliesEvent old taken new
  event taken step new start of_worker is_step (AppliesEvent.moves after kind is_next moved acts is) =
      let own : IsNextOf begun worker taken.place taken.before after = subst (λ (w : ℕ). IsNextOf begun w taken.place taken.before after) of_worker is_next in
      let was : IsNextOf old worker taken.place taken.before after = back (IsNextOf old worker) was_next taken.place taken.before after own in
      let was_of : IsNextOf old taken.worker taken.place taken.before after = subst (λ (w : ℕ). IsNextOf old w taken.place taken.before after) (sym of_worker) was in
      let seat : WorkerState = seat_after (goes_on taken.after taken.after.state) taken.place after in
      let seats : set begun.seats taken.worker seat ≡ set old.seats taken.worker seat = subst (λ (w : ℕ). set begun.seats w seat ≡ set old.seats w seat) (sym of_worker) (written_again seat) in
      let same : after_move begun taken.worker taken.place after taken.before kind taken.after new.shared ≡ after_move old taken.worker taken.place after taken.before kind taken.after new.shared =
      ap (λ (s : List WorkerState). record (after_move old taken.worker taken.place after taken.before kind taken.after new.shared) { seats = s }) seats in
      AppliesEvent.moves after kind was_of moved acts (is ∙ same)
  event taken step new start of_worker is_step (AppliesEvent.waits after is_next waited acts is) =
      let own : IsNextOf begun worker taken.place taken.before after = subst (λ (w : ℕ). IsNextOf begun w taken.place taken.before after) of_worker is_next in
      let same = same_seat taken.place taken.before after own in
      let before : taken.before ≡ m = machine_is taken.place place taken.before m after next same in
      let own_acts = subst (λ (w : ℕ). Acts old.shared w taken.before Waited taken.after old.shared) of_worker acts in
      absurd (no_wait start old.shared taken.after old.shared (subst (λ (o : PlainMachine). Acts old.shared worker o Waited taken.after old.shared) before own_acts))
  event taken step new start of_worker is_step (AppliesEvent.idles found idle is) =
      absurd (busy None (subst (λ (w : ℕ). slice_get begun.seats w ≡ Some (idle_seat None)) of_worker found))

  pub turn_from_seat : m.state ≡ Start → (step : Step) (new : PlainRun) → IsTurn begun worker step new → IsTurn old worker step new
  turn_from_seat start step new turn = (turn.0, turn.1, turn.2, event turn.0 step new start turn.1 turn.2 turn.3)
