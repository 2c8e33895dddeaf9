-- One turn of a worker, from what becomes of the tree, of its seat and of the outcome.
use Rattle.std.proofs.Common.{◌≡◌, ℕ, ◌<◌, ◌≤◌, option_map, List, length, set, get_or, true, Option, Some, None, refl, sym, ap, ◌∙◌, subst, inl, inr, arith}
use Rattle.std.proofs.lemmas.Bool.{cases_eq}
use Rattle.std.proofs.lemmas.List.{set-get_or, length-set}
use Rattle.std.proofs.lemmas.Option.{slice_get_within, slice_get_read, get_or_from_slice_get}
use Rattle.std.specs.List.{slice_get}
use Rattle.std.specs.Vec.{with_item}
use Rattle.blink_batch.specs.declared.Answer.{Answer}
use Rattle.blink_batch.specs.declared.Op.{Op}
use Rattle.blink_batch.specs.declared.Op.TheVariants.{Find}
use Rattle.blink_batch.specs.declared.cut.TheConstants.{WORKER_LIMIT}
use Rattle.blink_batch.specs.{next_place}
use Rattle.blink_batch.proofs.Offered.{next_place_is}
use Rattle.blink_machine.specs.declared.machine.Need.{Need}
use Rattle.blink_machine.specs.declared.machine.Need.TheVariants.{ReadPrime, ReadPage, Latch, WriteNew, WritePage, WritePrime, Unlatch, End}
use Rattle.blink_machine.specs.declared.machine.State.{State}
use Rattle.blink_machine.specs.declared.machine.State.TheVariants.{Start, Going, Want, Held, Change, SplitNew, SplitOld, AskPrime, Root, NewPrime, Leave, Posting, Ended}
use Rattle.blink_steps.specs.declared.run.Run.TheInside.{Inside}
use Rattle.blink_steps.specs.declared.seat.WorkerState.{WorkerState}
use Rattle.blink_steps.specs.declared.seat.Working.{Working}
use Rattle.blink_machine.specs.declared.step.Kind.{Kind}
use Rattle.blink_machine.specs.declared.step.Step.{Step}
use Rattle.blink_machine.specs.declared.step.Step.TheVariants.{Moved, Waited, Idle}
use Rattle.blink_steps.specs.Acts.{PlainShared, ActsOn, Acts, CanAct}
use Rattle.blink_steps.specs.Outcome.{PlainOutcome, decides_now, recorded}
use Rattle.blink_store.proofs.Offered.{slice_get-set_other, slice_get-set_same}
use Rattle.blink_steps.specs.LaneQueues.{FirstInLane}
use Rattle.blink_machine.specs.{PlainMachine, need_at, fresh, goes_on, SeesPrime}
use Rattle.blink_steps.specs.Run.{PlainRun, Event, AppliesEvent, IsNextOf, idle_seat, seat_after, after_move}
use Rattle.blink_steps.specs.RunView.{IsLinked}
use Rattle.blink_steps.specs.Seats.{working_after, AreOfLanes}

-- ---- the operation after a step

-- an operation that has not ended goes on
pub goes_on-unless_ended : (m : PlainMachine) (state : State) → (state ≡ Ended → ⊥) → goes_on m state ≡ Some m
goes_on-unless_ended m Start goes = refl
goes_on-unless_ended m (Going page level) goes = refl
goes_on-unless_ended m (Want page) goes = refl
goes_on-unless_ended m (Held page) goes = refl
goes_on-unless_ended m (Change page changed kept) goes = refl
goes_on-unless_ended m (SplitNew page before) goes = refl
goes_on-unless_ended m (SplitOld page lower debt) goes = refl
goes_on-unless_ended m (AskPrime page debt) goes = refl
goes_on-unless_ended m (Root page debt prime) goes = refl
goes_on-unless_ended m (NewPrime page debt root prime) goes = refl
goes_on-unless_ended m (Leave page next) goes = refl
goes_on-unless_ended m Posting goes = refl
goes_on-unless_ended m Ended goes = absurd (goes refl)

-- one that can act has not ended
pub goes_on-where_it_can_act : (shared : PlainShared) (worker : ℕ) (m : PlainMachine) → CanAct shared worker m → goes_on m m.state ≡ Some m
goes_on-where_it_can_act shared worker m ready = goes_on-unless_ended m m.state (λ (ended : m.state ≡ Ended). rw ended at (ready.1))

-- nor has one after its first step
pub goes_on-begun : (fan : ℕ) (op : Op) (prime : List ℕ) (after : PlainMachine) → SeesPrime (fresh fan op) prime after → goes_on after after.state ≡ Some after
goes_on-begun fan op prime after (SeesPrime.begins top start last is) = rw is refl
goes_on-begun fan op prime after (SeesPrime.asks_of_root page debt state top is) = absurd (cc)
goes_on-begun fan op prime after (SeesPrime.asks_of_other page debt state other is) = absurd (cc)
goes_on-begun fan op prime after (SeesPrime.finds_leftmost debt leftmost state job there is) = absurd (cc)

-- ---- what the kinds of step say

-- no operation is idle at its step
pub never_idle : (need : Need) (old : PlainShared) (worker : ℕ) (m after : PlainMachine) (new : PlainShared) → ActsOn need old worker m Idle after new → ⊥
never_idle ReadPrime old worker m after new acts = acts
never_idle (ReadPage number) old worker m after new acts = acts
never_idle (Latch number) old worker m after new acts = acts
never_idle WriteNew old worker m after new acts = acts
never_idle (WritePage number) old worker m after new acts = acts
never_idle WritePrime old worker m after new acts = acts
never_idle (Unlatch number) old worker m after new acts = acts
never_idle End old worker m after new acts = acts

-- an operation that waits changes nothing
pub waits_unchanged : (need : Need) (old : PlainShared) (worker : ℕ) (m after : PlainMachine) (new : PlainShared) → ActsOn need old worker m Waited after new → (after ≡ m) × (new ≡ old)
waits_unchanged ReadPrime old worker m after new acts = (acts.1, acts.2)
waits_unchanged (ReadPage number) old worker m after new acts = absurd acts
waits_unchanged (Latch number) old worker m after new acts = (acts.1, acts.2)
waits_unchanged WriteNew old worker m after new acts = absurd acts
waits_unchanged (WritePage number) old worker m after new acts = absurd acts
waits_unchanged WritePrime old worker m after new acts = absurd acts
waits_unchanged (Unlatch number) old worker m after new acts = absurd acts
waits_unchanged End old worker m after new acts = absurd acts

-- where it is decided now, it was not before
pub decides_now-before : (before after : Option Answer) → decides_now before after ≡ true → before ≡ None
decides_now-before None after now = refl
decides_now-before (Some answer) after now = absurd (cc)

-- ---- seats

-- a seat from its parts
pub seat_after-is : (left : Option PlainMachine) (place : ℕ) (next : Option ℕ) → seat_after left place next ≡ record { working = working_after left place; next = next }
seat_after-is None place next = refl
seat_after-is (Some m) place next = refl

-- a seat that is read
pub seat_found : (seats : List WorkerState) (from worker : ℕ) (seat : WorkerState) → from ≡ worker → worker < length seats → seat ≡ get_or seats from seat → slice_get seats worker ≡ Some seat
seat_found seats from worker seat same within read = let P : ℕ → Type 0 = λ n. seat ≡ get_or seats n seat in
    slice_get_read seats (length seats) worker seat refl within (subst P same read)

-- a seat, where what it has under way is known
pub seat_with : (seat : WorkerState) (working : Option Working) → seat.working ≡ working → seat ≡ record { working = working; next = seat.next }
seat_with seat working is = let f : Option Working → WorkerState = λ w. record { working = w; next = seat.next } in ap f is

-- an operation that is as it was is still under way
pub working_kept : (shared : PlainShared) (worker : ℕ) (working : Working) (after : PlainMachine) (left : Option Working) → CanAct shared worker working.machine
    → left ≡ working_after (goes_on after after.state) working.place → after ≡ working.machine → left ≡ Some working
working_kept shared worker working after left ready left_is unchanged =
    let goes = goes_on-where_it_can_act shared worker working.machine ready in
    left_is ∙ rw (unchanged, goes) refl

-- a seat that is written as it was
pub seats-same : (seats : List WorkerState) (worker : ℕ) (seat : WorkerState) → slice_get seats worker ≡ Some seat → set seats worker seat ≡ seats
seats-same seats worker seat seated = let P : WorkerState → Type 0 = λ s. set seats worker s ≡ seats in
    subst P (get_or_from_slice_get seats worker seat seat seated) (set-get_or seats worker seat)

-- a seat whose next place is of its worker's lane
pub AreOfLanes-set : (lanes : List ℕ) (seats : List WorkerState) (worker : ℕ) (seat : WorkerState) → AreOfLanes lanes seats → ((place : ℕ) → seat.next ≡ Some place → slice_get lanes place ≡ Some worker) → AreOfLanes lanes (set seats worker seat)
AreOfLanes-set lanes seats worker seat kept of_lane other place found seated next = elim (cases_eq other worker) [
  | inl same ↦
      let within : worker < length (set seats worker seat) = subst (λ (n : ℕ). n < length (set seats worker seat)) same (slice_get_within (set seats worker seat) other found seated) in
      let within_old : worker < length seats = omega (arith, length-set seats worker seat) in
      let here : slice_get (set seats worker seat) worker ≡ Some seat = slice_get-set_same seats worker seat within_old in
      let there : slice_get (set seats worker seat) worker ≡ Some found = subst (λ (n : ℕ). slice_get (set seats worker seat) n ≡ Some found) same seated in
      let found_is : found ≡ seat = cc in
      let next_is : seat.next ≡ Some place = subst (λ (s : WorkerState). s.next ≡ Some place) found_is next in
      rw same (of_lane place next_is)
  | inr different ↦ kept other place found (sym (slice_get-set_other seats worker other seat different) ∙ seated) next
]

-- the links hold on where one seat is another
pub IsLinked-with_seat : (inside : Inside) (shared : PlainShared) (outcome : PlainOutcome) (at : ℕ) (seat : WorkerState) → IsLinked inside
    → ((place : ℕ) → seat.next ≡ Some place → slice_get inside.lanes.lanes place ≡ Some at)
    → IsLinked (record inside { shared = shared; seats = with_item inside.seats at seat; outcome = outcome })
IsLinked-with_seat inside shared outcome at seat linked of_lane = record {
  a_lane_each = linked.a_lane_each;
  a_link_each = linked.a_link_each;
  links = linked.links;
  of_lanes = AreOfLanes-set inside.lanes.lanes inside.seats.items at seat linked.of_lanes of_lane;
}

-- ---- the first tree state

-- the workers below this one are idle, each with the first place of its lane
abbrev pub AreIdle : List ℕ → List WorkerState → ℕ → Type 0
AreIdle lanes seats below = (worker : ℕ) → worker < below → slice_get seats worker ≡ Some (idle_seat (next_place lanes worker 0))

-- as each is with the first place of its lane
pub AreIdle-firsts : (lanes : List ℕ) (firsts : List (Option ℕ)) (seats : List WorkerState) (workers : ℕ) → FirstInLane lanes firsts 0 → workers ≤ WORKER_LIMIT
    → ((worker : ℕ) → worker < workers → slice_get seats worker ≡ option_map idle_seat (slice_get firsts worker)) → AreIdle lanes seats workers
AreIdle-firsts lanes firsts seats workers are_firsts allowed seated worker below =
    seated worker below ∙ ap (option_map idle_seat) (are_firsts worker (omega arith))

-- the first place of a worker's lane is of its lane
pub AreOfLanes-idle : (lanes : List ℕ) (seats : List WorkerState) → AreIdle lanes seats (length seats) → AreOfLanes lanes seats
AreOfLanes-idle lanes seats are_idle worker place seat seated next =
    let idle = are_idle worker (slice_get_within seats worker seat seated) in
    let seat_is : seat ≡ idle_seat (next_place lanes worker 0) = cc in
    let first : next_place lanes worker 0 ≡ Some place = sym (ap (λ (s : WorkerState). s.next) seat_is) ∙ next in
    (next_place_is lanes worker 0 place first).2

-- ---- turns

-- a turn of this worker, of which this became
abbrev pub IsTurn : PlainRun → ℕ → Step → PlainRun → Type 0
IsTurn old worker step new = (taken : Event) × (taken.worker ≡ worker) × (taken.step ≡ step) × AppliesEvent old taken new

-- a run with another tree, other seats and another outcome
abbrev pub with_parts : PlainRun → PlainShared → List WorkerState → PlainOutcome → PlainRun
with_parts run shared seats outcome = record run {
  shared = shared;
  seats = seats;
  outcome = outcome;
}

module _ (old : PlainRun) (worker place : ℕ) (m after : PlainMachine) (next : Option ℕ) (shared : PlainShared) (next_of : IsNextOf old worker place m next) where
  -- the operation moves
  pub turn_moves : (kind : Kind) (seats : List WorkerState) (outcome : PlainOutcome) → Acts old.shared worker m (Moved kind) after shared
      → seats ≡ set old.seats worker (record { working = working_after (goes_on after after.state) place; next = next })
      → outcome ≡ recorded old.outcome place kind m.answer after.answer
      → IsTurn old worker (Moved kind) (with_parts old shared seats outcome)
  turn_moves kind seats outcome acts seats_are recorded_is =
      let seat = seat_after-is (goes_on after after.state) place next in
      let is : with_parts old shared seats outcome ≡ after_move old worker place next m kind after shared = rw (seats_are, recorded_is, ← seat) refl in
      let taken : Event = record { worker = worker; step = Moved kind; place = place; before = m; after = after } in
      (taken, refl, refl, AppliesEvent.moves next kind next_of refl acts is)

  -- it doesn't, and so nothing has changed
  pub turn_waits : (step : Step) → ((kind : Kind) → step ≡ Moved kind → ⊥) → Acts old.shared worker m step after shared → IsTurn old worker step old × (after ≡ m) × (shared ≡ old.shared)
  turn_waits (Moved kind) other acts = absurd (other kind refl)
  turn_waits Waited other acts =
      let unchanged = waits_unchanged (need_at m.state) old.shared worker m after shared acts in
      let taken : Event = record { worker = worker; step = Waited; place = place; before = m; after = after } in
      let waited = subst (λ (s : PlainShared). Acts old.shared worker m Waited after s) unchanged.1 acts in
      ((taken, refl, refl, AppliesEvent.waits next next_of refl waited refl), unchanged.0, unchanged.1)
  turn_waits Idle other acts = absurd (never_idle (need_at m.state) old.shared worker m after shared acts)

-- at the lane's end nothing is done
pub turn_idles : (old : PlainRun) (worker : ℕ) → slice_get old.seats worker ≡ Some (idle_seat None) → IsTurn old worker Idle old
turn_idles old worker seated =
    let none : PlainMachine = fresh old.shared.store.fan (Find 0) in
    let taken : Event = record { worker = worker; step = Idle; place = 0; before = none; after = none } in
    (taken, refl, refl, AppliesEvent.idles seated refl refl)
