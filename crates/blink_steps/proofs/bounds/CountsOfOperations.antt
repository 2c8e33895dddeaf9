-- What a history says of the counts of each operation of its run, and of the operation of a worker's next turn.
use Rattle.std.proofs.Common.{◌≡◌, ℕ, ◌+◌, ◌<◌, ◌≤◌, ◌∙◌, true, Option, Some, List, length, slice_get, refl, ap, sym, subst, arith}
use Rattle.std.proofs.lemmas.Option.{slice_get_within}
use Rattle.blink_batch.specs.declared.Op.{Op}
use Rattle.blink_batch.specs.declared.Entry.{Entry}
use Rattle.blink_batch.specs.{is_insert, next_place}
use Rattle.blink_machine.specs.declared.machine.Job.TheVariants.{Leaf}
use Rattle.blink_batch.proofs.Offered.{next_place_is}
use Rattle.blink_steps.specs.declared.seat.WorkerState.{WorkerState}
use Rattle.blink_steps.specs.declared.seat.Working.{Working}
use Rattle.blink_machine.specs.{numbers_for, numbers_left, writes_for, writes_left, primes_for, primes_left, is_page_write, is_prime_write, PlainMachine, fresh}
use Rattle.blink_steps.specs.Counts.{numbers_in, page_writes_in, prime_writes_in, moves_in}
use Rattle.blink_steps.specs.Run.{PlainRun, Event, IsNextOf, busy_seat, idle_seat}
use Rattle.blink_steps.specs.RunInvariant.{RunInvariant, WorkingInvariant, IdleInvariant}
use Rattle.blink_steps.proofs.bounds.CountedTurns.{numbers_in-few, moves_of-few}

-- the operation at a place has had no more than it may need, and what it may still need is the rest
pub record IsWithin (history : List Event) (place : ℕ) (m : PlainMachine) : Type 0 where
  pub numbers : numbers_in history place + numbers_left m ≤ numbers_for Leaf m.op
  pub page_writes : page_writes_in history place + writes_left m ≤ writes_for Leaf m.op
  pub prime_writes : prime_writes_in history place + primes_left m ≤ primes_for Leaf m.op

-- the operation at a place has had no more than any operation may have
pub record IsLimited (history : List Event) (place : ℕ) : Type 0 where
  pub numbers : numbers_in history place ≤ 22
  pub page_writes : page_writes_in history place ≤ 43
  pub prime_writes : prime_writes_in history place ≤ 1

-- the operation at a place is an insertion
pub record IsInsertAt (ops : List Op) (place : ℕ) : Type 0 where
  pub op : Op
  pub there : slice_get ops place ≡ Some op
  pub inserts : is_insert op ≡ true

-- each operation under way is within what it may have, those to come have taken no step, none has had more than any may, and
-- only insertions have taken numbers
pub record IsCounted (history : List Event) (run : PlainRun) : Type 0 where
  pub under_way : (worker : ℕ) (seat : WorkerState) (working : Working) → slice_get run.seats worker ≡ Some seat → seat.working ≡ Some working
      → IsWithin history working.place working.machine
  pub to_come : (worker soon later : ℕ) (seat : WorkerState) → slice_get run.seats worker ≡ Some seat → seat.next ≡ Some soon → soon ≤ later
      → slice_get run.assignment.lanes later ≡ Some worker → moves_in history later ≡ 0
  pub everywhere : (place : ℕ) → IsLimited history place
  pub inserts : (place : ℕ) → 0 < numbers_in history place → IsInsertAt run.ops place

-- what is known of the operation of a worker's next turn
pub record IsKnown (history : List Event) (run : PlainRun) (worker place : ℕ) (m : PlainMachine) (next : Option ℕ) : Type 0 where
  pub own : slice_get run.assignment.lanes place ≡ Some worker
  pub there : slice_get run.ops place ≡ Some m.op
  pub seated : worker < length run.seats
  pub within : IsWithin history place m
  pub next_of_lane : next ≡ next_place run.assignment.lanes worker (place + 1)
  pub to_come : (soon later : ℕ) → next ≡ Some soon → soon ≤ later → slice_get run.assignment.lanes later ≡ Some worker → moves_in history later ≡ 0

-- an operation that no step has taken is within what it may need
within_from_fresh : (history : List Event) (place fan : ℕ) (op : Op) (m : PlainMachine) → moves_in history place ≡ 0 → m ≡ fresh fan op → IsWithin history place m
within_from_fresh history place fan op m none is_fresh =
    let numbers : numbers_in history place ≤ moves_in history place = numbers_in-few history place in
    let page_writes : page_writes_in history place ≤ moves_in history place = moves_of-few is_page_write history place in
    let prime_writes : prime_writes_in history place ≤ moves_in history place = moves_of-few is_prime_write history place in
    subst (IsWithin history place) (sym is_fresh) (record { numbers = omega arith; page_writes = omega arith; prime_writes = omega arith })

-- so all of this is known
pub next_is_known : (entries : List Entry) (history : List Event) (run : PlainRun) (worker place : ℕ) (m : PlainMachine) (next : Option ℕ)
    → RunInvariant entries run → IsCounted history run → IsNextOf run worker place m next → IsKnown history run worker place m next
next_is_known entries history run worker place m next invariant counted (IsNextOf.under_way is_seat) =
    let busy : WorkingInvariant run worker (record { place = place; machine = m }) next = invariant.seats worker (busy_seat place m next) is_seat in
    record {
      own = busy.own;
      there = busy.same_op;
      seated = slice_get_within run.seats worker (busy_seat place m next) is_seat;
      within = counted.under_way worker (busy_seat place m next) (record { place = place; machine = m }) is_seat refl;
      next_of_lane = busy.next_of_lane;
      to_come = λ soon later is_next after own. counted.to_come worker soon later (busy_seat place m next) is_seat is_next after own;
    }
next_is_known entries history run worker place m next invariant counted (IsNextOf.taken_on op is_seat is_op is_fresh is_next) =
    let idle : IdleInvariant run worker (Some place) = invariant.seats worker (idle_seat (Some place)) is_seat in
    let found = next_place_is run.assignment.lanes worker idle.from place (sym idle.next_of_lane) in
    let none : moves_in history place ≡ 0 = counted.to_come worker place place (idle_seat (Some place)) is_seat refl (omega arith) found.2 in
    record {
      own = found.2;
      there = is_op ∙ ap (λ (m : PlainMachine). Some m.op) (sym is_fresh);
      seated = slice_get_within run.seats worker (idle_seat (Some place)) is_seat;
      within = within_from_fresh history place run.shared.store.fan op m none is_fresh;
      next_of_lane = is_next;
      to_come = λ soon later is_soon after own.
          let follows = next_place_is run.assignment.lanes worker (place + 1) soon (sym is_next ∙ is_soon) in
          let beyond : place + 1 ≤ soon = follows.0 in
          counted.to_come worker place later (idle_seat (Some place)) is_seat refl (omega arith) own;
    }
