-- A turn that moves keeps every operation within what it may need.
use Rattle.std.proofs.Common.{◌≡◌, ℕ, ◌+◌, ◌<◌, ◌≤◌, ◌∙◌, ◌&&◌, Bool, true, Option, Some, None, List, ◌∷◌, refl, ap, arith}
use Rattle.blink_batch.specs.declared.Op.{Op}
use Rattle.blink_batch.specs.declared.Op.TheVariants.{Insert}
use Rattle.blink_batch.specs.{is_insert}
use Rattle.blink_machine.specs.declared.machine.Job.TheVariants.{Leaf}
use Rattle.blink_machine.specs.declared.machine.State.{State}
use Rattle.blink_machine.specs.declared.machine.State.TheVariants.{Ended}
use Rattle.blink_steps.specs.declared.seat.Working.{Working}
use Rattle.blink_machine.specs.declared.step.Kind.{Kind}
use Rattle.blink_machine.specs.declared.step.Step.{Step}
use Rattle.blink_machine.specs.declared.step.Step.TheVariants.{Moved}
use Rattle.blink_machine.specs.{one_if, numbers_for, numbers_left, writes_for, writes_left, primes_for, primes_left, UsesUp, has_moved, moved_by, writes_new_page, is_page_write, is_prime_write, PlainMachine, goes_on}
use Rattle.blink_steps.specs.Counts.{takes_number, numbers_in, page_writes_in, prime_writes_in}
use Rattle.blink_steps.specs.Run.{Event, seat_after}
use Rattle.blink_machine.proofs.Offered.{step_law}
use Rattle.blink_steps.proofs.bounds.CountsOfOperations.{IsWithin, IsLimited}
use Rattle.blink_steps.proofs.bounds.CountedTurns.{turns_of-own, turns_of-other}

-- the turn writes a page
abbrev pub is_write_turn : Event → Bool
is_write_turn taken = moved_by is_page_write taken.step

-- the turn writes the prime block
abbrev pub is_prime_turn : Event → Bool
is_prime_turn taken = moved_by is_prime_write taken.step

-- the turn is a step
abbrev pub is_moving_turn : Event → Bool
is_moving_turn taken = has_moved taken.step

-- a turn that moves counts in the numbers of its operation, where it takes one
pub own_numbers : (history : List Event) (taken : Event) (kind : Kind) → taken.step ≡ Moved kind
    → numbers_in (taken ∷ history) taken.place ≡ one_if (writes_new_page taken.before.state) + numbers_in history taken.place
own_numbers history taken kind moved =
    turns_of-own taken.place takes_number taken history refl
    ∙ ap (λ (step : Step). one_if (has_moved step && writes_new_page taken.before.state) + numbers_in history taken.place) moved

-- in its writes of pages, where it is one
own_writes : (history : List Event) (taken : Event) (kind : Kind) → taken.step ≡ Moved kind
    → page_writes_in (taken ∷ history) taken.place ≡ one_if (is_page_write kind) + page_writes_in history taken.place
own_writes history taken kind moved =
    turns_of-own taken.place is_write_turn taken history refl
    ∙ ap (λ (step : Step). one_if (moved_by is_page_write step) + page_writes_in history taken.place) moved

-- and in its writes of the prime block, where it is one
own_primes : (history : List Event) (taken : Event) (kind : Kind) → taken.step ≡ Moved kind
    → prime_writes_in (taken ∷ history) taken.place ≡ one_if (is_prime_write kind) + prime_writes_in history taken.place
own_primes history taken kind moved =
    turns_of-own taken.place is_prime_turn taken history refl
    ∙ ap (λ (step : Step). one_if (moved_by is_prime_write step) + prime_writes_in history taken.place) moved

-- the turn's own operation stays within what it may need
pub own_within : (history : List Event) (taken : Event) (kind : Kind) → taken.step ≡ Moved kind → IsWithin history taken.place taken.before
    → UsesUp taken.before taken.step taken.after → IsWithin (taken ∷ history) taken.place taken.after
own_within history taken kind moved within uses =
    let numbers = within.numbers in
    let fewer_numbers : numbers_left taken.after + one_if (writes_new_page taken.before.state) ≤ numbers_left taken.before = rw moved at uses.numbers in
    let page_writes = within.page_writes in
    let fewer_writes : writes_left taken.after + one_if (is_page_write kind) ≤ writes_left taken.before = rw moved at uses.page_writes in
    let prime_writes = within.prime_writes in
    let fewer_primes : primes_left taken.after + one_if (is_prime_write kind) ≤ primes_left taken.before = rw moved at uses.prime_writes in
    let same_numbers : numbers_for Leaf taken.after.op ≡ numbers_for Leaf taken.before.op = ap (numbers_for Leaf) uses.same_op in
    let same_writes : writes_for Leaf taken.after.op ≡ writes_for Leaf taken.before.op = ap (writes_for Leaf) uses.same_op in
    let same_primes : primes_for Leaf taken.after.op ≡ primes_for Leaf taken.before.op = ap (primes_for Leaf) uses.same_op in
    record {
      numbers = rw (own_numbers history taken kind moved) (omega arith);
      page_writes = rw (own_writes history taken kind moved) (omega arith);
      prime_writes = rw (own_primes history taken kind moved) (omega arith);
    }

-- so does every other operation
pub other_within : (history : List Event) (taken : Event) (place : ℕ) (m : PlainMachine) → (taken.place ≡ place → ⊥) → IsWithin history place m
    → IsWithin (taken ∷ history) place m
other_within history taken place m other within = record {
  numbers = rw (turns_of-other place takes_number taken history other) within.numbers;
  page_writes = rw (turns_of-other place is_write_turn taken history other) within.page_writes;
  prime_writes = rw (turns_of-other place is_prime_turn taken history other) within.prime_writes;
}

-- what is within what an operation may need is within what any may have
pub within_is_limited : (history : List Event) (place : ℕ) (m : PlainMachine) → IsWithin history place m → IsLimited history place
within_is_limited history place m within =
    let numbers = within.numbers in
    let page_writes = within.page_writes in
    let prime_writes = within.prime_writes in
    let most = step_law.allowance_is_used_up.at_its_begin 0 m.op in
    let most_numbers : numbers_for Leaf m.op ≤ 22 = most.0 in
    let most_writes : writes_for Leaf m.op ≤ 43 = most.1 in
    let most_primes : primes_for Leaf m.op ≤ 1 = most.2 in
    record { numbers = omega arith; page_writes = omega arith; prime_writes = omega arith }

-- only an insertion needs numbers
pub numbers_for_inserts : (op : Op) → 0 < numbers_for Leaf op → is_insert op ≡ true
numbers_for_inserts (Insert key pointer) some = refl
numbers_for_inserts op some = absurd (omega arith)

-- the counts of every other operation stay
pub other_limited : (history : List Event) (taken : Event) (place : ℕ) → (taken.place ≡ place → ⊥) → IsLimited history place → IsLimited (taken ∷ history) place
other_limited history taken place other limited = record {
  numbers = rw (turns_of-other place takes_number taken history other) limited.numbers;
  page_writes = rw (turns_of-other place is_write_turn taken history other) limited.page_writes;
  prime_writes = rw (turns_of-other place is_prime_turn taken history other) limited.prime_writes;
}

-- the seat of a worker that has moved has its operation, or none
pub working_is_after : (m : PlainMachine) (state : State) (place : ℕ) (next : Option ℕ) (working : Working) → (seat_after (goes_on m state) place next).working ≡ Some working
    → working ≡ record { place = place; machine = m }
working_is_after m Ended place next working is_working = absurd (cc)
working_is_after m state place next working is_working = cc

-- and has the next place that it had
pub next_after : (m : Option PlainMachine) (place : ℕ) (next : Option ℕ) → (seat_after m place next).next ≡ next
next_after None place next = refl
next_after (Some m) place next = refl
