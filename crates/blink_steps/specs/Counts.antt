-- Counts of a history's operations: new page numbers taken, pages and prime blocks written, pages read, and moves.
use Rattle.std.specs.Prelude.{◌≡◌, ℕ, ◌==◌, nat_lt, ◌&&◌, Bool, true, List, count_by}
use Rattle.std.specs.List.{zip}
use Rattle.blink_batch.specs.declared.Op.{Op}
use Rattle.blink_batch.specs.{is_insert}
use Rattle.blink_machine.specs.declared.step.Step.{Step}
use Rattle.blink_machine.specs.declared.step.Step.TheVariants.{Waited}
use Rattle.blink_machine.specs.{has_moved, is_page_read, is_page_write, is_prime_write, moved_by, writes_new_page}
use Rattle.blink_steps.specs.Run.{Event}

abbrev pub HasMoved : Step → Type 0
HasMoved step = has_moved step ≡ true

abbrev pub HasWaited : Step → Type 0
HasWaited step = step ≡ Waited

-- the number of turns of this kind of the operation at a place, in a history
abbrev pub turns_of : ℕ → (Event → Bool) → List Event → ℕ
turns_of place of_kind history = count_by (λ (taken : Event). taken.place == place && of_kind taken) history

abbrev pub takes_number : Event → Bool
takes_number taken = has_moved taken.step && writes_new_page taken.before.state

-- the number of page numbers that the operation at a place has taken
abbrev pub numbers_in : List Event → ℕ → ℕ
numbers_in history place = turns_of place takes_number history

-- the number of page writes of the operation
abbrev pub page_writes_in : List Event → ℕ → ℕ
page_writes_in history place = turns_of place (λ (taken : Event). moved_by is_page_write taken.step) history

-- the number of its writes of the prime block
abbrev pub prime_writes_in : List Event → ℕ → ℕ
prime_writes_in history place = turns_of place (λ (taken : Event). moved_by is_prime_write taken.step) history

-- the number of its page reads, those under latches included
abbrev pub page_reads_in : List Event → ℕ → ℕ
page_reads_in history place = turns_of place (λ (taken : Event). moved_by is_page_read taken.step) history

-- the number of its steps; waits are not counted
abbrev pub moves_in : List Event → ℕ → ℕ
moves_in history place = turns_of place (λ (taken : Event). has_moved taken.step) history

-- the insertions that have taken a step
abbrev pub begun_inserts : List Op → List ℕ → ℕ
begun_inserts ops moves = count_by (λ (begun : Op × ℕ). is_insert begun.0 && nat_lt 0 begun.1) (zip ops moves)
