-- The kinds of a step, under names that no other enum has.
use Rattle.std.specs.Prelude.{ℕ, Bool, true, false}
use Rattle.blink_machine.specs.declared.machine.State.{State}
use Rattle.blink_machine.specs.declared.machine.State.TheVariants.{SplitNew, Root}
use Rattle.blink_machine.specs.declared.step.Kind.{Kind}
use Rattle.blink_machine.specs.declared.step.Kind.TheVariants.{ReadPage, ReadPrime, Latch, Unlatch, WritePage, WritePrime}
use Rattle.blink_machine.specs.declared.step.Step.{Step}
use Rattle.blink_machine.specs.declared.step.Step.TheVariants.{Moved, Waited, Idle}

abbrev pub read_page : ℕ → Kind
read_page number = ReadPage number

abbrev pub read_prime : Kind
read_prime = ReadPrime

abbrev pub latch : ℕ → Kind
latch number = Latch number

abbrev pub unlatch : ℕ → Kind
unlatch number = Unlatch number

abbrev pub write_page : ℕ → Kind
write_page number = WritePage number

abbrev pub write_prime : Kind
write_prime = WritePrime

-- the kind of a step, as tests
abbrev pub is_page_read : Kind → Bool
is_page_read (ReadPage page) = true
is_page_read kind = false

abbrev pub is_page_write : Kind → Bool
is_page_write (WritePage page) = true
is_page_write kind = false

abbrev pub is_prime_write : Kind → Bool
is_prime_write WritePrime = true
is_prime_write kind = false

-- the state's step writes a new page
abbrev pub writes_new_page : State → Bool
writes_new_page (SplitNew page before) = true
writes_new_page (Root page debt prime) = true
writes_new_page state = false

-- the turn moved by a step of this kind
abbrev pub moved_by : (Kind → Bool) → Step → Bool
moved_by of_kind (Moved kind) = of_kind kind
moved_by of_kind Waited = false
moved_by of_kind Idle = false

abbrev pub has_moved : Step → Bool
has_moved step = moved_by (λ kind. true) step
