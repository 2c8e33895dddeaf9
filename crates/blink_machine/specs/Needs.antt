-- The kinds of step that an operation may need, whatever the page.
use Rattle.blink_machine.specs.declared.machine.Need.{Need}
use Rattle.blink_machine.specs.declared.machine.Need.TheVariants.{ReadPrime, ReadPage, WriteNew, WritePage, End}
use Rattle.blink_machine.specs.Machine.{PlainMachine, need_at}

-- the step reads a page
abbrev pub IsPageRead : Need → Type 0
IsPageRead (ReadPage page) = Unit {0}
IsPageRead need = ⊥

abbrev pub NeedsSomePage : PlainMachine → Type 0
NeedsSomePage m = IsPageRead (need_at m.state)

-- the step writes a page, a new one or another
abbrev pub IsPageWrite : Need → Type 0
IsPageWrite WriteNew = Unit {0}
IsPageWrite (WritePage page) = Unit {0}
IsPageWrite need = ⊥

abbrev pub NeedsSomeWrite : PlainMachine → Type 0
NeedsSomeWrite m = IsPageWrite (need_at m.state)

-- the step gets a latch, writes a page or the prime block, or releases a latch; the operation learns no more from it than that
-- it is done
abbrev pub TellsNothing : Need → Type 0
TellsNothing ReadPrime = ⊥
TellsNothing (ReadPage page) = ⊥
TellsNothing End = ⊥
TellsNothing need = Unit {0}

abbrev pub NeedsNoRead : PlainMachine → Type 0
NeedsNoRead m = TellsNothing (need_at m.state)
