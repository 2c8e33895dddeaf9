-- An operation that rests: it holds no latch, and has read no page that it is about to change.
use Rattle.std.specs.Prelude.{ℕ, List, None}
use Rattle.blink_operation.specs.declared.Op.{Op}
use Rattle.blink_machine.specs.declared.machine.Job.TheVariants.{Leaf}
use Rattle.blink_machine.specs.declared.machine.State.{State}
use Rattle.blink_machine.specs.declared.machine.State.TheVariants.{Posting, Want}
use Rattle.blink_machine.specs.Machine.{PlainMachine}

-- the operation wants the latch of a page, or looks for a level to post to of which it remembers no page
abbrev pub IsResting : State → Type 0
IsResting (Want page) = Unit {0}
IsResting Posting = Unit {0}
IsResting state = ⊥

-- an operation that has come down to its leaf, has decided nothing yet, and wants the leaf's latch
abbrev pub wants_leaf : ℕ → Op → List ℕ → ℕ → PlainMachine
wants_leaf fan op remembered leaf = record { fan = fan; op = op; job = Leaf; remembered = remembered; state = Want leaf; answer = None }
