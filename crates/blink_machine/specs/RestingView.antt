-- A `Resting` as a contract sees it.
use Rattle.std.specs.Prelude.{ℕ, Option, Some, None}
use Rattle.blink_machine.specs.declared.machine.State.{State}
use Rattle.blink_machine.specs.declared.machine.State.TheVariants.{Posting, Want}
use Rattle.blink_machine.specs.Machine.{PlainMachine}
use Rattle.blink_machine.specs.declared.machine.resting.Resting.TheInside.{Inside}

-- the state of an operation that wants this page's latch, or looks for a level to post to
abbrev pub state_of : Option ℕ → State
state_of None = Posting
state_of (Some page) = Want page

-- the operation as plain data
abbrev pub plain : Inside → PlainMachine
plain resting = record {
  fan = resting.fan;
  op = resting.op;
  job = resting.job;
  remembered = resting.remembered;
  state = state_of resting.wants;
  answer = resting.answer;
}
