-- A `Machine` as a contract sees it.
use Rattle.blink_machine.specs.Machine.{PlainMachine}
use Rattle.blink_machine.specs.declared.machine.Machine.TheInside.{Inside}

-- the operation as plain data
abbrev pub plain : Inside → PlainMachine
plain m = record {
  fan = m.fan;
  op = m.op;
  job = m.job;
  remembered = m.remembered;
  state = m.state;
  answer = m.answer;
}
