use Rattle.blink_command.specs.Value.{fan_of, workers_of}
use Rattle.blink_command.proofs.OptionsAsked.{misspelled, missing}
use Rattle.blink_command.proofs.line.settings_of.Goals as goal

-- no workers
pub returns-in_err-value_of : goal.returns-in_err-value_of
returns-in_err-value_of c =
    rw c.from_residual.ensures (record { sizes = λ settings sizes. missing workers_of c.value_of.result _ c.value_of.ensures c.in_err-value_of.was _ sizes.workers; rest = tt; allowed = tt })

pub returns-in_err-workers : goal.returns-in_err-workers
returns-in_err-workers c =
    rw c.from_residual-in_err-workers.ensures
    (record { sizes = λ settings sizes. misspelled workers_of c.value_of.result _ c.value_of.ensures _ c.in_ok-value_of.was c.workers_of.result c.workers_of.ensures.spelled c.in_err-workers.was _ sizes.workers; rest = tt; allowed = tt })

-- no fan
pub returns-in_err-value_of-2 : goal.returns-in_err-value_of-2
returns-in_err-value_of-2 c =
    rw c.from_residual-in_err-value_of-2.ensures
    (record { sizes = λ settings sizes. missing fan_of c.value_of-2.result _ c.value_of-2.ensures c.in_err-value_of-2.was _ sizes.fan; rest = tt; allowed = tt })

pub returns-in_err-fan : goal.returns-in_err-fan
returns-in_err-fan c =
    rw c.from_residual-in_err-fan.ensures
    (record { sizes = λ settings sizes. misspelled fan_of c.value_of-2.result _ c.value_of-2.ensures _ c.in_ok-value_of-2.was c.fan_of.result c.fan_of.ensures.spelled c.in_err-fan.was _ sizes.fan; rest = tt; allowed = tt })
