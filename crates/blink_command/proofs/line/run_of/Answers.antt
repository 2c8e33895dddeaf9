use Rattle.clap.specs.Words.{found_of, rows_of}
use Rattle.blink_command.specs.Value.{cut_of, driver_of}
use Rattle.blink_command.proofs.OptionsAsked.{misspelled, missing, run_asked, spelled}
use Rattle.blink_command.proofs.line.run_of.Goals as goal

-- no cut
pub returns-in_err-value_of : goal.returns-in_err-value_of
returns-in_err-value_of c =
    rw c.from_residual.ensures (record { meant = λ settings asks. missing cut_of c.value_of.result _ c.value_of.ensures c.in_err-value_of.was _ asks.cut; allowed = tt })

pub returns-in_err-cut : goal.returns-in_err-cut
returns-in_err-cut c =
    rw c.from_residual-in_err-cut.ensures
    (record { meant = λ settings asks. misspelled cut_of c.value_of.result _ c.value_of.ensures _ c.in_ok-value_of.was c.cut_of.result c.cut_of.ensures c.in_err-cut.was _ asks.cut; allowed = tt })

-- no driver
pub returns-in_err-value_of-2 : goal.returns-in_err-value_of-2
returns-in_err-value_of-2 c =
    rw c.from_residual-in_err-value_of-2.ensures
    (record { meant = λ settings asks. missing driver_of c.value_of-2.result _ c.value_of-2.ensures c.in_err-value_of-2.was _ asks.driver; allowed = tt })

pub returns-in_err-driver : goal.returns-in_err-driver
returns-in_err-driver c =
    rw c.from_residual-in_err-driver.ensures
    (record { meant = λ settings asks. misspelled driver_of c.value_of-2.result _ c.value_of-2.ensures _ c.in_ok-value_of-2.was c.driver_of.result c.driver_of.ensures c.in_err-driver.was _ asks.driver; allowed = tt })

-- both are spelled, and the sizes are those of the settings
pub returns-clause-meant : goal.returns-clause-meant
returns-clause-meant c =
    let is_cut = spelled cut_of c.value_of.result _ c.value_of.ensures _ c.in_ok-value_of.was c.cut_of.result c.cut_of.ensures _ c.in_ok-cut.was in
    let is_driver = spelled driver_of c.value_of-2.result _ c.value_of-2.ensures _ c.in_ok-value_of-2.was c.driver_of.result c.driver_of.ensures _ c.in_ok-driver.was in
    run_asked (rows_of (found_of c.args.found.now)) _ _ c.settings_of.result is_cut is_driver c.settings_of.ensures.sizes c.settings_of.ensures.rest
