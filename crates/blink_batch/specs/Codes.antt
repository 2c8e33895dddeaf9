-- The code of each refusal.
use Rattle.std.specs.Prelude.{ℕ}
use Rattle.blink_batch.specs.declared.cut.CutError.{CutError}
use Rattle.blink_batch.specs.declared.cut.CutError.TheVariants as cut
use Rattle.blink_batch.specs.declared.error.RecordError.{RecordError}
use Rattle.blink_batch.specs.declared.error.RecordError.TheVariants as row
use Rattle.blink_batch.specs.declared.error.ScriptError.{ScriptError}
use Rattle.blink_batch.specs.declared.error.ScriptError.TheVariants as script
use Rattle.blink_batch.specs.declared.step_error.StepError.{StepError}
use Rattle.blink_batch.specs.declared.step_error.StepError.TheVariants as step

abbrev pub code_of_cut_error : CutError → ℕ
code_of_cut_error cut.BadWorkers = 2
code_of_cut_error cut.WrongLength = 3
code_of_cut_error (cut.BadLane place) = 4
code_of_cut_error (cut.SplitKey place) = 5
code_of_cut_error cut.BadBounds = 6
code_of_cut_error cut.OutOfMemory = 7

abbrev pub code_of_record_error : RecordError → ℕ
code_of_record_error row.BadShape = 10
code_of_record_error row.UnknownOperation = 11
code_of_record_error row.BadNumber = 12

abbrev pub code_of_script_error : ScriptError → ℕ
code_of_script_error (script.Row number error) = code_of_record_error error
code_of_script_error (script.Csv number) = 13
code_of_script_error (script.TooMany number) = 14
code_of_script_error script.Read = 15
code_of_script_error script.OutOfMemory = 16

abbrev pub code_of_step_error : StepError → ℕ
code_of_step_error step.OutOfMemory = 30
code_of_step_error (step.NoWorker worker) = 31
code_of_step_error step.TooLarge = 32
