-- The code of each refusal.
use Rattle.std.specs.Prelude.{ℕ}
use Rattle.blink_batch.specs.{code_of_script_error, code_of_step_error}
use Rattle.blink_settings.specs.declared.error.ServeError.{ServeError}
use Rattle.blink_settings.specs.declared.error.ServeError.TheVariants as serve
use Rattle.blink_settings.specs.declared.error.RunError.{RunError}
use Rattle.blink_settings.specs.declared.error.RunError.TheVariants.{TooLarge, OutOfMemory, Worker, Foreign}
use Rattle.blink_settings.specs.declared.settings.SettingsError.{SettingsError}
use Rattle.blink_settings.specs.declared.settings.SettingsError.TheVariants.{BadWorkers, BadFan}

abbrev pub code_of : RunError → ℕ
code_of TooLarge = 60
code_of OutOfMemory = 61
code_of (Worker worker) = 62
code_of Foreign = 63

abbrev pub code_of_settings_error : SettingsError → ℕ
code_of_settings_error BadWorkers = 2
code_of_settings_error BadFan = 40

abbrev pub code_of_serve_error : ServeError → ℕ
code_of_serve_error (serve.Script error) = code_of_script_error error
code_of_serve_error (serve.Run number error) = code_of error
code_of_serve_error (serve.Step error) = code_of_step_error error
code_of_serve_error serve.Output = 70
code_of_serve_error serve.OutOfMemory = 71
