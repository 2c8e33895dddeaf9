-- What a caller of `blink_settings` reads, in this order; then what proofs above it need; then the files themselves.

-- the settings of a script's run, and the worker of each key
pub use Rattle.blink_settings.specs.Settings.{IsAllowed, PlainSettings, lanes_by, lanes_by_residue}
-- the code of each refusal
pub use Rattle.blink_settings.specs.Codes.{code_of, code_of_serve_error, code_of_settings_error}
-- ---- files that crates above name
pub mod Settings
pub mod Codes
