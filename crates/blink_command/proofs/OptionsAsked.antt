-- What the options of a subcommand ask for.
use Rattle.std.proofs.Common.{◌≡◌, ◌≢◌, ◌∙◌, List, ℕ, Option, Some, None, ap, codes, sym, option_map, option_and_then, IfSome, MatchOption}
use Rattle.std.specs.Borrow.{Bor}
use Rattle.clap.specs.Words.{Row, Text}
use Rattle.blink_settings.specs.{PlainSettings}
use Rattle.blink_settings.specs.declared.settings.CutKind.{CutKind}
use Rattle.blink_settings.specs.declared.settings.Driver.{Driver}
use Rattle.blink_command.specs.Line.{AsksToRun, HasSizes, value}
use Rattle.blink_command.specs.Value.{cut_of, driver_of}

module _ {X : Type 0} (meaning : Text → Option X) (given : Option (Bor (List ℕ))) (value : Option Text) (is : option_map (λ text. text.now) given ≡ value) where
  -- an option that isn't there spells nothing
  pub missing : given ≡ None → (x : X) → option_and_then meaning value ≢ Some x
  missing none x some =
      let nothing : option_and_then meaning value ≡ None = ap (option_and_then meaning) (sym is ∙ ap (option_map (λ (text : Bor (List ℕ)). text.now)) none) in cc

  module _ (text : Bor (List ℕ)) (was : given ≡ Some text) (meant : Option X) (means : meant ≡ meaning text.now) where
    is_meant : option_and_then meaning value ≡ meant
    is_meant = ap (option_and_then meaning) (sym is ∙ ap (option_map (λ (text : Bor (List ℕ)). text.now)) was) ∙ sym means

    -- the option's text spells this
    pub spelled : (x : X) → meant ≡ Some x → option_and_then meaning value ≡ Some x
    spelled x some = is_meant ∙ some

    -- or nothing
    pub misspelled : meant ≡ None → (x : X) → option_and_then meaning value ≢ Some x
    misspelled none x some = let nothing : option_and_then meaning value ≡ None = is_meant ∙ none in cc

-- a run is asked for with these sizes
pub run_asked : (rows : List Row) (cut : CutKind) (driver : Driver) (sized : Option PlainSettings)
    → option_and_then cut_of (value rows (codes "cut")) ≡ Some cut → option_and_then driver_of (value rows (codes "driver")) ≡ Some driver
    → MatchOption sized ((settings : PlainSettings) → ¬ HasSizes rows settings) (HasSizes rows) → IfSome sized (λ settings. (settings.cut ≡ cut) × (settings.driver ≡ driver))
    → MatchOption sized ((settings : PlainSettings) → ¬ AsksToRun rows settings) (AsksToRun rows)
run_asked rows cut driver None is_cut is_driver sizes rest = λ settings asks. sizes settings asks.sizes
run_asked rows cut driver (Some settings) is_cut is_driver sizes rest = record { sizes = sizes; cut = is_cut ∙ ap Some (sym rest.0); driver = is_driver ∙ ap Some (sym rest.1) }
