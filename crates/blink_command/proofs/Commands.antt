-- The commands that are built are those of the grammar, and what `clap` finds by such a command.
use Rattle.std.proofs.Common.{◌≡◌, ◌∙◌, ◌||◌, ℕ, List, [], Some, Result, Ok, Err, inl, inr, true, false, ap, ap₂, sym, subst, IfOk, IfErr}
use Rattle.clap.specs.Words.{AddsArg, AddsSubcommand, App, FailsBy, HasMatchesOf, IsAmong, Shape, Text, app_of, fault_of, is_simple, is_simple_and_free, kind_of, rule_of, shape_of, subcommand_of, subcommand_rows_of, with_rule, with_subcommand}
use Rattle.std.specs.Borrow.{Bor}
use Rattle.clap.specs.Simple.{app_of_fields}
use Rattle.clap.specs.Walk.{Rule}
use Rattle.blink_command.specs.Grammar.{wanting_subcommand}
use Rattle.clap.specs.declared.builder.arg.Arg.{Arg}
use Rattle.clap.specs.declared.builder.command.Command.{Command}
use Rattle.clap.specs.declared.builder.command.Command.TheViews.{out-Command}
use Rattle.clap.specs.declared.error.Error.{Error}
use Rattle.clap.specs.declared.error.kind.ErrorKind.TheVariants.{OutOfMemory}
use Rattle.clap.specs.declared.parser.matches.ArgMatches.{ArgMatches}

-- no option is the command's and its subcommands' too
abbrev pub IsLocal : Command → Type 0
IsLocal command = (out-Command command).has_globals ≡ false

-- with one option more
pub option_added : (old new : Command) (arg : Arg) (app : App) (rule : Rule) → app_of old ≡ app → rule_of arg ≡ rule → arg.global ≡ false
    → AddsArg old arg new → app_of new ≡ with_rule app rule
option_added old new arg app rule before is local adds = adds.shape local ∙ ap₂ with_rule before is

pub stays_local : (old new : Command) (arg : Arg) → IsLocal old → arg.global ≡ false → AddsArg old arg new → IsLocal new
stays_local old new arg before local adds = adds.globals ∙ ap₂ ◌||◌ before local

-- with a text about it
pub about_told : (old new : Command) (text : Bor (List ℕ)) (app : App) → out-Command new ≡ record (out-Command old) { about = Some text } → app_of old ≡ app → app_of new ≡ app
about_told old new text app told before = ap app_of_fields told ∙ before

-- with the rule that a subcommand is given
pub subcommand_wanted : (old new : Command) (app : App) → out-Command new ≡ record (out-Command old) { subcommand_required = true } → app_of old ≡ app → app_of new ≡ wanting_subcommand app
subcommand_wanted old new app wanted before = ap app_of_fields wanted ∙ ap wanting_subcommand before

module _ {E : Type 0} where
  pub ends_with_option : (old : Command) (arg : Arg) (app : App) (rule : Rule) (result : Result Command E) → app_of old ≡ app → rule_of arg ≡ rule → arg.global ≡ false
      → IfOk result (AddsArg old arg) → IfOk result (λ new. app_of new ≡ with_rule app rule)
  ends_with_option old arg app rule (Ok new) before is local adds = option_added old new arg app rule before is local adds
  ends_with_option old arg app rule (Err error) before is local adds = tt

  pub ends_local : (old : Command) (arg : Arg) (result : Result Command E) → IsLocal old → arg.global ≡ false → IfOk result (AddsArg old arg) → IfOk result IsLocal
  ends_local old arg (Ok new) before local adds = stays_local old new arg before local adds
  ends_local old arg (Err error) before local adds = tt

  -- with one subcommand more
  pub ends_with_subcommand : (old sub : Command) (app : App) (shape : Shape) (result : Result Command E) → app_of old ≡ app → shape_of sub ≡ shape → IsLocal sub
      → IfOk result (AddsSubcommand old sub) → IfOk result (λ new. app_of new ≡ with_subcommand app shape)
  ends_with_subcommand old sub app shape (Ok new) before is local adds = adds.shape local ∙ ap₂ with_subcommand before is
  ends_with_subcommand old sub app shape (Err error) before is local adds = tt

-- what a command finds whose grammar is simple
module _ (command : App) (grammar : App) (is : command ≡ grammar) (free : is_simple_and_free grammar ≡ true) (simple : is_simple grammar ≡ true) (words : List Text) where
  fault_is : fault_of command words ≡ fault_of grammar words
  fault_is = ap (λ app. fault_of app words) is

  pub found_taken : (result : Result ArgMatches Error) → (is_simple_and_free command ≡ true → FailsBy (fault_of command words) result) → IfOk result (λ _. fault_of grammar words ≡ [])
  found_taken (Ok matches) fails = sym fault_is ∙ fails (ap is_simple_and_free is ∙ free)
  found_taken (Err error) fails = tt

  pub found_rows : (result : Result ArgMatches Error) → IfOk result (HasMatchesOf command words) → IfOk result (λ matches. subcommand_rows_of matches ≡ subcommand_of grammar words)
  found_rows (Ok matches) has = (has (ap is_simple is ∙ simple)).1 ∙ ap (λ app. subcommand_of app words) is
  found_rows (Err error) has = tt

  pub found_no_memory : (result : Result ArgMatches Error) → (is_simple_and_free command ≡ true → FailsBy (fault_of command words) result)
      → IfErr result (λ error. fault_of grammar words ≡ [] → kind_of error ≡ OutOfMemory)
  found_no_memory (Ok matches) fails = tt
  found_no_memory (Err error) fails = λ taken. elim (fails (ap is_simple_and_free is ∙ free)) [
    | inl memory ↦ memory
    | inr among ↦ absurd (subst (IsAmong (kind_of error)) (fault_is ∙ taken) among)
  ]
