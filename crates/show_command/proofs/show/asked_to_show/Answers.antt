use Rattle.std.proofs.Common.{◌≡◌, Some, subst, sym, rules, Option, List}
use Rattle.clap.specs.Words.{Row, Text, found_of, rows_of, subcommand_rows_of}
use Rattle.std.specs.Prelude.{IfOk, MatchOption}
use Rattle.blink_settings.specs.{PlainSettings}
use Rattle.show_command.specs.declared.show.Turns.{Turns}
use Rattle.show_command.specs.Show.{SubcommandShows}
use Rattle.show_command.proofs.show.asked_to_show.Goals as goal

-- what the subcommand and its values ask for
pub returns-in-Some-clause-meant : goal.returns-in-Some-clause-meant
returns-in-Some-clause-meant c =
    let is : subcommand_rows_of c.args.matches.now ≡ Some (c.in-Some.name.now, rows_of (found_of c.in-Some.found.now)) = search rules in
    subst (λ (subcommand : Option (Text × List Row)). IfOk c.named_to_show.result (λ meant. MatchOption meant ((settings : PlainSettings) (turns : Turns) → ¬ SubcommandShows subcommand settings turns) (λ asked. SubcommandShows subcommand asked.0 asked.1)))
    (sym is) c.named_to_show.ensures.meant
