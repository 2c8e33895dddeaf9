use Rattle.std.proofs.Common.{◌≡◌, refl, true}
use Rattle.clap.specs.Words.{app_of, is_simple, is_simple_and_free}
use Rattle.clap.specs.Walk.{texts}
use Rattle.blink_command.specs.Grammar.{blink}
use Rattle.blink_command.proofs.Commands.{found_no_memory, found_rows, found_taken}
use Rattle.blink_command.proofs.command.matches_of.Goals as goal

is_free : is_simple_and_free blink ≡ true
is_free = refl

is_one : is_simple blink ≡ true
is_one = refl

pub returns : goal.returns
returns c =
    let is = c.in_ok-command.ensures in
    let words = texts c.args.words.now in
    let parse = c.try_get_matches_from in
    let command = app_of c.in_ok-command.command in
    record {
      taken = found_taken command blink is is_free is_one words parse.result parse.ensures.kinds;
      matches = found_rows command blink is is_free is_one words parse.result parse.ensures.matches;
      memory = found_no_memory command blink is is_free is_one words parse.result parse.ensures.kinds;
    }
