use Rattle.std.proofs.Common.{ap, ◌∙◌}
use mir.Val.{bool_byte}
use Rattle.blink_live.proofs.scanned.EntriesAreEdited.{tests_place}
use Rattle.blink_live.proofs.edit.one_if_below.Goals as goal

pub returns-clause-one : goal.returns-clause-one
returns-clause-one c ascends =
    let tests = tests_place c.args.key c.args.entries.now c.args.place ascends c.requires.place in
    (λ before. c.from.ensures ∙ ap bool_byte (tests.0 before), λ behind. c.from.ensures ∙ ap bool_byte (tests.1 behind))
