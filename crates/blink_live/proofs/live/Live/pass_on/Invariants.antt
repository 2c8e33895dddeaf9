use Rattle.blink_live.specs.Views.{plan_of}
use Rattle.blink_live.proofs.live.Live.pass_on.Given as goal

abbrev pub ghosts-hear : goal.ghosts-hear
ghosts-hear a = record { plan = plan_of a.self.now.table.shared.key }
