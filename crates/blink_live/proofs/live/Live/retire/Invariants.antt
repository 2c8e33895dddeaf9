use Rattle.blink_live.specs.Views.{plan_of}
use Rattle.blink_live.proofs.live.Live.retire.Given as goal

abbrev pub ghosts-take_in : goal.ghosts-take_in
ghosts-take_in a = record { taken = a.taken.now; plan = plan_of a.self.now.table.shared.key }
