use Rattle.blink_live.specs.Views.{plan_of}
use Rattle.blink_live.proofs.live.Live.move_keys.Given as goal

abbrev pub ghosts-part_with : goal.ghosts-part_with
ghosts-part_with a = record { keys = a.keys.now }

abbrev pub ghosts-receive : goal.ghosts-receive
ghosts-receive a = record { keys = a.keys.now; plan = plan_of a.self.now.table.shared.key }
