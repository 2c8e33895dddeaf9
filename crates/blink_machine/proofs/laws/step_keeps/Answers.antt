use Rattle.blink_machine.proofs.law.EachPart.{step_law}
use Rattle.blink_machine.proofs.laws.step_keeps.Goals as goal

pub returns : goal.returns
returns c = step_law
