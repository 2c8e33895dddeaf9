use Rattle.blink_steps.proofs.runs.OperationOfTurn.{turns_are_steps}
use Rattle.blink_steps.proofs.runs.StepsAreTurns.{steps_are_turns}
use Rattle.blink_steps.proofs.laws.turns_are_steps.Goals as goal

pub returns-clause-turns : goal.returns-clause-turns
returns-clause-turns c = turns_are_steps

pub returns-clause-steps : goal.returns-clause-steps
returns-clause-steps c = steps_are_turns
