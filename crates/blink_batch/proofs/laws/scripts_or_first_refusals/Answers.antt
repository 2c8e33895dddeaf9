use Rattle.blink_batch.proofs.ScriptAsRelation.{parts_from_script, refusal_from_script, script_from_parts, script_from_refusal}
use Rattle.blink_batch.proofs.laws.scripts_or_first_refusals.Goals as goal

pub returns-clause-scripts : goal.returns-clause-scripts
returns-clause-scripts c = λ rows parts. (parts_from_script rows parts, script_from_parts rows parts)

pub returns-clause-refusals : goal.returns-clause-refusals
returns-clause-refusals c = λ rows error. (refusal_from_script rows error, script_from_refusal rows error)
