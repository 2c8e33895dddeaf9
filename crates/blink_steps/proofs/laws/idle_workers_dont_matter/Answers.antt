use Rattle.blink_steps.proofs.runs.OneIdleWorkerMore.{idle_workers_dont_matter}
use Rattle.blink_steps.proofs.laws.idle_workers_dont_matter.Goals as goal

pub returns : goal.returns
returns c = idle_workers_dont_matter
