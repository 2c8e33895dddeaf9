use Rattle.std.proofs.Common.{ap, subst}
use Rattle.blink_batch.specs.{MayWork}
use Rattle.blink_settings.specs.Settings.{PlainSettings}
use Rattle.blink_settings.proofs.settings.Settings.workers.Goals as goal

pub returns-clause-workers : goal.returns-clause-workers
returns-clause-workers c = ap (λ (settings : PlainSettings). settings.workers) c.self.view_is

pub returns-clause-allowed : goal.returns-clause-allowed
returns-clause-allowed c = subst (λ (settings : PlainSettings). MayWork settings.workers) c.self.view_is c.self.invariant.0
