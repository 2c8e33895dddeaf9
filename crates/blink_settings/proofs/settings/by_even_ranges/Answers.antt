use Rattle.std.proofs.Common.{◌∙◌, ◌+◌, ℕ, List, length, ap}
use Rattle.blink_batch.specs.{lanes_by_ranges}
use Rattle.blink_settings.proofs.settings.by_even_ranges.Goals as goal

pub returns-in-Ok-clause-workers : goal.returns-in-Ok-clause-workers
returns-in-Ok-clause-workers c = c.in-Ok.ensures.workers ∙ ap (λ (bounds : List ℕ). length bounds + 1) c.deref.ensures.value ∙ c.in_ok-bounds.ensures.count

pub returns-in-Ok-clause-lanes : goal.returns-in-Ok-clause-lanes
returns-in-Ok-clause-lanes c = c.in-Ok.ensures.lanes ∙ ap (λ (bounds : List ℕ). lanes_by_ranges bounds c.args.batch.now) (c.deref.ensures.value ∙ c.in_ok-bounds.ensures.bounds)

pub returns-in-Ok-clause-lawful : goal.returns-in-Ok-clause-lawful
returns-in-Ok-clause-lawful c = c.in-Ok.ensures.lawful
