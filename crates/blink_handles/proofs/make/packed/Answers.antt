use Rattle.std.proofs.Common.{◌∙◌, ap}
use Rattle.blink_index.specs.{map_of}
use Rattle.blink_handles.proofs.make.packed.Goals as goal

pub returns-in-Ok-clause-map : goal.returns-in-Ok-clause-map
returns-in-Ok-clause-map c = ap map_of c.in-Ok.ensures.ok ∙ c.in_ok-index.ensures.map
