use Rattle.std.proofs.Common.{rules}
use Rattle.blink_page.specs.{IsBadFan}
use Rattle.blink_handles.specs.declared.refusal.Refusal.TheVariants.{OutOfMemory}
use Rattle.blink_c.proofs.make.blink_index_from_entries.Goals as goal

pub returns-in-Ok-clause-refused : goal.returns-in-Ok-clause-refused
returns-in-Ok-clause-refused c not_done =
    let good : ¬ IsBadFan c.args.fan = search rules in
    (OutOfMemory, c.fill.ensures.refused not_done, good)
