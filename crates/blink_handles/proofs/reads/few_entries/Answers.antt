use Rattle.std.proofs.Common.{subst}
use Rattle.blink_store.specs.{IsLawfulStore}
use Rattle.blink_handles.proofs.EntriesAreFew.{few_in}
use Rattle.blink_handles.proofs.reads.few_entries.Goals as goal

pub returns : goal.returns
returns c = few_in c.args.index.now (subst IsLawfulStore c.rest.ensures.tree c.store-store.ensures.lawful)
