use Rattle.std.proofs.Common.{List, take, ap, ◌∙◌, subst, sym}
use Rattle.std.specs.Prelude.{reverse}
use Rattle.blink_operation.specs.declared.Entry.{Entry}
use Rattle.blink_rest.specs.{IsStoreAtRest}
use Rattle.blink_entries.specs.Index.{map_of}
use Rattle.blink_entries.proofs.Offered.{brings_in_order, the_map_is_kept}
use Rattle.blink_index.proofs.EndsOfMaps.{within_from_least}
use Rattle.blink_index.proofs.index.Index.page_back.Goals as goal

pub new-requires : goal.new-requires
new-requires c = subst IsStoreAtRest (sym c.store.ensures.store) c.store.ensures.at_rest

pub returns-clause-entries : goal.returns-clause-entries
returns-clause-entries c =
    rw c.store.ensures.store at c.new.ensures ∙ ap (λ (entries : List Entry). take c.args.n (reverse entries)) (within_from_least c.args.hi (map_of c.args.self.now))

pub returns-clause-runs : goal.returns-clause-runs
returns-clause-runs c = brings_in_order

pub returns-clause-map : goal.returns-clause-map
returns-clause-map c = the_map_is_kept c.args.self.now c.store.ensures.at_rest
