-- The map of a store that has these entries.
use Rattle.std.proofs.Common.{◌≡◌, List, ◌∙◌}
use Rattle.blink_batch.specs.declared.Entry.{Entry}
use Rattle.blink_index.specs.{map_of}
use Rattle.blink_index.proofs.Offered.{map_of-entries}
use Rattle.blink_machine.specs.{IsMapOf, pairs_of}
use Rattle.blink_machine.proofs.Offered.{entries_from-pairs_of}
use Rattle.blink_store.specs.{PlainStore}

pub map_is : (store : PlainStore) (entries : List Entry) → IsMapOf store entries → map_of store ≡ entries
map_is store entries is = map_of-entries store (pairs_of entries) is.kept ∙ entries_from-pairs_of entries
