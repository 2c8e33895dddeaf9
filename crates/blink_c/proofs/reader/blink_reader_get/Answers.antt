use Rattle.std.proofs.Common.{◌↔◌, ◌∙◌, IsSome, IsTrue, ap, subst}
use Rattle.blink_batch.specs.{pointer_of}
use Rattle.blink_index.specs.{map_of}
use Rattle.blink_store.specs.{PlainStore}
use Rattle.blink_handles.specs.{index_in}
use Rattle.blink_c.proofs.reader.blink_reader_get.Goals as goal

pub returns-clause-found : goal.returns-clause-found
returns-clause-found c =
    subst (λ (store : PlainStore). IsTrue c.find.result ↔ IsSome (pointer_of (map_of store) c.args.key))
    (c.index.ensures ∙ ap index_in c.get.ensures.value) c.find.ensures.found
