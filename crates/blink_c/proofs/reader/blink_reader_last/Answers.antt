use Rattle.std.proofs.Common.{◌↔◌, ◌∙◌, Option, IsSome, IsTrue, ap, subst}
use Rattle.blink_batch.specs.declared.Entry.{Entry}
use Rattle.blink_index.specs.{last_of, map_of}
use Rattle.blink_store.specs.{PlainStore}
use Rattle.blink_handles.specs.{index_in}
use Rattle.blink_c.proofs.reader.blink_reader_last.Goals as goal

pub returns-clause-found : goal.returns-clause-found
returns-clause-found c =
    let kept = c.last.ensures ∙ ap (λ (store : PlainStore). last_of (map_of store)) (c.index.ensures ∙ ap index_in c.get.ensures.value) in
    subst (λ (there : Option Entry). IsTrue c.give_entry.result ↔ IsSome there) kept c.give_entry.ensures.found
