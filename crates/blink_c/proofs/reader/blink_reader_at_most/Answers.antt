use Rattle.std.proofs.Common.{◌↔◌, ◌∙◌, Option, IsSome, IsTrue, ap, subst}
use Rattle.std.specs.Prelude.{filter}
use Rattle.blink_batch.specs.declared.Entry.{Entry}
use Rattle.blink_index.specs.{is_up_to, last_of, map_of}
use Rattle.blink_store.specs.{PlainStore}
use Rattle.blink_handles.specs.{index_in}
use Rattle.blink_c.proofs.reader.blink_reader_at_most.Goals as goal

pub returns-clause-found : goal.returns-clause-found
returns-clause-found c =
    let kept = c.at_most.ensures ∙ ap (λ (store : PlainStore). last_of (filter (is_up_to c.args.key) (map_of store))) (c.index.ensures ∙ ap index_in c.get.ensures.value) in
    subst (λ (there : Option Entry). IsTrue c.give_entry.result ↔ IsSome there) kept c.give_entry.ensures.found
