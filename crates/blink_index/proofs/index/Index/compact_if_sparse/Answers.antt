use Rattle.std.proofs.Common.{subst, sym}
use Rattle.blink_rest.specs.{IsMapOf}
use Rattle.blink_store.specs.{PlainStore}
use Rattle.blink_entries.specs.Index.{map_of}
use Rattle.blink_index.proofs.index.Index.compact_if_sparse.Goals as goal

pub returns-then-is_err-clause-kept : goal.returns-then-is_err-clause-kept
returns-then-is_err-clause-kept c = subst (λ (store : PlainStore). IsMapOf store (map_of store)) (sym c.self.view_is) c.compact.ensures.kept
