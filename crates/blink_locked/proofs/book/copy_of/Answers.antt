use Rattle.std.proofs.Common.{◌≡◌, ◌∙◌, List}
use Rattle.std.proofs.lemmas.Result.{IfOk-at_ok}
use Rattle.blink_batch.specs.declared.Op.{Op}
use Rattle.blink_locked.proofs.book.copy_of.Goals as goal

-- the copy is no longer than the batch
pub unwrap-requires : goal.unwrap-requires
unwrap-requires c = c.new.ensures.taken.1 (rw (c.in_ok-to_vec.ensures.items_if_clones_equal (λ x y same. same), c.ops.ensures.ops) c.ops.ensures.limit)

-- it has the same operations
pub returns : goal.returns
returns c = IfOk-at_ok (λ (copy : List Op). copy ≡ c.in_ok-to_vec.field-0.items) c.unwrap.ensures c.new.ensures.batch ∙ c.in_ok-to_vec.ensures.items_if_clones_equal (λ x y same. same) ∙ c.ops.ensures.ops
