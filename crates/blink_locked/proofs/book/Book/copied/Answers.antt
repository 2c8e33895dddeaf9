use Rattle.std.proofs.Common.{ap, sym, ◌∙◌}
use Rattle.blink_batch.specs.{Assignment}
use Rattle.blink_locked.proofs.BooksGoOn.{begins_book}
use Rattle.blink_locked.proofs.book.Book.copied.Goals as goal

pub invariant_of-result : goal.invariant_of-result
invariant_of-result g c =
    let picked = c.requires.picked in (
      begins_book c.args.start.now c.args.batch.now c.args.cut.now c.in-Ok-first_world.world c.in-Ok-first_world.ensures _ _ _ picked.0 picked.1 picked.2,
      c.in-Ok.ensures.items_if_clones_equal (λ x y same. same) ∙ c.lanes.ensures.lanes ∙ sym (ap (λ (a : Assignment). a.lanes) picked.2),
    )
