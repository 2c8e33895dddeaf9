use Rattle.std.proofs.Common.{◌≡◌, true, List, ℕ, Some, ap, sym, ◌∙◌, subst}
use Rattle.std.specs.Prelude.{slice_get}
use Rattle.blink_batch.specs.{Assignment}
use Rattle.blink_locked.specs.Book.{PlainBook}
use Rattle.blink_locked.proofs.book.Book.is_of.Goals as goal

-- the lanes are those of the world
pub returns : goal.returns
returns g c =
    let same = c.deref.ensures.value ∙ c.self.invariant.1 ∙ sym (ap (λ (a : Assignment). a.lanes) c.self.invariant.0.same_assignment) ∙ ap (λ (book : PlainBook). book.world.run.assignment.lanes) c.self.view_is in
    subst (λ (lanes : List ℕ). (c.is_lane_of.result ≡ true → slice_get lanes c.args.op ≡ Some c.args.worker) × (slice_get lanes c.args.op ≡ Some c.args.worker → c.is_lane_of.result ≡ true)) same c.is_lane_of.ensures
