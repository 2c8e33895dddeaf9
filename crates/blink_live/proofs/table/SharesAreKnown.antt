-- A seat that has seen all changes knows of its own keys what its share says of them.
use Rattle.std.proofs.Common.{◌≡◌, ℕ, ap, sym, ◌∙◌}
use Rattle.blink_batch.specs.{pointer_of}
use Rattle.blink_live.specs.declared.view.Plan.{Plan}
use Rattle.blink_live.specs.declared.view.View.{View}
use Rattle.blink_live.specs.Changes.{after}
use Rattle.blink_live.specs.Rule.{Owners, IsShare}
use Rattle.blink_live.specs.Views.{KnowsItsOwn}

pub share_is_known : (plan : Plan) (owners : Owners) (owner : ℕ) (v : View) → v.plan ≡ plan → IsShare plan owners v.seen owner v.share → KnowsItsOwn v
share_is_known plan owners owner v same_plan is = record {
  state = λ key mine. ap (λ (p : Plan). after (pointer_of p.opening) v.seen key) same_plan ∙ sym ((is key mine).kept);
  changes = λ key mine. (is key mine).changes;
}
