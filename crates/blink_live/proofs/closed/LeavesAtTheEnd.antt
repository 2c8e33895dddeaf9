-- The words of a closed table keep its leaves, also where an operation is under way.
use Rattle.std.proofs.Common.{◌≤◌, ℕ}
use Rattle.atomic_table.specs.Table.{State}
use Rattle.blink_page.specs.declared.limits.TheConstants.{MAX_FAN}
use Rattle.blink_machine.specs.TreeState.{TreeState}
use Rattle.blink_live.specs.declared.view.Plan.{Plan}
use Rattle.blink_live.specs.declared.view.View.{View}
use Rattle.blink_live.specs.Leaves.{KeepsLeaves}
use Rattle.blink_live.specs.Rule.{IsTableAt}
use Rattle.blink_live.proofs.closed.TableAtTheEnd.{kept_page, kept_prime}

pub leaves_at_end : (plan : Plan) (s : State ℕ View) (tree_state : TreeState) (h : IsTableAt plan s tree_state) → tree_state.fan ≤ MAX_FAN → KeepsLeaves plan.counts s.words h.now
leaves_at_end plan s tree_state h few = record {
  fan = tree_state.fan;
  few = few;
  prime = tree_state.prime;
  pages = tree_state.pages;
  prime_kept = kept_prime plan s tree_state h;
  pages_kept = kept_page plan s tree_state h;
  are = h.is_map.kept;
}
