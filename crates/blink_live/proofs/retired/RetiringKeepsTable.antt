-- A pass that comes back while the table lives keeps the rule: nobody owns its keys then, and its seat is spent.
use Rattle.std.proofs.Common.{◌≡◌, ◌⊎◌, ◌≤◌, ℕ, None, Option, List, set, sym, ◌∙◌, subst, ⊎_elim, arith}
use Rattle.std.specs.Prelude.{Contains}
use mathlib.Core.List.{IsPrefix}
use mathlib.Core.Option.{some}
use lib.ListN.{get_elem?}
use Rattle.atomic_table.specs.Table.{State, Joins}
use Rattle.blink_machine.specs.TreeState.{TreeState}
use Rattle.blink_live.specs.declared.view.Plan.{Plan}
use Rattle.blink_live.specs.declared.view.Role.TheVariants.{Keeper, Pass}
use Rattle.blink_live.specs.declared.view.Share.{Share}
use Rattle.blink_live.specs.declared.view.View.{View}
use Rattle.blink_live.specs.Changes.{states_of}
use Rattle.blink_live.specs.Rule.{IsFree, IsShare, IsTableAt, IsTable}
use Rattle.blink_live.specs.Views.{IsOwned, SawItsOwn, retires, spent}
use Rattle.blink_live.proofs.table.OwnersChange.{share_still}
use Rattle.blink_live.proofs.table.PassesComeIn.{takes_in_at, in_role, its, key_back, key_else, key_kept, new, published}
use Rattle.blink_live.proofs.told.StatesOfKeys.{prefixes_of_each_other, states_of-prefix}

module _ (plan : Plan) (some_number : 1 ≤ plan.counts.numbers) (s : State ℕ View) (tree_state : TreeState) (h : IsTableAt plan s tree_state) (id other : ℕ) (v w : View) (taken : List ℕ)
    (at : get_elem? s.views id ≡ some v) (apart : ¬ (other ≡ id)) (there : get_elem? (set s.views id (retires v taken w)) other ≡ some w)
    (dealt back : ℕ) (role : v.role ≡ Keeper dealt back) (owned : IsOwned v.plan) (its_role : w.role ≡ Pass) (idle : w.operation ≡ None)
    (own_seen : SawItsOwn w) (heard : IsPrefix v.seen w.seen) (cases : (key : ℕ) → ¬ Contains taken key → (¬ Contains v.taken key) ⊎ Contains w.share.keys key) where
  shares_still : (share : Share) → Contains v.back share → IsShare plan (new plan some_number s tree_state h id other v w taken v.back w.seen 0 at apart there dealt back role owned its_role idle) h.log 1 share
  shares_still share was = share_still plan h.owners (new plan some_number s tree_state h id other v w taken v.back w.seen 0 at apart there dealt back role owned its_role idle) s.words h.log (published plan some_number s tree_state h id other v w taken v.back w.seen 0 at apart there dealt back role owned its_role idle) 1 1 share
      (key_kept plan some_number s tree_state h id other v w taken v.back w.seen 0 at apart there dealt back role owned its_role idle) ((in_role plan some_number s tree_state h id other v w taken v.back w.seen 0 at apart there dealt back role owned its_role idle).3 share was)

  -- of a key that was free the keeper has seen all changes before, and of the pass's keys the pass has
  free_then : (key : ℕ) → ¬ Contains taken key → IsFree (new plan some_number s tree_state h id other v w taken v.back w.seen 0 at apart there dealt back role owned its_role idle) h.log (retires v taken w) key
  free_then key untaken = ⊎_elim
      (λ (before : ¬ Contains v.taken key).
      let free = (in_role plan some_number s tree_state h id other v w taken v.back w.seen 0 at apart there dealt back role owned its_role idle).2 key before in
      let known = its plan some_number s tree_state h id other v w taken v.back w.seen 0 at apart there dealt back role owned its_role idle in
      record {
        own = key_else plan some_number s tree_state h id other v w taken v.back w.seen 0 at apart there dealt back role owned its_role idle key 0 free.own (λ e. absurd (omega (arith, e)));
        saw_all = λ passes. prefixes_of_each_other (states_of key w.seen) (states_of key h.log) (states_of-prefix key w.seen h.log known.saw)
            (subst (λ (states : List (Option ℕ)). IsPrefix states (states_of key w.seen)) (free.saw_all owned) (states_of-prefix key v.seen w.seen heard));
      })
      (λ (mine : Contains w.share.keys key).
      let known = (its plan some_number s tree_state h id other v w taken v.back w.seen 0 at apart there dealt back role owned its_role idle).share key mine in
      record { own = key_back plan some_number s tree_state h id other v w taken v.back w.seen 0 at apart there dealt back role owned its_role idle key known.own; saw_all = λ passes. own_seen key mine ∙ sym known.changes })
      (cases key untaken)

  retires_at : IsTable plan record { words = s.words; homes = s.homes; views = set (set s.views id (retires v taken w)) other (spent plan) }
  retires_at = (tree_state, takes_in_at plan some_number s tree_state h id other v w taken v.back w.seen 0 at apart there dealt back role owned its_role idle (its plan some_number s tree_state h id other v w taken v.back w.seen 0 at apart there dealt back role owned its_role idle).saw free_then shares_still)

pub retiring_keeps_table : (plan : Plan) (id other : ℕ) (v w : View) (taken : List ℕ) (dealt back : ℕ) → 1 ≤ plan.counts.numbers → v.role ≡ Keeper dealt back → IsOwned v.plan → w.role ≡ Pass → w.operation ≡ None
    → SawItsOwn w → IsPrefix v.seen w.seen → ((key : ℕ) → ¬ Contains taken key → (¬ Contains v.taken key) ⊎ Contains w.share.keys key)
    → Joins (IsTable plan) id v other w (retires v taken w) (spent plan)
retiring_keeps_table plan id other v w taken dealt back some_number role owned its_role idle own_seen heard cases s table at apart there =
    retires_at plan some_number s table.0 table.1 id other v w taken at apart there dealt back role owned its_role idle own_seen heard cases
