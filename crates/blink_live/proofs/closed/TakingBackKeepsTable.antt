-- Taking back a pass when the table closes keeps the rule: its keys become the keeper's.
use Rattle.std.proofs.Common.{◌≡◌, ◌≤◌, ℕ, suc, None, ◌∷◌, set, subst, arith}
use Rattle.std.specs.Prelude.{Contains}
use mathlib.Core.Option.{some}
use lib.ListN.{get_elem?}
use Rattle.atomic_table.specs.Table.{State, Joins}
use Rattle.blink_machine.specs.TreeState.{TreeState}
use Rattle.blink_live.specs.declared.view.Plan.{Plan}
use Rattle.blink_live.specs.declared.view.Role.TheVariants.{Keeper, Pass}
use Rattle.blink_live.specs.declared.view.Share.{Share}
use Rattle.blink_live.specs.declared.view.View.{View}
use Rattle.blink_live.specs.Rule.{IsFree, IsShare, IsTableAt, IsTable}
use Rattle.blink_live.specs.Views.{IsOwned, spent, takes_back}
use Rattle.blink_live.proofs.dealt.FirstOrOneOfRest.{contains_case}
use Rattle.blink_live.proofs.table.OwnersChange.{share_still}
use Rattle.blink_live.proofs.table.PassesComeIn.{takes_in_at, in_role, its, key_back, key_else, key_kept, new, published}

module _ (plan : Plan) (some_number : 1 ≤ plan.counts.numbers) (s : State ℕ View) (tree_state : TreeState) (h : IsTableAt plan s tree_state) (id other : ℕ) (v w : View)
    (at : get_elem? s.views id ≡ some v) (apart : ¬ (other ≡ id)) (there : get_elem? (set s.views id (takes_back v w)) other ≡ some w)
    (dealt back : ℕ) (role : v.role ≡ Keeper dealt back) (owned : IsOwned v.plan) (its_role : w.role ≡ Pass) (idle : w.operation ≡ None) where
  shares_back : (share : Share) → Contains (w.share ∷ v.back) share → IsShare plan (new plan some_number s tree_state h id other v w v.taken (w.share ∷ v.back) v.seen 1 at apart there dealt back role owned its_role idle) h.log 1 share
  shares_back share has =
      let then = new plan some_number s tree_state h id other v w v.taken (w.share ∷ v.back) v.seen 1 at apart there dealt back role owned its_role idle in
      let stays = published plan some_number s tree_state h id other v w v.taken (w.share ∷ v.back) v.seen 1 at apart there dealt back role owned its_role idle in
      let known = its plan some_number s tree_state h id other v w v.taken (w.share ∷ v.back) v.seen 1 at apart there dealt back role owned its_role idle in
      contains_case w.share v.back share has
      (λ (is : w.share ≡ share). subst (IsShare plan then h.log 1) is (share_still plan h.owners then s.words h.log stays (suc other) 1 w.share (key_back plan some_number s tree_state h id other v w v.taken (w.share ∷ v.back) v.seen 1 at apart there dealt back role owned its_role idle) known.share))
      (λ (was : Contains v.back share). share_still plan h.owners then s.words h.log stays 1 1 share (key_kept plan some_number s tree_state h id other v w v.taken (w.share ∷ v.back) v.seen 1 at apart there dealt back role owned its_role idle) ((in_role plan some_number s tree_state h id other v w v.taken (w.share ∷ v.back) v.seen 1 at apart there dealt back role owned its_role idle).3 share was))

  free_still : (key : ℕ) → ¬ Contains v.taken key → IsFree (new plan some_number s tree_state h id other v w v.taken (w.share ∷ v.back) v.seen 1 at apart there dealt back role owned its_role idle) h.log (takes_back v w) key
  free_still key untaken =
      let free = (in_role plan some_number s tree_state h id other v w v.taken (w.share ∷ v.back) v.seen 1 at apart there dealt back role owned its_role idle).2 key untaken in
      record { own = key_else plan some_number s tree_state h id other v w v.taken (w.share ∷ v.back) v.seen 1 at apart there dealt back role owned its_role idle key 0 free.own (λ e. absurd (omega (arith, e))); saw_all = free.saw_all }

  takes_back_at : IsTable plan record { words = s.words; homes = s.homes; views = set (set s.views id (takes_back v w)) other (spent plan) }
  takes_back_at = (tree_state, takes_in_at plan some_number s tree_state h id other v w v.taken (w.share ∷ v.back) v.seen 1 at apart there dealt back role owned its_role idle (h.views id v at).saw free_still shares_back)

pub taking_back_keeps_table : (plan : Plan) (id other : ℕ) (v w : View) (dealt back : ℕ) → 1 ≤ plan.counts.numbers → v.role ≡ Keeper dealt back → IsOwned v.plan → w.role ≡ Pass → w.operation ≡ None
    → Joins (IsTable plan) id v other w (takes_back v w) (spent plan)
taking_back_keeps_table plan id other v w dealt back some_number role owned its_role idle s table at apart there =
    takes_back_at plan some_number s table.0 table.1 id other v w at apart there dealt back role owned its_role idle
