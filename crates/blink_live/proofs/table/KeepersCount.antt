-- Each pass that was dealt is out or back.
use Rattle.std.proofs.Common.{◌≡◌, ℕ, ◌+◌, sym, ap, ◌∙◌, subst, arith}
use mathlib.Core.Option.{some, some-injective}
use lib.ListN.{get_elem?}
use Rattle.atomic_table.specs.Table.{State}
use Rattle.blink_machine.specs.TreeState.{TreeState}
use Rattle.blink_live.specs.declared.view.Plan.{Plan}
use Rattle.blink_live.specs.declared.view.Role.{Role}
use Rattle.blink_live.specs.declared.view.Role.TheVariants.{Keeper}
use Rattle.blink_live.specs.declared.view.View.{View}
use Rattle.blink_live.specs.Rule.{IsInRole, passes_in, IsTableAt}
use Rattle.blink_live.specs.Views.{IsOwned}

abbrev dealt_of : Role → ℕ
dealt_of (Keeper dealt back) = dealt
dealt_of role = 0

abbrev back_of : Role → ℕ
back_of (Keeper dealt back) = back
back_of role = 0

pub keeper_counts : (plan : Plan) (s : State ℕ View) (tree_state : TreeState) (h : IsTableAt plan s tree_state) (id : ℕ) (v : View) (dealt back : ℕ) → get_elem? s.views id ≡ some v → v.role ≡ Keeper dealt back → IsOwned v.plan → passes_in s.views + back ≡ dealt
keeper_counts plan s tree_state h id v dealt back at role owned =
    let was = h.counted in
    let first : id ≡ 0 = (subst (IsInRole plan h.owners h.log id v) role (h.views id v at).in_role).0 in
    let is : v ≡ was.keeper = some-injective v was.keeper (sym at ∙ (ap (get_elem? s.views) first ∙ was.first)) in
    let roles : Keeper dealt back ≡ Keeper was.dealt was.back = sym role ∙ (ap (λ (y : View). y.role) is ∙ was.role) in
    let same_dealt : dealt ≡ was.dealt = ap dealt_of roles in
    let same_back : back ≡ was.back = ap back_of roles in
    let count = was.counted (ap (λ (y : View). y.plan.places) (sym is) ∙ owned) in
    omega (arith, same_dealt, same_back, count)
