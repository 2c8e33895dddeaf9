-- When each pass is back, nobody is under way.
use Rattle.std.proofs.Common.{◌≡◌, ◌⊎◌, ℕ, zero, suc, ◌≤◌, None, List, [], ◌∷◌, length, refl, sym, ap, ◌∙◌, subst, ⊎_elim, inl, inr, arith}
use mathlib.Core.Option.{some, some-ne-none, some-injective}
use lib.ListN.{get_elem?}
use Rattle.atomic_table.specs.Table.{State}
use Rattle.blink_machine.specs.TreeState.{TreeState}
use Rattle.blink_live.specs.declared.view.Change.{Change}
use Rattle.blink_live.specs.declared.view.Plan.{Plan}
use Rattle.blink_live.specs.declared.view.Role.{Role}
use Rattle.blink_live.specs.declared.view.Role.TheVariants.{Keeper, Pass, Spent}
use Rattle.blink_live.specs.declared.view.View.{View}
use Rattle.blink_live.specs.Rule.{Owners, IsInRole, pass_count, passes_in, IsTableAt}
use Rattle.blink_live.specs.Views.{IsOwned}

-- a seat is beyond the views, or has one
pub seat_there : (views : List View) (seat : ℕ) → (length views ≤ seat) ⊎ ((v : View) × (get_elem? views seat ≡ some v))
seat_there [] seat = inl (omega arith)
seat_there (v ∷ rest) zero = inr (v, refl)
seat_there (v ∷ rest) (suc seat) = ⊎_elim (λ (beyond : length rest ≤ seat). inl (omega (arith, beyond))) (λ t. inr t) (seat_there rest seat)

no_pass_there : (views : List View) (seat : ℕ) (v : View) → passes_in views ≡ 0 → get_elem? views seat ≡ some v → pass_count v.role ≡ 0
no_pass_there [] seat v none at = absurd (some-ne-none v (sym at))
no_pass_there (u ∷ rest) zero v none at = let e : pass_count u.role ≡ pass_count v.role = ap (λ (y : View). pass_count y.role) (some-injective u v at) in omega (arith, e, none)
no_pass_there (u ∷ rest) (suc seat) v none at = no_pass_there rest seat v (omega (arith, none)) at

idle_in_role : (plan : Plan) (owners : Owners) (log : List Change) (seat : ℕ) (v : View) (role : Role) → pass_count role ≡ 0 → IsInRole plan owners log seat v role → v.operation ≡ None
idle_in_role plan owners log seat v (Keeper dealt back) none is = is.1
idle_in_role plan owners log seat v Pass none is = absurd (omega (arith, none))
idle_in_role plan owners log seat v Spent none is = is

dealt_of : Role → ℕ
dealt_of (Keeper dealt back) = dealt
dealt_of role = 0

back_of : Role → ℕ
back_of (Keeper dealt back) = back
back_of role = 0

pub all_back : (plan : Plan) (s : State ℕ View) (tree_state : TreeState) (h : IsTableAt plan s tree_state) (id : ℕ) (v : View) (dealt : ℕ) → get_elem? s.views id ≡ some v → v.role ≡ Keeper dealt dealt → IsOwned v.plan
    → (worker : ℕ) → tree_state.machines worker ≡ None
unfolding dealt_of back_of
all_back plan s tree_state h id v dealt at role owned worker =
    let in_role : IsInRole plan h.owners h.log id v (Keeper dealt dealt) = subst (IsInRole plan h.owners h.log id v) role (h.views id v at).in_role in
    let was = h.counted in
    let is : v ≡ was.keeper = some-injective v was.keeper (sym at ∙ (ap (get_elem? s.views) in_role.0 ∙ was.first)) in
    let same : Keeper dealt dealt ≡ Keeper was.dealt was.back = sym role ∙ (ap (λ (y : View). y.role) is ∙ was.role) in
    let same_dealt : dealt ≡ was.dealt = ap dealt_of same in
    let same_back : dealt ≡ was.back = ap back_of same in
    let counted = was.counted (ap (λ (y : View). y.plan.places) (sym is) ∙ owned) in
    let none : passes_in s.views ≡ 0 = omega (arith, same_dealt, same_back, counted) in
    ⊎_elim (λ (beyond : length s.views ≤ worker). h.others_idle worker beyond)
    (λ (t : (u : View) × (get_elem? s.views worker ≡ some u)).
    let known = h.views worker t.0 t.1 in
    known.operation ∙ idle_in_role plan h.owners h.log worker t.0 t.0.role (no_pass_there s.views worker t.0 none t.1) known.in_role)
    (seat_there s.views worker)
