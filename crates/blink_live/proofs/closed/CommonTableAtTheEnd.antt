-- The words of a common table whose places are all idle keep a tree at rest.
use Rattle.std.proofs.Common.{◌≡◌, ℕ, ◌<◌, ◌≤◌, Option, Some, None, List, length, sym, ◌∙◌, ⊎_elim, refl, arith}
use Rattle.std.specs.Prelude.{slice_index}
use mathlib.Core.Option.{some}
use lib.ListN.{get_elem?}
use Rattle.atomic_table.specs.Table.{State}
use Rattle.blink_machine.specs.{PlainMachine}
use Rattle.blink_machine.specs.TreeState.{TreeState}
use Rattle.blink_live.specs.declared.view.Plan.{Plan}
use Rattle.blink_live.specs.declared.view.Role.{Role}
use Rattle.blink_live.specs.declared.view.Role.TheVariants.{Keeper, Pass, Spent}
use Rattle.blink_live.specs.declared.view.View.{View}
use Rattle.blink_live.specs.Merge.{KeepsTree}
use Rattle.blink_live.specs.Rule.{HasPlace, IsInRole, Knows, IsTableAt}
use Rattle.blink_live.specs.Views.{IsCommon}
use Rattle.blink_live.specs.Words.{place_word}
use Rattle.blink_live.proofs.closed.AllBack.{seat_there}
use Rattle.blink_live.proofs.closed.TableAtTheEnd.{keeps_tree}

-- the words of all places are 0
abbrev pub AreIdle : Plan → List ℕ → Type 0
AreIdle plan words = (place : ℕ) → place < plan.places → slice_index words (place_word plan.counts place) ≡ 0

module _ (plan : Plan) (s : State ℕ View) (tree_state : TreeState) (h : IsTableAt plan s tree_state) (common : IsCommon plan) (idle : AreIdle plan s.words) where
  no_operation : (seat : ℕ) (v : View) → Knows plan h.owners s.words tree_state h.log seat v → (role : Role) → v.role ≡ role → IsInRole plan h.owners h.log seat v role → v.operation ≡ None
  no_operation seat v known (Keeper dealt back) is in_role = in_role.1
  no_operation seat v known Spent is in_role = in_role
  no_operation seat v known Pass is in_role = go v.operation refl
    where
      its : HasPlace plan h.owners s.words seat v
      its = known.placed common is

      go : (operation : Option PlainMachine) → v.operation ≡ operation → v.operation ≡ None
      go None none = none
      go (Some m) under =
          let some = its.busy m under in
          let none : 0 ≡ v.busy = sym (idle v.place its.in_range) ∙ its.word in
          absurd (omega (arith, some, none))

  nobody_at_work : (worker : ℕ) → tree_state.machines worker ≡ None
  nobody_at_work worker = ⊎_elim (λ (beyond : length s.views ≤ worker). h.others_idle worker beyond)
      (λ (t : (v : View) × (get_elem? s.views worker ≡ some v)).
      let known = h.views worker t.0 t.1 in
      known.operation ∙ no_operation worker t.0 known t.0.role refl known.in_role)
      (seat_there s.views worker)

  -- so they keep a tree at rest
  pub rests_at_end : KeepsTree plan.counts s.words plan.fan h.now
  rests_at_end = keeps_tree plan s tree_state h nobody_at_work
