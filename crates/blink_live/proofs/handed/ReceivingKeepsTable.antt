-- A pass that takes keys which another has parted with keeps the rule: they are its own then, and the seat that they were is spent.
use Rattle.std.proofs.Common.{◌≡◌, ◌≢◌, ◌⊎◌, ℕ, suc, ◌≤◌, Bool, true, false, None, List, [], length, set, refl, sym, ap, ◌∙◌, subst, ⊎_elim, length-set, true≢false, arith}
use Rattle.std.specs.Prelude.{Contains}
use mathlib.Core.Option.{some, some-injective}
use native.Mathlib.Decide.{dec_le}
use lib.ListN.{get_elem?}
use Rattle.atomic_table.specs.Table.{State, Joins}
use Rattle.atomic_table.proofs.Lists.{at_set, set_else}
use Rattle.blink_machine.specs.TreeState.{TreeState}
use Rattle.blink_live.specs.declared.view.Plan.{Plan}
use Rattle.blink_live.specs.declared.view.Role.TheVariants.{Keeper, Spent}
use Rattle.blink_live.specs.declared.view.View.{View}
use Rattle.blink_live.specs.Parcels.{receives, with_share}
use Rattle.blink_live.specs.Rule.{Owners, IsShare, IsOwnKey, Knows, IsTableAt, IsTable}
use Rattle.blink_live.specs.Views.{IsOwned, is_among, no_share, spent}
use Rattle.blink_live.proofs.dealt.KeysOfShare.{among_from_contains, contains_from_among}
use Rattle.blink_live.proofs.handed.KeysMove.{keys_moved, key_moved, key_stays, knows_then, others_know}
use Rattle.blink_live.proofs.handed.SharesOfKeys.{states_mine, states_theirs, with_those-other, with_those-own}
use Rattle.blink_live.proofs.table.OwnersChange.{owners_change}
use Rattle.blink_live.proofs.table.SeatsThatStay.{counted_stays, views_stay}
use Rattle.blink_live.proofs.told.NotesKeepTable.{told_knows}

-- a spent seat isn't the keeper's
not_first : (dealt back : ℕ) → Spent ≡ Keeper dealt back → ⊥
not_first dealt back e = cc

module _ (plan : Plan) (some_number : 1 ≤ plan.counts.numbers) (s : State ℕ View) (tree_state : TreeState) (h : IsTableAt plan s tree_state) (id other : ℕ) (v w : View) (keys : List ℕ)
    (at : get_elem? s.views id ≡ some v) (apart : ¬ (other ≡ id)) (there : get_elem? (set s.views id (receives v keys w)) other ≡ some w)
    (owned : IsOwned v.plan) (its_role : w.role ≡ Spent) (idle : w.operation ≡ None) (either : (key : ℕ) → Contains keys key → Contains v.share.keys key ⊎ Contains w.share.keys key) where
  abbrev new : Owners
  new = keys_moved h.owners (is_among w.share.keys) (suc id)

  abbrev both : View
  both = receives v keys w

  was_there : get_elem? s.views other ≡ some w
  was_there = sym (set_else s.views id other both apart) ∙ there

  known : Knows plan h.owners s.words tree_state h.log id v
  known = h.views id v at

  its : Knows plan h.owners s.words tree_state h.log other w
  its = h.views other w was_there

  some_pass : 1 ≤ other
  some_pass = elim (dec_le 1 other) [
    | yes le ↦ le
    | no none ↦
        let first : other ≡ 0 = omega (arith, none) in
        let is : w ≡ h.counted.keeper = some-injective w h.counted.keeper (sym was_there ∙ (ap (get_elem? s.views) first ∙ h.counted.first)) in
        absurd (not_first h.counted.dealt h.counted.back (sym its_role ∙ (ap (λ (y : View). y.role) is ∙ h.counted.role)))
  ]

  only : (key : ℕ) → is_among w.share.keys key ≡ true → h.owners.key key ≡ suc other
  only key among = (its.share key (contains_from_among w.share.keys key among)).own

  -- ---- the pass

  both_share : IsShare plan new h.log (suc id) (with_share v.share keys w.share)
  both_share key has = go (is_among w.share.keys key) refl
    where
      go : (b : Bool) → is_among w.share.keys key ≡ b → IsOwnKey plan new h.log (suc id) (with_share v.share keys w.share) key
      go true among =
          let theirs = its.share key (contains_from_among w.share.keys key among) in
          record {
            own = key_moved plan h.owners s.words tree_state h.log (is_among w.share.keys) (suc id) other some_pass only key among;
            kept = with_those-own w.share.keys w.share.entries v.share.entries key among ∙ theirs.kept;
            changes = theirs.changes ∙ sym (states_theirs w.share.keys w.share.changes v.share.changes key among);
          }
      go false not_theirs =
          let mine = known.share key (⊎_elim (λ (own : Contains v.share.keys key). own)
          (λ (t : Contains w.share.keys key). absurd (true≢false (sym (among_from_contains w.share.keys key t) ∙ not_theirs))) (either key has)) in
          record {
            own = key_stays plan h.owners s.words tree_state h.log (is_among w.share.keys) (suc id) other some_pass only key (suc id) mine.own not_theirs;
            kept = with_those-other w.share.keys w.share.entries v.share.entries key not_theirs ∙ mine.kept;
            changes = mine.changes ∙ sym (states_mine w.share.keys w.share.changes v.share.changes key not_theirs);
          }

  both_knows : Knows plan new s.words tree_state h.log id both
  both_knows = knows_then plan h.owners s.words tree_state h.log (is_among w.share.keys) (suc id) other some_pass only id v (with_share v.share keys w.share) w.told both_share its.heard known

  -- ---- the seat that is left

  spent_knows : Knows plan new s.words tree_state h.log other (spent plan)
  spent_knows = knows_then plan h.owners s.words tree_state h.log (is_among w.share.keys) (suc id) other some_pass only other (spent plan) no_share [] (λ key has. absurd (let inside = has.1 in omega (arith, inside)))
      (h.log, refl) (told_knows plan some_number s tree_state h other [] (its.operation ∙ idle) (h.log, refl))

  -- ---- all seats

  abbrev views_then : List View
  views_then = set (set s.views id both) other (spent plan)

  all_know : (seat : ℕ) (u : View) → get_elem? views_then seat ≡ some u → Knows plan new s.words tree_state h.log seat u
  all_know = views_stay (Knows plan new s.words tree_state h.log) (set s.views id both) other (spent plan) spent_knows
      (λ seat u not_spent at_seat. ⊎_elim
      (λ (t : (seat ≡ id) × (both ≡ u)). subst (λ (x : ℕ × View). Knows plan new s.words tree_state h.log x.0 x.1) (λ i. (sym t.0 i, t.1 i)) both_knows)
      (λ (t : (seat ≢ id) × (get_elem? s.views seat ≡ some u)). others_know plan h.owners s.words tree_state h.log (is_among w.share.keys) (suc id) other some_pass only seat u not_spent (h.views seat u t.1))
      (at_set s.views id seat both u at_seat))

  receives_at : IsTableAt plan record { words = s.words; homes = s.homes; views = views_then } tree_state
  receives_at = owners_change plan s tree_state h new views_then (record { rows = λ row is. is; fixed = refl; named_by = refl }) (λ number seat holds. refl) all_know
      (let one : length (set s.views id both) ≡ length s.views = length-set s.views id both in
      let two : length views_then ≡ length (set s.views id both) = length-set (set s.views id both) other (spent plan) in
      omega (arith, one, two))
      (λ common. absurd (let none : plan.places ≡ 0 = ap (λ (p : Plan). p.places) (sym known.same_plan) ∙ owned in omega (arith, none, common)))
      (λ common. absurd (let none : plan.places ≡ 0 = ap (λ (p : Plan). p.places) (sym known.same_plan) ∙ owned in omega (arith, none, common)))
      (λ common. absurd (let none : plan.places ≡ 0 = ap (λ (p : Plan). p.places) (sym known.same_plan) ∙ owned in omega (arith, none, common)))
      (λ common. absurd (let none : plan.places ≡ 0 = ap (λ (p : Plan). p.places) (sym known.same_plan) ∙ owned in omega (arith, none, common)))
      (counted_stays (set s.views id both) other w (spent plan) there (sym its_role) (sym its.same_plan) (counted_stays s.views id v both at refl refl h.counted))

pub receiving_keeps_table : (plan : Plan) (id other : ℕ) (v w : View) (keys : List ℕ) → 1 ≤ plan.counts.numbers → IsOwned v.plan → w.role ≡ Spent → w.operation ≡ None
    → ((key : ℕ) → Contains keys key → Contains v.share.keys key ⊎ Contains w.share.keys key) → Joins (IsTable plan) id v other w (receives v keys w) (spent plan)
receiving_keeps_table plan id other v w keys some_number owned its_role idle either s table at apart there =
    (table.0, receives_at plan some_number s table.0 table.1 id other v w keys at apart there owned its_role idle either)
