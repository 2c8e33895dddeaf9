-- A pass that parts with some keys keeps the rule: a new seat has them, and what the pass's share says of them.
use Rattle.std.proofs.Common.{◌≡◌, ℕ, suc, ◌+◌, ◌≤◌, true, List, [], ◌∷◌, ◌++◌, length, set, refl, sym, ap, ◌∙◌, subst, ⊎_elim, length-set, length-append, arith}
use Rattle.std.specs.Prelude.{Contains}
use mathlib.Core.Option.{some}
use lib.ListN.{get_elem?}
use Rattle.atomic_table.specs.Table.{State, Splits}
use Rattle.atomic_table.proofs.Lists.{at_longer}
use Rattle.blink_machine.specs.TreeState.{TreeState}
use Rattle.blink_live.specs.declared.view.Plan.{Plan}
use Rattle.blink_live.specs.declared.view.Role.TheVariants.{Pass}
use Rattle.blink_live.specs.declared.view.View.{View}
use Rattle.blink_live.specs.Parcels.{parcel_of, part_of, parts_with}
use Rattle.blink_live.specs.Retiring.{without}
use Rattle.blink_live.specs.Rule.{Owners, IsShare, IsInRole, Knows, passes_in, AreCounted, IsTableAt, IsTable}
use Rattle.blink_live.specs.Views.{IsOwned, is_among, spent}
use Rattle.blink_live.proofs.dealt.KeysOfShare.{among_from_contains, contains_from_among, entries_of_keep, changes_of_keep}
use Rattle.blink_live.proofs.handed.KeysMove.{keys_moved, key_moved, key_stays, knows_then, others_know}
use Rattle.blink_live.proofs.retired.KeysWithout.{not_among, stays}
use Rattle.blink_live.proofs.table.OwnersChange.{owners_change}
use Rattle.blink_live.proofs.table.PassesOut.{at_end, passes_more}
use Rattle.blink_live.proofs.table.SeatsThatStay.{counted_stays, views_stay}
use Rattle.blink_live.proofs.told.NotesKeepTable.{told_knows}

module _ (plan : Plan) (some_number : 1 ≤ plan.counts.numbers) (s : State ℕ View) (tree_state : TreeState) (h : IsTableAt plan s tree_state) (id : ℕ) (v : View) (at : get_elem? s.views id ≡ some v)
    (keys : List ℕ) (role : v.role ≡ Pass) (owned : IsOwned v.plan) (yours : (key : ℕ) → Contains keys key → Contains v.share.keys key) where
  abbrev new_seat : ℕ
  new_seat = length s.views

  abbrev new : Owners
  new = keys_moved h.owners (is_among keys) (suc new_seat)

  abbrev rest : List ℕ
  rest = without keys v.share.keys

  known : Knows plan h.owners s.words tree_state h.log id v
  known = h.views id v at

  some_pass : 1 ≤ id
  some_pass = (subst (IsInRole plan h.owners h.log id v) role known.in_role).0

  only : (key : ℕ) → is_among keys key ≡ true → h.owners.key key ≡ suc id
  only key among = (known.share key (yours key (contains_from_among keys key among))).own

  -- ---- what the pass has left

  left_share : IsShare plan new h.log (suc id) (part_of rest v.share)
  left_share key has =
      let was = (stays keys v.share.keys key).0 has in
      let its = known.share key was.0 in
      let among : is_among rest key ≡ true = among_from_contains rest key has in
      record {
        own = key_stays plan h.owners s.words tree_state h.log (is_among keys) (suc new_seat) id some_pass only key (suc id) its.own (not_among keys key was.1);
        kept = entries_of_keep rest v.share.entries key among ∙ its.kept;
        changes = its.changes ∙ sym (changes_of_keep rest v.share.changes key among);
      }

  left_knows : Knows plan new s.words tree_state h.log id (parts_with v keys)
  left_knows = knows_then plan h.owners s.words tree_state h.log (is_among keys) (suc new_seat) id some_pass only id v (part_of rest v.share) v.told left_share known.heard known

  -- ---- the keys on their way

  right_share : IsShare plan new h.log (suc new_seat) (part_of keys v.share)
  right_share key has =
      let its = known.share key (yours key has) in
      let among : is_among keys key ≡ true = among_from_contains keys key has in
      record {
        own = key_moved plan h.owners s.words tree_state h.log (is_among keys) (suc new_seat) id some_pass only key among;
        kept = entries_of_keep keys v.share.entries key among ∙ its.kept;
        changes = its.changes ∙ sym (changes_of_keep keys v.share.changes key among);
      }

  right_knows : Knows plan new s.words tree_state h.log new_seat (parcel_of v keys)
  right_knows = subst (λ (p : Plan). Knows plan new s.words tree_state h.log new_seat (record (spent p) { share = part_of keys v.share; told = v.seen })) (sym known.same_plan)
      (knows_then plan h.owners s.words tree_state h.log (is_among keys) (suc new_seat) id some_pass only new_seat (spent plan) (part_of keys v.share) v.seen right_share known.saw
      (told_knows plan some_number s tree_state h new_seat [] (h.others_idle new_seat (omega arith)) (h.log, refl)))

  -- ---- all seats

  abbrev views_then : List View
  views_then = set s.views id (parts_with v keys) ++ parcel_of v keys ∷ []

  older_know : (seat : ℕ) (u : View) → get_elem? (set s.views id (parts_with v keys)) seat ≡ some u → Knows plan new s.words tree_state h.log seat u
  older_know = views_stay (Knows plan new s.words tree_state h.log) s.views id (parts_with v keys) left_knows
      (λ seat u other there. others_know plan h.owners s.words tree_state h.log (is_among keys) (suc new_seat) id some_pass only seat u other (h.views seat u there))

  all_know : (seat : ℕ) (u : View) → get_elem? views_then seat ≡ some u → Knows plan new s.words tree_state h.log seat u
  all_know seat u there = ⊎_elim (λ (t : get_elem? (set s.views id (parts_with v keys)) seat ≡ some u). older_know seat u t)
      (λ (t : (seat ≡ length (set s.views id (parts_with v keys))) × (parcel_of v keys ≡ u)). subst (λ (x : ℕ × View). Knows plan new s.words tree_state h.log x.0 x.1)
      (λ i. (sym (t.0 ∙ length-set s.views id (parts_with v keys)) i, t.1 i)) right_knows)
      (at_end (set s.views id (parts_with v keys)) (parcel_of v keys) u seat there)

  counted_then : AreCounted views_then
  counted_then =
      let was : AreCounted (set s.views id (parts_with v keys)) = counted_stays s.views id v (parts_with v keys) at refl refl h.counted in
      let more : passes_in views_then ≡ passes_in (set s.views id (parts_with v keys)) + 0 = passes_more (set s.views id (parts_with v keys)) (parcel_of v keys) in
      let counted = was.counted in
      record {
        keeper = was.keeper;
        dealt = was.dealt;
        back = was.back;
        first = at_longer (set s.views id (parts_with v keys)) (parcel_of v keys ∷ []) 0 was.keeper was.first;
        role = was.role;
        counted = λ passes. let count = counted passes in omega (arith, more, count);
      }

  parts_at : IsTableAt plan record { words = s.words; homes = s.homes; views = views_then } tree_state
  parts_at = owners_change plan s tree_state h new views_then (record { rows = λ row is. is; fixed = refl; named_by = refl }) (λ number seat holds. refl) all_know
      (let same : length (set s.views id (parts_with v keys)) ≡ length s.views = length-set s.views id (parts_with v keys) in
      let longer : length views_then ≡ length (set s.views id (parts_with v keys)) + 1 = length-append (set s.views id (parts_with v keys)) (parcel_of v keys ∷ []) in
      omega (arith, same, longer))
      (λ common. absurd (let none : plan.places ≡ 0 = ap (λ (p : Plan). p.places) (sym known.same_plan) ∙ owned in omega (arith, none, common)))
      (λ common. absurd (let none : plan.places ≡ 0 = ap (λ (p : Plan). p.places) (sym known.same_plan) ∙ owned in omega (arith, none, common)))
      (λ common. absurd (let none : plan.places ≡ 0 = ap (λ (p : Plan). p.places) (sym known.same_plan) ∙ owned in omega (arith, none, common)))
      (λ common. absurd (let none : plan.places ≡ 0 = ap (λ (p : Plan). p.places) (sym known.same_plan) ∙ owned in omega (arith, none, common))) counted_then

pub parting_keeps_table : (plan : Plan) (id : ℕ) (v : View) (keys : List ℕ) → 1 ≤ plan.counts.numbers → v.role ≡ Pass → IsOwned v.plan → ((key : ℕ) → Contains keys key → Contains v.share.keys key)
    → Splits (IsTable plan) id v (parts_with v keys) (parcel_of v keys)
parting_keeps_table plan id v keys some_number role owned yours s table at = (table.0, parts_at plan some_number s table.0 table.1 id v at keys role owned yours)
