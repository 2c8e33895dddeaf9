-- A pass's note of what it has seen is a seat more, and whoever takes it is told: both keep the rule.
use Rattle.std.proofs.Common.{◌≡◌, ◌≢◌, ℕ, ◌+◌, ◌≤◌, None, List, [], ◌∷◌, ◌++◌, length, set, refl, sym, ◌∙◌, subst, ⊎_elim, length-set, length-append, arith}
use mathlib.Core.Option.{some}
use lib.ListN.{get_elem?}
use Rattle.atomic_table.specs.Table.{State, Splits, Joins}
use Rattle.atomic_table.proofs.Lists.{at_set, at_longer, set_else, set_again}
use Rattle.blink_machine.specs.TreeState.{TreeState}
use Rattle.blink_live.specs.declared.view.Plan.{Plan}
use Rattle.blink_live.specs.declared.view.Role.{Role}
use Rattle.blink_live.specs.declared.view.Role.TheVariants.{Keeper, Pass, Spent}
use Rattle.blink_live.specs.declared.view.View.{View}
use Rattle.blink_live.specs.declared.view.Change.{Change}
use mathlib.Core.List.{IsPrefix}
use Rattle.blink_live.specs.Rule.{Owners, IsInRole, Knows, passes_in, AreCounted, IsTableAt, IsTable}
use Rattle.blink_live.specs.Views.{hears, note_of, spent}
use Rattle.blink_live.proofs.table.AccountsStay.{accounts_longer, accounts_stay, no_accounts, none_apart}
use Rattle.blink_live.proofs.reuse.ReuseStaysSafe.{hand_stays, reuse_longer, reuse_stays, reuse_without, same_reads}
use Rattle.blink_live.proofs.table.OwnersChange.{owners_change}
use Rattle.blink_live.proofs.table.PassesOut.{at_end, passes_more}
use Rattle.blink_live.proofs.table.SeatsThatStay.{views_stay, counted_stays}
use Rattle.blink_live.proofs.table.SpentSeats.{spent_knows}

-- a seat's role says nothing of the note that it holds
pub told_in_role : (plan : Plan) (owners : Owners) (log : List Change) (seat : ℕ) (v : View) (told : List Change) (role : Role) → IsInRole plan owners log seat v role → IsInRole plan owners log seat (record v { told = told }) role
told_in_role plan owners log seat v told (Keeper dealt back) is = (is.0, is.1, (λ key untaken. let free = is.2 key untaken in record { own = free.own; saw_all = free.saw_all }), is.3)
told_in_role plan owners log seat v told Pass is = is
told_in_role plan owners log seat v told Spent is = is

module _ (plan : Plan) (some_number : 1 ≤ plan.counts.numbers) (s : State ℕ View) (tree_state : TreeState) (h : IsTableAt plan s tree_state) where
  -- a seat that has nothing knows what it was told
  pub told_knows : (seat : ℕ) (told : List Change) → tree_state.machines seat ≡ None → IsPrefix told h.log → Knows plan h.owners s.words tree_state h.log seat (record (spent plan) { told = told })
  told_knows seat told idle heard = spent_knows plan h.owners s.words tree_state h.log seat told some_number idle heard

  -- ---- a note

  module _ (id : ℕ) (v : View) (at : get_elem? s.views id ≡ some v) where
    known : Knows plan h.owners s.words tree_state h.log id v
    known = h.views id v at

    right_knows : Knows plan h.owners s.words tree_state h.log (length s.views) (note_of v)
    right_knows = subst (λ (p : Plan). Knows plan h.owners s.words tree_state h.log (length s.views) (record (spent p) { told = v.seen })) (sym known.same_plan)
        (told_knows (length s.views) v.seen (h.others_idle (length s.views) (omega arith)) known.saw)

    abbrev views_then : List View
    views_then = s.views ++ note_of v ∷ []

    all_know : (seat : ℕ) (u : View) → get_elem? views_then seat ≡ some u → Knows plan h.owners s.words tree_state h.log seat u
    all_know seat u there = ⊎_elim (λ (t : get_elem? s.views seat ≡ some u). h.views seat u t)
        (λ (t : (seat ≡ length s.views) × (note_of v ≡ u)). subst (λ (x : ℕ × View). Knows plan h.owners s.words tree_state h.log x.0 x.1) (λ i. (sym t.0 i, t.1 i)) right_knows)
        (at_end s.views (note_of v) u seat there)

    counted_then : AreCounted views_then
    counted_then =
        let was = h.counted in
        let more : passes_in views_then ≡ passes_in s.views + 0 = passes_more s.views (note_of v) in
        let counted = was.counted in
        record {
          keeper = was.keeper;
          dealt = was.dealt;
          back = was.back;
          first = at_longer s.views (note_of v ∷ []) 0 was.keeper was.first;
          role = was.role;
          counted = λ owned. let count = counted owned in omega (arith, more, count);
        }

    recorded : IsTableAt plan record { words = s.words; homes = s.homes; views = views_then } tree_state
    recorded = owners_change plan s tree_state h h.owners views_then (record { rows = λ row is. is; fixed = refl; named_by = refl }) (λ number seat holds. refl) all_know
        (let longer : length views_then ≡ length s.views + 1 = length-append s.views (note_of v ∷ []) in omega (arith, longer)) h.nobodys h.pool
        (λ common. accounts_longer plan h.owners.place h.log s.views (note_of v) (λ account has. let none = has.1 in absurd (omega (arith, none))) none_apart (λ is. absurd (cc)) (h.accounted common))
        (λ common. reuse_longer plan h.owners.row s.words s.views (note_of v) refl refl refl (h.reuse common)) counted_then

  -- ---- it is taken

  module _ (id other : ℕ) (v w : View) (at : get_elem? s.views id ≡ some v) (apart : ¬ (other ≡ id)) (there : get_elem? (set s.views id (hears v w)) other ≡ some w)
      (its_role : w.role ≡ Spent) (idle : w.operation ≡ None) where
    abbrev both : View
    both = hears v w

    its : Knows plan h.owners s.words tree_state h.log other w
    its = h.views other w (sym (set_else s.views id other both apart) ∙ there)

    both_knows : Knows plan h.owners s.words tree_state h.log id both
    both_knows =
        let was = h.views id v at in
        record {
          same_plan = was.same_plan;
          operation = was.operation;
          bounded = was.bounded;
          reads = was.reads;
          appends = was.appends;
          rows = was.rows;
          numbers = was.numbers;
          for_call = was.for_call;
          spare = was.spare;
          share = was.share;
          saw = was.saw;
          heard = its.heard;
          in_role = told_in_role plan h.owners h.log id v w.told v.role was.in_role;
          placed = λ common is. let p = was.placed common is in record { in_range = p.in_range; own = p.own; word = p.word; busy = p.busy };
          places_left = was.places_left;
          nothing = was.nothing;
        }

    abbrev taken : List View
    taken = set (set s.views id both) other (spent plan)

    taken_know : (seat : ℕ) (u : View) → get_elem? taken seat ≡ some u → Knows plan h.owners s.words tree_state h.log seat u
    taken_know = views_stay (Knows plan h.owners s.words tree_state h.log) (set s.views id both) other (spent plan) (told_knows other [] (its.operation ∙ idle) (h.log, refl))
        (λ seat u not_spent at_seat. ⊎_elim
        (λ (t : (seat ≡ id) × (both ≡ u)). subst (λ (x : ℕ × View). Knows plan h.owners s.words tree_state h.log x.0 x.1) (λ i. (sym t.0 i, t.1 i)) both_knows)
        (λ (t : (seat ≢ id) × (get_elem? s.views seat ≡ some u)). h.views seat u t.1)
        (at_set s.views id seat both u at_seat))

    heard : IsTableAt plan record { words = s.words; homes = s.homes; views = taken } tree_state
    heard = owners_change plan s tree_state h h.owners taken (record { rows = λ row is. is; fixed = refl; named_by = refl }) (λ number seat holds. refl) taken_know
        (let one : length (set s.views id both) ≡ length s.views = length-set s.views id both in
        let two : length taken ≡ length (set s.views id both) = length-set (set s.views id both) other (spent plan) in
        omega (arith, one, two)) h.nobodys h.pool
        (λ common. accounts_stay plan h.owners.place h.log (set s.views id both) other w (spent plan) there (accounts_stay plan h.owners.place h.log s.views id v both at (h.accounted common) refl ((h.accounted common).saw_own id v at)) (no_accounts w its_role) (λ is. absurd (cc)))
        (λ common. reuse_without plan h.owners.row s.words (set s.views id both) other w (spent plan) there
        (reuse_stays plan h.owners.row s.words s.views id v both at (h.reuse common) h.owners.row s.words (λ row is. is) (λ seat r later is apart. is) (λ n few. refl) refl (hand_stays h.owners.row id v both refl refl) (same_reads plan h.owners.row s.words s.views id v both at (h.reuse common) refl refl refl refl refl))
        h.owners.row s.words (λ row is. is) (λ seat r later is apart. is) (λ n few. refl) refl refl refl)
        (counted_stays (set s.views id both) other w (spent plan) there (sym its_role) (sym its.same_plan) (counted_stays s.views id v both at refl refl h.counted))

pub note_keeps_table : (plan : Plan) (id : ℕ) (v : View) → 1 ≤ plan.counts.numbers → Splits (IsTable plan) id v v (note_of v)
note_keeps_table plan id v some_number s table at = subst (λ (views : List View). IsTable plan record { words = s.words; homes = s.homes; views = views ++ note_of v ∷ [] }) (sym (set_again s.views id v at))
    (table.0, recorded plan some_number s table.0 table.1 id v at)

pub hearing_keeps_table : (plan : Plan) (id other : ℕ) (v w : View) → 1 ≤ plan.counts.numbers → w.role ≡ Spent → w.operation ≡ None → Joins (IsTable plan) id v other w (hears v w) (spent plan)
hearing_keeps_table plan id other v w some_number its_role idle s table at apart there = (table.0, heard plan some_number s table.0 table.1 id other v w at apart there its_role idle)
