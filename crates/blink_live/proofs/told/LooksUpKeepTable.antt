-- A load of the prime block's page word by a pass that was told what another has seen is no step of the tree, and keeps the rule.
use Rattle.std.proofs.Common.{◌≡◌, ◌+◌, ℕ, suc, Option, List, [], get_or, set, refl, sym, subst, arith}
use mathlib.Core.Option.{some, none}
use mathlib.Core.List.{IsPrefix, append-nil}
use lib.ListN.{get_elem?}
use Rattle.atomic_table.specs.Table.{State, step, keeps, Allows}
use Rattle.blink_machine.specs.TreeState.{TreeState}
use Rattle.blink_machine.proofs.Offered.{step_law}
use Rattle.blink_live.specs.declared.view.Change.{Change}
use Rattle.blink_live.specs.declared.view.Plan.{Plan}
use Rattle.blink_live.specs.declared.view.Role.TheVariants.{Keeper, Pass}
use Rattle.blink_live.specs.declared.view.View.{View}
use Rattle.blink_live.specs.AtomicSteps.{looks_around, looks_back, looks_up}
use Rattle.blink_live.specs.Changes.{states_of}
use Rattle.blink_live.specs.Rule.{Owners, IsInRole, Knows, passes_in, IsTable, IsTableAt}
use Rattle.blink_live.specs.Views.{IsCommon, IsOwned, SeatState, forgets_told, learns_of_others}
use Rattle.blink_live.proofs.reuse.ReuseStaysSafe.{hand_stays, reuse_stays, same_reads}
use Rattle.blink_live.proofs.table.AccountsStay.{account, still_saw}
use Rattle.blink_live.proofs.table.LoadsKeepTable.{moved, load_knows_in, load_keeps_with}
use Rattle.blink_live.proofs.table.MapsWithOneChange.{put_same}
use Rattle.blink_live.proofs.table.SharesAreKnown.{share_is_known}
use Rattle.blink_live.proofs.table.KeepersCount.{keeper_counts}
use Rattle.blink_live.proofs.told.NotesKeepTable.{told_in_role}
use Rattle.blink_live.proofs.told.OwnersAreSeen.{knows_what_it_saw, prefix_shows_no_more}
use Rattle.blink_live.proofs.told.StatesOfKeys.{states_of-prefix}

-- a seat may know no more what it was told
forgets : (plan : Plan) (owners : Owners) (words : List ℕ) (tree_state : TreeState) (log : List Change) (id : ℕ) (v : View) → Knows plan owners words tree_state log id v → Knows plan owners words tree_state log id (forgets_told v)
forgets plan owners words tree_state log id v known = record {
  same_plan = known.same_plan;
  operation = known.operation;
  bounded = known.bounded;
  reads = known.reads;
  appends = known.appends;
  rows = known.rows;
  numbers = known.numbers;
  for_call = known.for_call;
  spare = known.spare;
  share = known.share;
  saw = known.saw;
  heard = (log, refl);
  in_role = told_in_role plan owners log id v [] v.role known.in_role;
  placed = λ common role. let p = known.placed common role in record { in_range = p.in_range; own = p.own; word = p.word; busy = p.busy };
  places_left = known.places_left;
  nothing = known.nothing;
}

-- and may have seen any prefix of the changes that agrees with its role
looks : (plan : Plan) (s : State ℕ View) (tree_state : TreeState) (h : IsTableAt plan s tree_state) (id : ℕ) (v : View) → get_elem? s.views id ≡ some v → (seen : List Change) → IsPrefix seen h.log → IsPrefix v.seen seen
    → IsInRole plan h.owners h.log id (record v { seen = seen }) v.role
    → IsTable plan record { words = set s.words 0 (get_or s.words 0 0); homes = s.homes; views = set s.views id (learns_of_others v seen) }
looks plan s tree_state h id v at seen saw more in_role =
    let known = h.views id v at in
    let still = step_law.idle_workers_dont_matter tree_state (moved tree_state id v.operation) (record {
      same_fan = refl;
      same_prime = refl;
      same_pages = λ number. refl;
      same_holder = λ number. refl;
      same_machines = put_same tree_state.machines id v.operation known.operation;
    }) h.invariant in
    load_keeps_with plan s tree_state h id 0 v (learns_of_others v seen) at still refl refl refl
    (λ common role. still_saw plan h.owners.place h.log s.views id v (learns_of_others v seen) at (h.accounted common) (account plan h.owners.place h.log s.views id v (learns_of_others v seen) at (h.accounted common) role) seen more saw role)
    (λ common. reuse_stays plan h.owners.row s.words s.views id v (learns_of_others v seen) at (h.reuse common) h.owners.row s.words (λ row is. is) (λ seat r later is apart. is) (λ n few. refl) refl (hand_stays h.owners.row id v (learns_of_others v seen) refl refl) (same_reads plan h.owners.row s.words s.views id v (learns_of_others v seen) at (h.reuse common) refl refl refl refl refl))
    (forgets plan h.owners s.words (moved tree_state id v.operation) h.log id (record v { seen = seen }) (load_knows_in plan s tree_state h id 0 v (record v { seen = seen }) at in_role (λ common role m goes. (known.placed common role).busy m goes) refl known.bounded known.reads.0 known.appends saw))

-- a pass's role says nothing of what it has seen
pass_in_role : (plan : Plan) (owners : Owners) (log : List Change) (id : ℕ) (v : View) (seen : List Change) → v.role ≡ Pass → IsInRole plan owners log id v v.role → IsInRole plan owners log id (record v { seen = seen }) v.role
pass_in_role plan owners log id v seen role is =
    let kept = subst (IsInRole plan owners log id v) role is in
    subst (IsInRole plan owners log id (record v { seen = seen })) (sym role) kept

-- it sees all that became so
pub looks_up_prime : (plan : Plan) (slots id : ℕ) (me : SeatState) → me.0.role ≡ Pass → Allows (IsTable plan) slots id me 0 (λ k. k) (looks_up (step slots 0 0 0 none) me)
looks_up_prime plan slots id me role s table homes at small =
    let h : IsTableAt plan s table.0 = table.1 in
    let known = h.views id me.0 at in (
      learns_of_others me.0 h.log,
      keeps,
      tt,
      looks plan s table.0 h id me.0 at h.log ([], append-nil h.log) known.saw (pass_in_role plan h.owners h.log id me.0 h.log role known.in_role),
      record { seen = h.log; is = refl; learns = record { saw = known.saw; heard = known.heard }; knows_own = share_is_known plan h.owners (suc id) (learns_of_others me.0 h.log) known.same_plan known.share },
    )

-- so does the host of a common table
pub host_looks_up_prime : (plan : Plan) (slots id : ℕ) (me : SeatState) (dealt back : ℕ) → me.0.role ≡ Keeper dealt back → IsCommon me.0.plan → Allows (IsTable plan) slots id me 0 (λ k. k) (looks_up (step slots 0 0 0 none) me)
host_looks_up_prime plan slots id me dealt back role common s table homes at small =
    let h : IsTableAt plan s table.0 = table.1 in
    let known = h.views id me.0 at in
    let kept : IsInRole plan h.owners h.log id me.0 (Keeper dealt back) = subst (IsInRole plan h.owners h.log id me.0) role known.in_role in
    let then : IsInRole plan h.owners h.log id (record me.0 { seen = h.log }) (Keeper dealt back) =
    (kept.0, kept.1, (λ key untaken. let free = kept.2 key untaken in record { own = free.own; saw_all = λ owned. absurd (omega (arith, owned, common)) }), kept.3) in (
      learns_of_others me.0 h.log,
      keeps,
      tt,
      looks plan s table.0 h id me.0 at h.log ([], append-nil h.log) known.saw (subst (IsInRole plan h.owners h.log id (record me.0 { seen = h.log })) (sym role) then),
      record { seen = h.log; is = refl; learns = record { saw = known.saw; heard = known.heard }; knows_own = share_is_known plan h.owners (suc id) (learns_of_others me.0 h.log) known.same_plan known.share },
    )

-- or it sees no more; nobody was told more of its keys than it has made of them
pub looks_back_at_prime : (plan : Plan) (slots id : ℕ) (me : SeatState) → me.0.role ≡ Pass → Allows (IsTable plan) slots id me 0 (λ k. k) (looks_back (step slots 0 0 0 none) me)
looks_back_at_prime plan slots id me role s table homes at small =
    let h : IsTableAt plan s table.0 = table.1 in
    let known = h.views id me.0 at in (
      forgets_told me.0,
      keeps,
      tt,
      looks plan s table.0 h id me.0 at me.0.seen known.saw ([], append-nil me.0.seen) known.in_role,
      record {
        is = refl;
        no_more = prefix_shows_no_more plan h.owners h.log (suc id) me.0.share me.0.told known.share known.heard;
        knows_own = knows_what_it_saw plan h.owners h.log (suc id) (forgets_told me.0) known.same_plan known.share;
      },
    )

-- nor was the keeper told more of the keys that it can deal than it has seen; and each pass that is back was dealt
pub looks_around_at_prime : (plan : Plan) (slots id : ℕ) (me : SeatState) (dealt back : ℕ) → me.0.role ≡ Keeper dealt back → IsOwned me.0.plan → Allows (IsTable plan) slots id me 0 (λ k. k) (looks_around (step slots 0 0 0 none) me)
looks_around_at_prime plan slots id me dealt back role owned s table homes at small =
    let h : IsTableAt plan s table.0 = table.1 in
    let known = h.views id me.0 at in
    let kept : IsInRole plan h.owners h.log id me.0 (Keeper dealt back) = subst (IsInRole plan h.owners h.log id me.0) role known.in_role in (
      forgets_told me.0,
      keeps,
      tt,
      looks plan s table.0 h id me.0 at me.0.seen known.saw ([], append-nil me.0.seen) known.in_role,
      record {
        is = refl;
        no_more = λ key untaken. subst (λ (states : List (Option ℕ)). IsPrefix (states_of key me.0.told) states) (sym ((kept.2 key untaken).saw_all owned)) (states_of-prefix key me.0.told h.log known.heard);
        counted = λ d b is. let count : passes_in s.views + b ≡ d = keeper_counts plan s table.0 h id me.0 d b at is owned in omega (arith, count);
      },
    )
