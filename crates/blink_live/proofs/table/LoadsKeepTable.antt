-- A load keeps the rule: the words stay, and one seat's operation takes a step of the tree that only reads.
use Rattle.std.proofs.Common.{◌≡◌, ◌≤◌, ℕ, suc, Option, List, length, get_or, set, refl, sym, ap, ◌∙◌, subst, length-set, arith, Some}
use mathlib.Core.Option.{some}
use mathlib.Core.List.{IsPrefix}
use lib.ListN.{get_elem?}
use lib.Seq.{set-get_or}
use Rattle.atomic_table.specs.Table.{State}
use Rattle.blink_machine.specs.{PlainMachine}
use Rattle.blink_machine.specs.TreeState.{TreeState}
use Rattle.blink_machine.specs.Invariant.{Invariant}
use Rattle.blink_live.specs.declared.view.Plan.{Plan}
use Rattle.blink_live.specs.declared.view.Role.TheVariants.{Pass}
use Rattle.blink_live.specs.declared.view.View.{View}
use Rattle.blink_live.specs.Changes.{put}
use Rattle.blink_live.specs.Accounts.{HasSeenItsOwn, accounts_of}
use Rattle.blink_live.specs.Reuse.{IsReuseSafe}
use Rattle.blink_live.specs.Rule.{IsAppending, ReadsRow, IsInRole, IsBoundedWay, Knows, IsTableAt, IsTable}
use Rattle.blink_live.specs.Views.{IsCommon, SameBesideReads}
use Rattle.blink_live.proofs.table.MapsWithOneChange.{put_here, put_else}
use Rattle.blink_live.proofs.reuse.ReuseStaysSafe.{MayReadOn, hand_stays, reuse_stays}
use Rattle.blink_live.proofs.table.AccountsStay.{account, accounts_stay, still_saw}
use Rattle.blink_live.proofs.table.SeatsThatStay.{at_inside, views_stay, counted_stays}
use Rattle.blink_live.proofs.table.CallsOfSeats.{call_still}
use Rattle.blink_live.proofs.table.SparesOfSeats.{spare_still}

-- the tree state where one worker has another operation, or none
abbrev pub moved : TreeState → ℕ → Option PlainMachine → TreeState
moved tree_state worker operation = record tree_state { machines = put tree_state.machines worker operation }

module _ (plan : Plan) (s : State ℕ View) (tree_state : TreeState) (h : IsTableAt plan s tree_state) (id word : ℕ) (v w : View) (at : get_elem? s.views id ≡ some v) where
  abbrev pub loaded : View
  loaded = record v { operation = w.operation; descent_bound = w.descent_bound; reads = w.reads; behind = w.behind; appends = w.appends; seen = w.seen }

  -- the seat knows what it knew, but for its operation, what it reads and what it has seen
  pub load_knows_in : IsInRole plan h.owners h.log id loaded v.role → (IsCommon plan → v.role ≡ Pass → (m : PlainMachine) → w.operation ≡ Some m → 1 ≤ v.busy) → SameBesideReads v w → IsBoundedWay tree_state w → ReadsRow plan h.owners s.words w.reads w.behind → IsAppending plan.counts h.owners.fixed tree_state.holder s.words id w.reads w.behind w.appends → IsPrefix w.seen h.log
      → Knows plan h.owners s.words (moved tree_state id w.operation) h.log id w
  load_knows_in in_role busy same bounded reads appends saw =
      let known = h.views id v at in
      let knows : Knows plan h.owners s.words (moved tree_state id w.operation) h.log id loaded = record {
        same_plan = known.same_plan;
        operation = put_here tree_state.machines id w.operation;
        bounded = bounded;
        reads = (reads, known.reads.1);
        appends = appends;
        rows = record { in_range = known.rows.in_range; own = known.rows.own };
        numbers = record { in_range = known.numbers.in_range; own = known.numbers.own; free = known.numbers.free };
        for_call = call_still plan h.owners h.owners s.words tree_state (moved tree_state id w.operation) (suc id) v.call v.rows.next v.pages.next v.rows.next v.pages.next known.for_call (omega arith, omega arith) (λ r below own. own)
            (λ n below own. own) (λ n none. none);
        spare = spare_still plan h.owners h.owners tree_state (moved tree_state id w.operation) (suc id) v.stock.spare v.pages.next v.call.pages known.spare (λ n own. own) (λ n none. none);
        share = known.share;
        saw = saw;
        heard = known.heard;
        in_role = in_role;
        placed = λ common is. let p = known.placed common is in record { in_range = p.in_range; own = p.own; word = p.word; busy = busy common is };
        places_left = known.places_left;
        nothing = known.nothing;
      } in
      subst (Knows plan h.owners s.words (moved tree_state id w.operation) h.log id) (sym same) knows

  pub load_keeps_with : Invariant (moved tree_state id w.operation) → w.role ≡ v.role → w.plan ≡ v.plan → accounts_of w ≡ accounts_of v → (IsCommon plan → w.role ≡ Pass → HasSeenItsOwn w) → (IsCommon plan → IsReuseSafe plan h.owners.row s.words (set s.views id w)) → Knows plan h.owners s.words (moved tree_state id w.operation) h.log id w
      → IsTable plan record { words = set s.words word (get_or s.words word 0); homes = s.homes; views = set s.views id w }
  load_keeps_with invariant same_role same_plan same_accounts saw_own reuse knows = subst (λ (words : List ℕ). IsTable plan record { words = words; homes = s.homes; views = set s.views id w }) (sym (set-get_or s.words word 0)) (
    moved tree_state id w.operation,
    record {
      owners = h.owners;
      log = h.log;
      now = h.now;
      same_fan = h.same_fan;
      invariant = invariant;
      prime_numbers = h.prime_numbers;
      bounded = h.bounded;
      width = h.width;
      prime = h.prime;
      pages = h.pages;
      named_by = h.named_by;
      no_other_page = h.no_other_page;
      no_other_latch = h.no_other_latch;
      latches = h.latches;
      holders = h.holders;
      is_map = record { ascending = h.is_map.ascending; kept = h.is_map.kept };
      kept = h.kept;
      nobodys = h.nobodys;
      pool = λ common. let pool = h.pool common in record { rows = pool.rows; pages = record { in_range = pool.pages.in_range; own = pool.pages.own; free = pool.pages.free } };
      accounted = λ common. accounts_stay plan h.owners.place h.log s.views id v w at (h.accounted common) same_accounts (saw_own common);
      reuse = reuse;
      views = views_stay (Knows plan h.owners s.words (moved tree_state id w.operation) h.log) s.views id w knows
          (λ j u other there. let known = h.views j u there in record {
            same_plan = known.same_plan;
            operation = put_else tree_state.machines id j w.operation other ∙ known.operation;
            bounded = known.bounded;
            reads = known.reads;
            appends = known.appends;
            rows = known.rows;
            numbers = record { in_range = known.numbers.in_range; own = known.numbers.own; free = known.numbers.free };
            for_call = call_still plan h.owners h.owners s.words tree_state (moved tree_state id w.operation) (suc j) u.call u.rows.next u.pages.next u.rows.next u.pages.next known.for_call (omega arith, omega arith) (λ r below own. own)
                (λ n below own. own) (λ n none. none);
            spare = spare_still plan h.owners h.owners tree_state (moved tree_state id w.operation) (suc j) u.stock.spare u.pages.next u.call.pages known.spare (λ n own. own) (λ n none. none);
            share = known.share;
            saw = known.saw;
            heard = known.heard;
            in_role = known.in_role;
            placed = known.placed;
            places_left = known.places_left;
            nothing = known.nothing;
          });
      others_idle = λ seat beyond.
          let inside = at_inside s.views id v at in
          let longer : length (set s.views id w) ≡ length s.views = length-set s.views id w in
          put_else tree_state.machines id seat w.operation (λ e. omega (arith, e, inside, longer, beyond)) ∙ h.others_idle seat (omega (arith, beyond, longer));
      counted = counted_stays s.views id v w at same_role same_plan h.counted;
    },
  )

module _ (plan : Plan) (s : State ℕ View) (tree_state : TreeState) (h : IsTableAt plan s tree_state) (id word : ℕ) (v w : View) (at : get_elem? s.views id ≡ some v) (role : v.role ≡ Pass) where
  pub load_knows : ((k : PlainMachine) × (v.operation ≡ Some k)) → SameBesideReads v w → IsBoundedWay tree_state w → ReadsRow plan h.owners s.words w.reads w.behind → IsAppending plan.counts h.owners.fixed tree_state.holder s.words id w.reads w.behind w.appends → IsPrefix w.seen h.log
      → Knows plan h.owners s.words (moved tree_state id w.operation) h.log id w
  load_knows under =
      let kept = subst (IsInRole plan h.owners h.log id v) role (h.views id v at).in_role in
      load_knows_in plan s tree_state h id word v w at (subst (IsInRole plan h.owners h.log id (loaded plan s tree_state h id word v w at)) (sym role) kept) (λ common is m goes. ((h.views id v at).placed common is).busy under.0 under.1)

  pub load_keeps : ((k : PlainMachine) × (v.operation ≡ Some k)) → Invariant (moved tree_state id w.operation) → SameBesideReads v w → IsBoundedWay tree_state w → ReadsRow plan h.owners s.words w.reads w.behind → IsAppending plan.counts h.owners.fixed tree_state.holder s.words id w.reads w.behind w.appends → IsPrefix w.seen h.log → IsPrefix v.seen w.seen
      → (IsCommon plan → MayReadOn plan s.words v w)
      → IsTable plan record { words = set s.words word (get_or s.words word 0); homes = s.homes; views = set s.views id w }
  load_keeps under invariant same bounded reads appends saw more may = load_keeps_with plan s tree_state h id word v w at invariant (ap (λ (x : View). x.role) same) (ap (λ (x : View). x.plan) same) (ap accounts_of same)
      (λ common is. subst HasSeenItsOwn (sym same) (still_saw plan h.owners.place h.log s.views id v w at (h.accounted common) (account plan h.owners.place h.log s.views id v w at (h.accounted common) role) w.seen more saw role))
      (λ common. reuse_stays plan h.owners.row s.words s.views id v w at (h.reuse common) h.owners.row s.words (λ row is. is) (λ seat r later is apart. is) (λ n few. refl) (ap (λ (x : View). x.stock) same)
      (hand_stays h.owners.row id v w (ap (λ (x : View). x.rows) same) (ap (λ (x : View). x.call.rows) same)) (may common)) (load_knows under same bounded reads appends saw)
