-- What a call hasn't used is its pass's again: that is no step of the tree, and keeps the rule.
use Rattle.std.proofs.Common.{◌≡◌, ℕ, suc, ◌<◌, ◌≤◌, get_or, set, refl, sym, ap, ◌∙◌, subst, inl, inr, ⊎_elim, ◌⊎◌, ◌≢◌, arith}
use mathlib.Core.Option.{some, none}
use mathlib.Core.Logic.{dite}
use native.Mathlib.Decide.{ℕ_discrete, dec_le}
use lib.ListN.{get_elem?}
use Rattle.atomic_table.specs.Table.{State, step, keeps, Allows}
use Rattle.blink_machine.specs.TreeState.{TreeState}
use Rattle.blink_machine.proofs.Offered.{step_law}
use Rattle.blink_live.specs.declared.view.Plan.{Plan}
use Rattle.blink_live.specs.declared.view.Role.TheVariants.{Keeper, Pass}
use Rattle.blink_live.specs.declared.view.View.{View}
use Rattle.blink_live.specs.GivingBack.{CanGiveBack, gives_back, giving_back}
use Rattle.blink_live.specs.Reuse.{IsAtHand}
use Rattle.blink_live.specs.Rule.{HasRows, HasNumbers, HasSpare, IsInRole, Knows, IsTable, IsTableAt}
use Rattle.blink_live.specs.Views.{SeatState, span}
use Rattle.blink_live.proofs.table.CallsOfSeats.{nothing_for_call}
use Rattle.blink_live.proofs.reuse.ReuseStaysSafe.{reuse_stays, same_reads}
use Rattle.blink_live.proofs.table.LoadsKeepTable.{moved, load_keeps_with}
use Rattle.blink_live.proofs.table.MapsWithOneChange.{put_here, put_same}
use Rattle.blink_live.proofs.table.SparesOfSeats.{spare_still}

module _ (plan : Plan) (some_number : 1 ≤ plan.counts.numbers) (s : State ℕ View) (tree_state : TreeState) (h : IsTableAt plan s tree_state) (id : ℕ) (v : View) (at : get_elem? s.views id ≡ some v) (role : v.role ≡ Pass) (can : CanGiveBack v) where
  known : Knows plan h.owners s.words tree_state h.log id v
  known = h.views id v at

  abbrev then : TreeState
  then = moved tree_state id v.operation

  -- the rows of the call, its first among them, and then those of the pass
  of_row : (row : ℕ) → v.call.rows.next ≤ row → row < v.rows.stop → h.owners.row row ≡ suc id
  of_row row low high = dite (dec_le v.rows.next row)
      (λ later. known.rows.own row later high)
      (λ earlier.
      let ends = can.rows in
      dite (ℕ_discrete row v.call.rows.next)
      (λ e. ap h.owners.row e ∙ (known.for_call.first_own (omega (arith, e, earlier, ends))).1)
      (λ ne. known.for_call.others.own row (omega (arith, low, ne)) (omega (arith, earlier, ends))))

  some_row : 1 ≤ v.call.rows.next
  some_row = dite (dec_le v.call.rows.stop v.call.rows.next)
      (λ none. let ends = can.rows in let low = known.rows.in_range.0 in omega (arith, none, ends, low))
      (λ more. (known.for_call.first_own (omega (arith, more))).0)

  back_rows : HasRows plan h.owners (suc id) (span v.call.rows.next v.rows.stop)
  back_rows = record {
    in_range = (some_row, known.rows.in_range.1);
    own = of_row;
  }

  back_numbers : HasNumbers plan h.owners then (suc id) (span v.call.pages.next v.pages.stop)
  back_numbers =
      let ends = can.pages in
      let of_call = known.for_call.numbers in record {
        in_range = (of_call.in_range.0, known.numbers.in_range.1);
        own = λ number low high. dite (dec_le v.pages.next number) (λ later. known.numbers.own number later high) (λ earlier. of_call.own number low (omega (arith, earlier, ends)));
        free = λ number low high. dite (dec_le v.pages.next number) (λ later. known.numbers.free number later high) (λ earlier. of_call.free number low (omega (arith, earlier, ends)));
      }

  -- the spare numbers stand before those of the call
  back_spare : HasSpare plan h.owners then (suc id) v.stock.spare v.call.pages.next (span 1 1)
  back_spare =
      let ends = can.pages in
      let was = known.spare in
      let still = spare_still plan h.owners h.owners tree_state then (suc id) v.stock.spare v.pages.next v.call.pages was (λ n own. own) (λ n none. none) in record {
        numbers = still.numbers;
        sessions = still.sessions;
        before = λ some. dite (dec_le v.stock.spare.stop v.call.pages.next) (λ before. before) (λ after.
            let low = was.before some in
            dite (dec_le v.call.pages.next v.stock.spare.next)
            (λ inside. absurd (was.apart v.stock.spare.next (omega arith, some) (inside, omega (arith, some, low, ends))))
            (λ across. absurd (was.apart v.call.pages.next (omega (arith, across), omega (arith, after)) (omega arith, omega (arith, after, low, ends)))));
        apart = λ number within within_call. absurd (omega (arith, within_call));
      }

  knows : Knows plan h.owners s.words then h.log id (gives_back v)
  knows = record {
    same_plan = known.same_plan;
    operation = put_here tree_state.machines id v.operation;
    bounded = known.bounded;
    reads = known.reads;
    appends = known.appends;
    rows = back_rows;
    numbers = back_numbers;
    for_call = nothing_for_call plan h.owners s.words then (suc id) v.call.rows.next v.call.pages.next some_row known.for_call.numbers.in_range.0 some_number;
    spare = back_spare;
    share = known.share;
    saw = known.saw;
    heard = known.heard;
    in_role =
        let kept = subst (IsInRole plan h.owners h.log id v) role known.in_role in
        subst (IsInRole plan h.owners h.log id (gives_back v)) (sym role) kept;
    placed = λ common is. let p = known.placed common is in record { in_range = p.in_range; own = p.own; word = p.word; busy = p.busy };
    places_left = λ dealt back is. absurd (let e : Pass ≡ Keeper dealt back = sym role ∙ is in cc);
    nothing = λ common dealt back is. absurd (let e : Pass ≡ Keeper dealt back = sym role ∙ is in cc);
  }

  -- all of it was at hand
  hand_before : (row : ℕ) → IsAtHand (gives_back v) row → IsAtHand v row ⊎ (h.owners.row row ≢ suc id)
  hand_before row hand =
      let ends = can.rows in
      ⊎_elim (λ (t : (v.call.rows.next ≤ row) × (row < v.rows.stop)). dite (dec_le v.rows.next row) (λ later. inl (inl (later, t.1))) (λ earlier. inl (inr (t.0, omega (arith, earlier, ends)))))
      (λ (t : (1 ≤ row) × (row < 1)). absurd (omega (arith, t))) hand

  pub back_keeps : IsTable plan record { words = set s.words 0 (get_or s.words 0 0); homes = s.homes; views = set s.views id (gives_back v) }
  back_keeps =
      let still = step_law.idle_workers_dont_matter tree_state then (record {
        same_fan = refl;
        same_prime = refl;
        same_pages = λ number. refl;
        same_holder = λ number. refl;
        same_machines = put_same tree_state.machines id v.operation known.operation;
      }) h.invariant in
      load_keeps_with plan s tree_state h id 0 v (gives_back v) at still refl refl refl (λ common. (h.accounted common).saw_own id v at)
      (λ common. reuse_stays plan h.owners.row s.words s.views id v (gives_back v) at (h.reuse common) h.owners.row s.words (λ row is. is) (λ seat r later is apart. is) (λ n few. refl) refl hand_before (same_reads plan h.owners.row s.words s.views id v (gives_back v) at (h.reuse common) refl refl refl refl refl)) knows

pub room_comes_back : (plan : Plan) (slots id : ℕ) (me : SeatState) → 1 ≤ plan.counts.numbers → me.0.role ≡ Pass → CanGiveBack me.0
    → Allows (IsTable plan) slots id me 0 (λ k. k) (giving_back (step slots 0 0 0 none) me)
room_comes_back plan slots id me some_number role can s table homes at small =
    (gives_back me.0, keeps, tt, back_keeps plan some_number s table.0 table.1 id me.0 at role can, refl)
