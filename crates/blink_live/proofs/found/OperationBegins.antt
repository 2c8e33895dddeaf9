-- The load of the prime block's page word is the first step of an operation.
use Rattle.std.proofs.Common.{◌≡◌, ℕ, suc, ◌+◌, ◌≤◌, Some, None, List, [], ◌++◌, length, refl, sym, ap, ◌∙◌, subst, inl, ⊎_elim, ◌⊎◌, ◌≢◌, ◌<◌, arith}
use mathlib.Core.Option.{some}
use lib.ListN.{get_elem?}
use mathlib.Core.List.{append-nil}
use Rattle.atomic_table.specs.Table.{State, step, keeps, Allows}
use mathlib.Core.Option.{none}
use Rattle.blink_batch.specs.{FitsWords}
use Rattle.blink_batch.specs.declared.Op.{Op}
use Rattle.blink_page.specs.declared.limits.TheConstants.{MAX_PAGE}
use Rattle.blink_rows.specs.{PlainCounts, prime_words}
use Rattle.blink_machine.specs.declared.machine.State.{State as MachineState}
use Rattle.blink_machine.specs.declared.machine.State.TheVariants.{Start, Posting, Ended}
use Rattle.blink_machine.specs.declared.step.Step.TheVariants.{Moved}
use Rattle.blink_machine.specs.declared.step.Kind.TheVariants as kind
use Rattle.blink_machine.specs.{ReadsPrimeWell, PlainMachine, NeedsPrime, fresh, goes_on, Steps, reads_prime, IsItsOperation, taken_on, descent_bound, SeesPrime}
use Rattle.blink_machine.specs.TreeState.{TreeState}
use Rattle.blink_machine.proofs.Offered.{step_law}
use Rattle.blink_live.specs.declared.view.Plan.{Plan}
use Rattle.blink_live.specs.declared.view.Role.TheVariants.{Pass, Keeper}
use Rattle.blink_live.specs.declared.view.View.{View}
use Rattle.blink_live.specs.AtomicSteps.{begins}
use Rattle.blink_live.specs.Reuse.{IsAtHand}
use Rattle.blink_live.specs.Rule.{ReadsRow, IsInRole, IsBoundedWay, Knows, IsTable, IsTableAt}
use Rattle.blink_live.specs.Views.{pages_of, rows_taken, IsCommon, SeatState, CanBegin, for_call, reading, span}
use Rattle.blink_live.specs.Words.{RowBegins, named_row}
use Rattle.blink_live.proofs.reuse.ReuseStaysSafe.{reads_named, reuse_stays}
use Rattle.blink_live.proofs.table.AccountsStay.{account, still_saw}
use Rattle.blink_live.proofs.table.LoadsKeepTable.{moved, load_keeps_with}
use Rattle.blink_live.proofs.table.SharesAreKnown.{share_is_known}
use Rattle.blink_live.proofs.table.MapsWithOneChange.{put_here, put_else}
use Rattle.blink_live.proofs.table.NextPageIsThere.{next_page_is_there}
use Rattle.blink_live.proofs.table.SparesOfSeats.{spare_beside}

-- an operation that goes on is that one
pub goes_on_as : (m : PlainMachine) (state : MachineState) (other : PlainMachine) → goes_on m state ≡ Some other → m ≡ other
goes_on_as m Ended other is = absurd (cc)
goes_on_as m state other is = cc

-- what comes of a prime block that is read at the begin
pub record SeesFirst (m : PlainMachine) (prime : List ℕ) : Type 0 where
  pub after : PlainMachine
  pub sees : SeesPrime m prime after
  pub only : (other : PlainMachine) → SeesPrime m prime other → other ≡ after

sees_first : (m : PlainMachine) (prime : List ℕ) → m.state ≡ Start → ReadsPrimeWell m prime → SeesFirst m prime
sees_first m prime start (ReadsPrimeWell.waits waits never) = absurd (let posts : m.state ≡ Posting = waits.posting in cc)
sees_first m prime start (ReadsPrimeWell.goes_on after sees only goes) = record { after = after; sees = sees; only = only }

module _ (tree_state : TreeState) (worker : ℕ) (m after : PlainMachine) where
  pub prime_step : NeedsPrime m → SeesPrime m tree_state.prime after → Steps tree_state worker m (Moved kind.ReadPrime) after (moved tree_state worker (goes_on after after.state))
  prime_step needs sees = reads_prime needs sees refl
      (record { same_fan = refl; same_prime = refl; same_pages = refl; same_holder = refl })
      (record { own = put_here tree_state.machines worker (goes_on after after.state); others = λ other ne. put_else tree_state.machines worker other (goes_on after after.state) ne })

module _ (plan : Plan) (s : State ℕ View) (tree_state : TreeState) (h : IsTableAt plan s tree_state) (id : ℕ) (v : View) (after : PlainMachine) (row way : ℕ) (content : List ℕ) (at : get_elem? s.views id ≡ some v) (role : v.role ≡ Pass) where
  -- the seat of an operation that begins
  begin_knows : (op : Op) → CanBegin v op → IsBoundedWay tree_state (reading (for_call v op) after way row content [] h.log) → ReadsRow plan h.owners s.words (Some (row, content)) []
      → Knows plan h.owners s.words (moved tree_state id (goes_on after after.state)) h.log id (reading (for_call v op) after way row content [] h.log)
  begin_knows op can bounded reads =
      let known = h.views id v at in
      let w : View = reading (for_call v op) after way row content [] h.log in
      let low_row = known.rows.in_range.0 in
      let high_row = known.rows.in_range.1 in
      let low_page = known.numbers.in_range.0 in
      let high_page = known.numbers.in_range.1 in
      let enough_rows = can.rows in
      let enough_pages = can.pages in
      let kept = subst (IsInRole plan h.owners h.log id v) role known.in_role in record {
        same_plan = known.same_plan;
        operation = put_here tree_state.machines id (goes_on after after.state);
        bounded = bounded;
        reads = (reads, known.reads.1);
        appends = tt;
        rows = record {
          in_range = (omega (arith, low_row), high_row);
          own = λ r low high. known.rows.own r (omega (arith, low)) high;
        };
        numbers = record {
          in_range = (omega (arith, low_page), high_page);
          own = λ number low high. known.numbers.own number (omega (arith, low)) high;
          free = λ number low high. known.numbers.free number (omega (arith, low)) high;
        };
        for_call = record {
          before = (omega arith, omega arith);
          first_own = λ some. (low_row, known.rows.own v.rows.next (omega arith) (omega (arith, some, enough_rows)));
          staged = λ some i inside few. absurd (omega (arith, few));
          others = record {
            in_range = (omega arith, omega (arith, high_row, enough_rows));
            own = λ r low high. known.rows.own r (omega (arith, low)) (omega (arith, high, enough_rows));
          };
          numbers = record {
            in_range = (low_page, omega (arith, high_page, enough_pages));
            own = λ number low high. known.numbers.own number low (omega (arith, high, enough_pages));
            free = λ number low high. known.numbers.free number low (omega (arith, high, enough_pages));
          };
        };
        spare = let low = known.spare.before in spare_beside plan h.owners h.owners tree_state (moved tree_state id (goes_on after after.state)) (suc id) v.stock.spare v.pages.next v.call.pages known.spare (v.pages.next + pages_of op) (span v.pages.next (v.pages.next + pages_of op)) (omega arith)
            (λ n within within_call. absurd (let ends = low (omega (arith, within)) in omega (arith, ends, within, within_call))) (λ n within own. own) (λ n within own none. none);
        share = known.share;
        saw = ([], append-nil h.log);
        heard = known.heard;
        in_role = subst (IsInRole plan h.owners h.log id w) (sym role) kept;
        placed = λ common is. let p = known.placed common is in record { in_range = p.in_range; own = p.own; word = p.word; busy = λ m goes. let marked = can.announced (subst IsCommon (sym known.same_plan) common) in omega (arith, marked) };
        places_left = λ dealt back is. absurd (let e : Pass ≡ Keeper dealt back = sym role ∙ is in cc);
        nothing = λ common dealt back is. absurd (let e : Pass ≡ Keeper dealt back = sym role ∙ is in cc);
      }

-- the call's rows were the seat's
call_of_rows : (plan : Plan) (s : State ℕ View) (tree_state : TreeState) (h : IsTableAt plan s tree_state) (id : ℕ) (v : View) (op : Op) → get_elem? s.views id ≡ some v → CanBegin v op
    → (row : ℕ) → IsAtHand (for_call v op) row → IsAtHand v row ⊎ (h.owners.row row ≢ suc id)
call_of_rows plan s tree_state h id v op at can row = λ hand.
    let enough = can.rows in
    ⊎_elim (λ (t : (v.rows.next + rows_taken op v.rows ≤ row) × (row < v.rows.stop)). inl (inl (omega (arith, t), t.1)))
    (λ (t : (v.rows.next ≤ row) × (row < v.rows.next + rows_taken op v.rows)). inl (inl (t.0, omega (arith, t, enough)))) hand

-- nothing stands behind a prime block
pub alone : (counts : PlainCounts) (words : List ℕ) (row fixed : ℕ) (content : List ℕ) → RowBegins counts words row content → fixed ≡ length content → RowBegins counts words row (content ++ []) × (length (content ++ []) ≤ fixed)
alone counts words row fixed content is all = (subst (RowBegins counts words row) (sym (append-nil content)) is, (let same = ap (λ (ws : List ℕ). length ws) (append-nil content) in omega (arith, same, all)))

pub begins_operation : (plan : Plan) (slots id : ℕ) (me : SeatState) (op : Op) → me.0.role ≡ Pass → me.0.operation ≡ None → FitsWords op → CanBegin me.0 op → 1 ≤ plan.counts.numbers
    → Allows (IsTable plan) slots id me 0 (λ k. k) (begins op (step slots 0 0 0 none) me)
begins_operation plan slots id me op role idle fits enough some_number s table homes at small =
    let tree_state : TreeState = table.0 in
    let h : IsTableAt plan s tree_state = table.1 in
    let known = h.views id me.0 at in
    let m : PlainMachine = fresh me.0.plan.fan op in
    let none_yet : tree_state.machines id ≡ None = known.operation ∙ idle in
    let same_fan : me.0.plan.fan ≡ tree_state.fan = ap (λ (p : Plan). p.fan) known.same_plan ∙ sym h.same_fan in
    let its : IsItsOperation tree_state id m = taken_on op none_yet (ap (λ fan. fresh fan op) same_fan) in
    let order = step_law.invariant_gives_order tree_state h.invariant in
    let first : SeesFirst m tree_state.prime = sees_first m tree_state.prime refl (order.reads_prime id m its refl) in
    let after : PlainMachine = first.after in
    let way : ℕ = descent_bound tree_state.pages after in
    let row : ℕ = named_row s.words 0 in
    let w : View = reading (for_call me.0 op) after way row (prime_words tree_state.prime) [] h.log in
    let invariant = step_law.step_keeps_invariant tree_state (moved tree_state id (goes_on after after.state)) id m after (Moved kind.ReadPrime) h.invariant fits its
    (prime_step tree_state id m after refl first.sees) in (
      w,
      keeps,
      tt,
      load_keeps_with plan s tree_state h id 0 me.0 w at invariant refl refl refl
          (λ common role. still_saw plan h.owners.place h.log s.views id me.0 w at (h.accounted common) (account plan h.owners.place h.log s.views id me.0 w at (h.accounted common) role) h.log known.saw ([], append-nil h.log) role)
          (λ common. reuse_stays plan h.owners.row s.words s.views id me.0 w at (h.reuse common) h.owners.row s.words (λ other is. is) (λ seat r later is apart. is) (λ n few. refl) refl (call_of_rows plan s tree_state h id me.0 op at enough)
          (reads_named plan s.words me.0 w 0 row (prime_words tree_state.prime) refl refl refl refl role (enough.announced (subst IsCommon (sym known.same_plan) common)) (omega (arith, some_number)) refl))
          (begin_knows plan s tree_state h id me.0 after row way (prime_words tree_state.prime) at role op enough (λ other is. ap (descent_bound tree_state.pages) (sym (goes_on_as after after.state other is))) (let stands = alone plan.counts s.words row (h.owners.fixed row) (prime_words tree_state.prime) h.prime.begins h.prime.fixed in (h.prime.published, stands.0, stands.1))),
      (
        after,
        record {
          prime = tree_state.prime;
          way = way;
          seen = h.log;
          is = refl;
          learns = record { saw = known.saw; heard = known.heard };
          row_in_range = subst (λ (p : Plan). (1 ≤ row) × (row ≤ p.counts.rows)) (sym known.same_plan) h.prime.published.0;
          some_level = order.tree.1.tree.chains.some_level;
          few_levels = order.few_levels;
          page_numbers = h.prime_numbers;
          sees = first.sees;
          only = first.only;
          rows_in_range = subst (λ (p : Plan). (1 ≤ me.0.rows.next) × (me.0.rows.stop ≤ p.counts.rows + 1)) (sym known.same_plan) known.rows.in_range;
          knows_own = share_is_known plan h.owners (suc id) w known.same_plan known.share;
          announced = enough.announced;
          pages_in_range = subst (λ (p : Plan). (1 ≤ me.0.pages.next) × (me.0.pages.stop ≤ p.counts.numbers) × (p.counts.numbers ≤ MAX_PAGE + 1)) (sym known.same_plan) (known.numbers.in_range.0, known.numbers.in_range.1, h.bounded.numbers_bounded);
          next = next_page_is_there plan (moved tree_state id (goes_on after after.state)) (record { no_page = h.no_other_page; no_latch = h.no_other_latch }) me.0.plan id after known.same_plan invariant (put_here tree_state.machines id (goes_on after after.state));
        },
      ),
    )
