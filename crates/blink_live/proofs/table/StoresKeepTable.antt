-- A store to a page word or a latch word keeps the rule, where it is a step of the tree that leaves the prime block.
use Rattle.std.proofs.Common.{◌≡◌, ℕ, ◌+◌, ◌*◌, ◌<◌, ◌≤◌, Some, None, List, length, set, sym, ◌∙◌, subst, length-set, get_or-set_other, arith}
use Rattle.std.specs.Prelude.{All, slice_index}
use mathlib.Core.Option.{some}
use lib.ListN.{get_elem?}
use Rattle.atomic_table.specs.Table.{State}
use Rattle.blink_batch.specs.declared.Entry.{Entry}
use Rattle.blink_batch.specs.{pointer_of}
use Rattle.blink_rows.specs.{prime_words}
use Rattle.blink_machine.specs.TreeState.{TreeState}
use Rattle.blink_machine.specs.Invariant.{Invariant}
use Rattle.blink_machine.specs.{IsMapAt}
use Rattle.blink_live.specs.declared.view.Call.{Call}
use Rattle.blink_live.specs.declared.view.Change.{Change}
use Rattle.blink_live.specs.declared.view.Plan.{Plan}
use Rattle.blink_live.specs.declared.view.View.{View}
use Rattle.blink_live.specs.Changes.{after}
use Rattle.blink_live.specs.Accounts.{AreAccounts}
use Rattle.blink_live.specs.Reuse.{IsReuseSafe}
use Rattle.blink_live.specs.Rule.{AreNamedBy, Owners, Names, PageWordIs, latch_word, HasForCall, Knows, IsTableAt, IsTable}
use Rattle.blink_live.specs.Views.{IsCommon}
use Rattle.blink_live.specs.Words.{named_row}
use Rattle.blink_page.specs.{IsPageNumber}
use Rattle.blink_live.proofs.table.OthersKnowTheSame.{RowStays, row_begins_still, LeavesOthers, word_names_still, other_knows}
use Rattle.blink_live.proofs.table.SeatsThatStay.{at_inside, views_stay, counted_stays}

-- page words and latch words stand before the rows
pub row_stays : (plan : Plan) (words : List ℕ) (place x row : ℕ) → place < 2 * plan.counts.numbers → RowStays plan words (set words place x) row
row_stays plan words place x row before i inside = get_or-set_other words place _ x 0 (λ e. omega (arith, e, before))

-- so whoever stores there has the same rows
module _ (plan : Plan) (owners : Owners) (old new : List ℕ) (stays : (row : ℕ) → 1 ≤ row → row ≤ plan.counts.rows → RowStays plan old new row) where
  pub call_kept : (tree_state then : TreeState) (owner : ℕ) (call : Call) (row page : ℕ) → ((number : ℕ) → owners.page number ≡ owner → tree_state.pages number ≡ None → then.pages number ≡ None)
      → HasForCall plan owners old tree_state owner call row page → HasForCall plan owners new then owner call row page
  call_kept tree_state then owner call row page free has = record {
    before = has.before;
    first_own = has.first_own;
    staged = λ some_row. let most = has.others.in_range.1 in row_begins_still plan old new call.rows.next call.staged (stays call.rows.next (has.first_own some_row).0 (omega (arith, some_row, most))) (has.staged some_row);
    others = has.others;
    numbers = record { in_range = has.numbers.in_range; own = has.numbers.own; free = λ number low high. free number (has.numbers.own number low high) (has.numbers.free number low high) };
  }

-- the words and the tree after a step of the seat
pub record IsStored (plan : Plan) (s : State ℕ View) (tree_state then : TreeState) (h : IsTableAt plan s tree_state) (words : List ℕ) (new : Owners) (log : List Change) (now : List Entry) : Type 0 where
  pub same_fan : then.fan ≡ tree_state.fan
  pub invariant : Invariant then
  pub prime_numbers : All IsPageNumber then.prime
  pub prime : Names plan new words (slice_index words 0) (prime_words then.prime)
  pub pages : (number : ℕ) → 1 ≤ number → number < plan.counts.numbers → PageWordIs plan new words (slice_index words number) (then.pages number)
  pub named_by : AreNamedBy plan.counts new.named_by words
  pub no_other_page : (number : ℕ) → plan.counts.numbers ≤ number → then.pages number ≡ None
  pub no_other_latch : (number : ℕ) → plan.counts.numbers ≤ number → then.holder number ≡ None
  pub latches : (number : ℕ) → number < plan.counts.numbers → slice_index words (plan.counts.numbers + number) ≡ latch_word new (then.holder number)
  pub holders : (number seat : ℕ) → then.holder number ≡ Some seat → 1 ≤ new.latch_number seat
  pub is_map : IsMapAt then now
  pub kept : (key : ℕ) → pointer_of now key ≡ after (pointer_of plan.opening) log key

-- a prime block that no step of the seat changes
pub prime_still : (plan : Plan) (s : State ℕ View) (tree_state then : TreeState) (h : IsTableAt plan s tree_state) (id : ℕ) → 1 ≤ id → (words : List ℕ) (new : Owners) (log : List Change) → LeavesOthers plan s tree_state then h id words new log
    → slice_index words 0 ≡ slice_index s.words 0 → (h.owners.row (named_row s.words 0) ≡ 0 → new.fixed (named_row s.words 0) ≡ h.owners.fixed (named_row s.words 0)) → then.prime ≡ tree_state.prime → Names plan new words (slice_index words 0) (prime_words then.prime)
prime_still plan s tree_state then h id some_pass words new log leaves same_word same_fixed same_prime =
    subst (λ (t : ℕ × List ℕ). Names plan new words t.0 (prime_words t.1)) (λ i. (sym same_word i, sym same_prime i))
    (word_names_still plan s tree_state then h id some_pass words new log leaves (slice_index s.words 0) (prime_words tree_state.prime) same_fixed h.prime)

module _ (plan : Plan) (s : State ℕ View) (tree_state then : TreeState) (h : IsTableAt plan s tree_state) (id place x : ℕ) (some_pass : 1 ≤ id) (v w : View) (at : get_elem? s.views id ≡ some v) (new : Owners) (log : List Change) (now : List Entry) where
  pub store_keeps : LeavesOthers plan s tree_state then h id (set s.words place x) new log → IsStored plan s tree_state then h (set s.words place x) new log now → w.role ≡ v.role → w.plan ≡ v.plan → (IsCommon plan → AreAccounts plan new.place log (set s.views id w))
      → (IsCommon plan → IsReuseSafe plan new.row (set s.words place x) (set s.views id w))
      → Knows plan new (set s.words place x) then log id w → IsTable plan record { words = set s.words place x; homes = s.homes; views = set s.views id w }
  store_keeps leaves stored same_role same_plan accounted reuse knows =
      let words : List ℕ = set s.words place x in (
        then,
        record {
          owners = new;
          log = log;
          now = now;
          same_fan = stored.same_fan ∙ h.same_fan;
          invariant = stored.invariant;
          prime_numbers = stored.prime_numbers;
          bounded = h.bounded;
          width = length-set s.words place x ∙ h.width;
          prime = stored.prime;
          pages = stored.pages;
          named_by = stored.named_by;
          no_other_page = stored.no_other_page;
          no_other_latch = stored.no_other_latch;
          latches = stored.latches;
          holders = stored.holders;
          is_map = stored.is_map;
          kept = stored.kept;
          nobodys = leaves.nobodys;
          pool = leaves.pool;
          accounted = accounted;
          reuse = reuse;
          views = views_stay (Knows plan new words then log) s.views id w knows (λ j u other there. other_knows plan s tree_state then h id some_pass words new log leaves j u other there);
          others_idle = λ seat beyond.
              let inside = at_inside s.views id v at in
              let longer : length (set s.views id w) ≡ length s.views = length-set s.views id w in
              leaves.machines seat (λ e. omega (arith, e, inside, longer, beyond)) ∙ h.others_idle seat (omega (arith, beyond, longer));
          counted = counted_stays s.views id v w at same_role same_plan h.counted;
        },
      )
