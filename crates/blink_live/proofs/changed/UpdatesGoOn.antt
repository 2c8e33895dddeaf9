-- What is so of an update under way is so after each of its turns too.
use Rattle.std.proofs.Common.{◌≡◌, ◌≢◌, ◌⊎◌, ⊎_elim, inl, inr, ℕ, suc, ◌+◌, ◌<◌, ◌≤◌, Bool, true, false, Option, Some, List, ◌++◌, ap, sym, ◌∙◌, subst, refl, arith}
use Rattle.std.specs.Prelude.{IsTrue, Contains}
use mathlib.Core.List.{IsPrefix}
use Rattle.atomic_table.specs.declared.Seat.{Seat}
use Rattle.blink_batch.specs.{FitsWords, answer_at, answer_of, key_of, pointer_of}
use Rattle.blink_batch.specs.declared.Answer.{Answer}
use Rattle.blink_batch.specs.declared.Op.{Op}
use Rattle.blink_rows.specs.{PlainCounts}
use Rattle.blink_rows.specs.declared.span.Span.{Span}
use Rattle.blink_machine.specs.{UsesUp, one_if, numbers_left, writes_left, primes_left, latch, unlatch, write_page, write_prime, writes_new_page, PlainMachine, NeedsPage, NeedsLatch, NeedsNew, NeedsWrite, NeedsPrimeWrite, NeedsUnlatch, need_at, goes_on, IsPageWrite, done}
use Rattle.blink_machine.specs.declared.machine.Need.TheVariants.{WriteNew}
use Rattle.blink_machine.specs.declared.machine.State.{State}
use Rattle.blink_machine.specs.declared.machine.State.TheVariants.{SplitNew, Root, Ended}
use Rattle.blink_machine.specs.declared.step.Kind.{Kind}
use Rattle.blink_machine.specs.declared.step.Step.TheVariants.{Moved}
use Rattle.blink_live.specs.declared.live.Live.{Live}
use Rattle.blink_live.specs.declared.room.Room.{Room}
use Rattle.blink_live.specs.declared.shelf.Shelf.{Shelf}
use Rattle.blink_live.specs.declared.view.Call.{Call}
use Rattle.blink_live.specs.declared.view.Plan.{Plan}
use Rattle.blink_live.specs.declared.view.Share.{Share}
use Rattle.blink_live.specs.declared.view.Stock.{Stock}
use Rattle.blink_live.specs.declared.view.View.{View}
use Rattle.blink_live.specs.AtomicSteps.{AppendsRecord, AnswersInOrder, CanGoOn, Decided, deciding, other, state_after, GoesOn, LoadsPage, LoadsPrime, PublishesFrom}
use Rattle.blink_live.specs.Changes.{changes_made}
use Rattle.blink_live.specs.Seats.{HasSameNumber, IsFirst, IsPassSeat}
use Rattle.blink_live.specs.Shelves.{HasSpaceFor, IsShelved, free_in}
use Rattle.blink_live.specs.Updating.{SameBesideCall, HasDecided, not_yet, decided, HasLeft, IsUpdating, HasEnded, IsUnderWay, UsesSpareFirst}
use Rattle.blink_live.specs.Views.{IsAnnounced, IsCommon, MayChange, SeatState, changed_by, for_call, latch_number_by, no_words, pages_of, rows_taken, span}
use Rattle.blink_live.specs.Spares.{HasAny}
use Rattle.blink_live.specs.Words.{AreNumbersIn, IsRowNumber}
use Rattle.blink_live.proofs.told.PrefixesOfOneList.{prefix_of_prefix}
use Rattle.blink_live.proofs.changed.RowsAreLent.{shelved_so}
use Rattle.blink_live.proofs.changed.RowsTaken.{less_space}
use Rattle.blink_live.proofs.changed.StepsOfUpdates.{Takes, latch_answers, unlatch_answers, goes_on_takes, page_takes, prime_takes, publish_takes}

-- ---- what a step makes of the operation

pub same_call_trans : (u v w : View) → SameBesideCall u v → SameBesideCall v w → SameBesideCall u w
same_call_trans u v w first second =
    second ∙ ap (λ (x : View). record x { operation = w.operation; descent_bound = w.descent_bound; reads = w.reads; behind = w.behind; appends = w.appends; seen = w.seen; share = w.share; call = w.call; stock = w.stock }) first

-- it has decided once
module _ (op : Op) (first now then : View) (m after : PlainMachine) (same : m.op ≡ op) (same_plan : now.plan ≡ first.plan) (same_place : now.place ≡ first.place) (saw : IsPrefix first.seen now.seen) where
  -- where the share is that of the beginning, it answers in the order from the beginning on
  from_first : now.share ≡ first.share → AnswersInOrder m.op now after.answer then.share then.seen → AnswersInOrder op first after.answer then.share then.seen
  from_first is answers =
      let from : AnswersInOrder op (record now { plan = first.plan; place = first.place; share = first.share }) after.answer then.share then.seen = subst (λ (x : Op × (Plan × (ℕ × Share))). AnswersInOrder x.0 (record now { plan = x.1.0; place = x.1.1.0; share = x.1.1.1 }) after.answer then.share then.seen) (λ i. (same i, (same_plan i, (same_place i, is i)))) (record {
        before = answers.before;
        saw = answers.saw;
        answers = answers.answers;
        goes_on = answers.goes_on;
        keys = answers.keys;
        changes = answers.changes;
        own = answers.own;
      }) in record {
        before = from.before;
        saw = prefix_of_prefix first.seen now.seen from.before saw from.saw;
        answers = from.answers;
        goes_on = from.goes_on;
        keys = from.keys;
        changes = from.changes;
        own = from.own;
      }

  -- and it has seen all that it had seen
  still_in_order : after.answer ≡ m.answer → then.share ≡ now.share → IsPrefix now.seen then.seen → AnswersInOrder op first m.answer now.share now.seen → AnswersInOrder op first after.answer then.share then.seen
  still_in_order kept stays more answers = subst (λ (x : Option Answer × Share). AnswersInOrder op first x.0 x.1 then.seen) (λ i. (sym kept i, sym stays i)) record {
    before = answers.before;
    saw = answers.saw;
    answers = answers.answers;
    goes_on = prefix_of_prefix (answers.before ++ changes_made first.place op (state_after first answers.before (key_of op))) now.seen then.seen answers.goes_on more;
    keys = answers.keys;
    changes = answers.changes;
    own = answers.own;
  }

  decided_on : IsPrefix now.seen then.seen → HasDecided op first now m → Decided m after now then.share then.seen → HasDecided op first then after
  decided_on more (not_yet none is) (deciding was answers) = decided (from_first is answers)
  decided_on more (not_yet none is) (other kept stays) = not_yet (kept ∙ none) (stays ∙ is)
  decided_on more (decided given) (deciding was answers) = absurd (let once = given.answers in cc)
  decided_on more (decided given) (other kept stays) = decided (still_in_order kept stays more given)

updating_on : (op : Op) (first me then : SeatState) (m after : PlainMachine) → IsUpdating op first me m → Takes m after me then → IsUpdating op first then after
updating_on op first me then m after is takes = record {
  same = (same_call_trans first.0 me.0 then.0 is.same.0 takes.same.0, takes.same.1 ∙ is.same.1);
  saw = prefix_of_prefix first.0.seen me.0.seen then.0.seen is.saw takes.saw;
  knows_own = takes.knows_own;
  operation = takes.operation;
  same_op = takes.same_op ∙ is.same_op;
  next = subst (λ (p : Plan). CanGoOn p after) (ap (λ (v : View). v.plan) is.same.0) takes.next;
  has_decided = decided_on op first.0 me.0 then.0 m after is.same_op (ap (λ (v : View). v.plan) is.same.0) (ap (λ (v : View). v.place) is.same.0) is.saw takes.saw is.has_decided takes.decides;
  past_descent = takes.past_descent;
  answers_at_end = takes.answers_at_end;
}

-- ---- what the call has left

still_left : (shelf : Option Shelf) (first call then : Call) (m after : PlainMachine) → HasLeft shelf first call m → then ≡ call → writes_left after ≤ writes_left m → primes_left after ≤ primes_left m → numbers_left after ≤ numbers_left m
    → HasLeft shelf first then after
still_left shelf first call then m after left same writes primes numbers =
    let rows = left.rows in
    let pages = left.pages in
    subst (λ (c : Call). HasLeft shelf first c after) (sym same) record {
      rows = omega (arith, rows, writes, primes);
      space = less_space shelf _ _ (omega (arith, writes, primes)) left.space;
      in_order = left.in_order;
      pages = omega (arith, pages, numbers);
      later = left.later;
      same_stop = left.same_stop;
      blank = left.blank;
    }

-- these rows and page numbers are left
row_is_used : (before shelf : Option Shelf) (first call then : Call) (rows pages : Span) (m after : PlainMachine) → HasLeft before first call m → then ≡ record { rows = rows; pages = pages; staged = no_words }
    → (rows.stop ≡ call.rows.stop) × (call.rows.next ≤ rows.next) × (rows.next ≤ rows.stop) → (rows.next + (writes_left after + primes_left after) ≤ rows.stop + free_in shelf) × HasSpaceFor shelf (writes_left after + primes_left after) → (pages.stop ≡ call.pages.stop) × (call.pages.next ≤ pages.next) → pages.next + numbers_left after ≤ pages.stop
    → HasLeft shelf first then after
row_is_used before_shelf shelf first call then rows pages m after left is kept writes later numbers =
    let before = left.later in
    subst (λ (c : Call). HasLeft shelf first c after) (sym is) record {
      rows = writes.0;
      space = writes.1;
      in_order = kept.2;
      pages = numbers;
      later = (omega (arith, before, kept.1), omega (arith, before, later));
      same_stop = (kept.0 ∙ left.same_stop.0, later.0 ∙ left.same_stop.1);
      blank = refl;
    }

new_is_written : (state : State) → need_at state ≡ WriteNew → writes_new_page state ≡ true
new_is_written (SplitNew page before) needs = refl
new_is_written (Root page debt prime) needs = refl
new_is_written state needs = absurd (cc)

new_uses_number : (m after : PlainMachine) (kind : Kind) → NeedsNew m → UsesUp m (Moved kind) after → suc (numbers_left after) ≤ numbers_left m
new_uses_number m after kind needs uses =
    let numbers : numbers_left after + one_if true ≤ numbers_left m = subst (λ (b : Bool). numbers_left after + one_if b ≤ numbers_left m) (new_is_written m.state needs) uses.numbers in
    omega (arith, numbers)

-- one number less
one_less : (numbers others : Span) → numbers ≡ others → span (numbers.next + 1) numbers.stop ≡ span (suc others.next) others.stop
one_less numbers others same =
    let next : numbers.next + 1 ≡ suc others.next = let at = ap (λ (s : Span). s.next) same in omega (arith, at) in
    λ i. span (next i) (same i).stop

-- the rows that are left once the operation has written one of them, or one that its shelf has lent
abbrev pub rows_after : Bool → Span → Span
rows_after true rows = rows
rows_after false rows = span (suc rows.next) rows.stop

-- the numbers of the shelf's free rows before and after: one was written, or there was none
abbrev WritesFree : Bool → ℕ → ℕ → Type 0
WritesFree true free then = free ≡ suc then
WritesFree false free then = free ≡ 0

-- ---- a turn

module _ {live : Live} {op : Op} {first seat : Seat ℕ View} {m : PlainMachine} {room : Room} (is : IsUnderWay live op first seat m room) where
  abbrev begun : SeatState
  begun = (for_call first.me.0 op, first.me.1)

  same_counts : first.me.0.plan.counts ≡ live.counts
  same_counts = ap (λ (p : Plan). p.counts) is.can.seat.same_plan ∙ sym live.counts_are

  pub is_its_seat : IsPassSeat live seat.table_id seat.me
  is_its_seat = record {
    same_table = is.same_number.0 ∙ is.can.seat.same_table;
    same_plan = ap (λ (v : View). v.plan) is.updating.same.0 ∙ is.can.seat.same_plan;
    role = ap (λ (v : View). v.role) is.updating.same.0 ∙ is.can.seat.role;
  }

  pub is_announced : IsAnnounced seat.me.0
  is_announced = subst IsAnnounced (sym is.updating.same.0) is.can.can_begin.announced

  pub is_its_operation : m.state ≢ Ended → seat.me.0.operation ≡ Some m
  is_its_operation goes = is.updating.operation ∙ goes_unless_ended m m.state goes
    where
      goes_unless_ended : (k : PlainMachine) (state : State) → state ≢ Ended → goes_on k state ≡ Some k
      goes_unless_ended k Ended goes = absurd (goes refl)
      goes_unless_ended k state goes = refl

  pub its_words_fit : FitsWords m.op
  its_words_fit = subst FitsWords (sym is.updating.same_op) is.can.fits

  pub may_change : MayChange seat.me.0 (key_of m.op)
  may_change = subst (λ (x : Op × (List ℕ × Plan)). Contains x.1.0 (key_of x.0) ⊎ IsCommon x.1.1)
      (λ i. (sym is.updating.same_op i, (sym (same_keys is.updating.has_decided) i, sym (ap (λ (v : View). v.plan) is.updating.same.0) i))) is.can.may_change
    where
      same_keys : HasDecided op (for_call first.me.0 op) seat.me.0 m → seat.me.0.share.keys ≡ first.me.0.share.keys
      same_keys (not_yet none same) = ap (λ (s : Share). s.keys) same
      same_keys (decided given) = given.keys

  pub is_its_number : (room.latch_number ≡ latch_number_by seat.me.0) × (1 ≤ room.latch_number)
  is_its_number = (is.latch_number ∙ ap latch_number_by (sym is.updating.same.0), subst (λ (n : ℕ). 1 ≤ n) (sym is.latch_number) is.can.some_latch)

  in_range : (number : ℕ) → (1 ≤ number) × (number < first.me.0.plan.counts.numbers) → (1 ≤ number) × (number < live.counts.numbers)
  in_range number there = (there.0, subst (λ (counts : PlainCounts). number < counts.numbers) same_counts there.1)

  pub page_in_range : (number : ℕ) → NeedsPage m number → (1 ≤ number) × (number < live.counts.numbers)
  page_in_range number needs = in_range number (is.updating.next.reads number needs)

  pub latch_in_range : (number : ℕ) → NeedsLatch m number → number < live.counts.numbers
  latch_in_range number needs = (in_range number (is.updating.next.latches number needs)).1

  pub write_in_range : (number : ℕ) → NeedsWrite m number → (1 ≤ number) × (number < live.counts.numbers)
  write_in_range number needs = in_range number (is.updating.next.writes number needs)

  pub unlatch_in_range : (number : ℕ) → NeedsUnlatch m number → number < live.counts.numbers
  unlatch_in_range number needs = subst (λ (counts : PlainCounts). number < counts.numbers) same_counts (is.updating.next.unlatches number needs)

  -- the next row is there where the shelf has none, and the next page number
  row_is_there : 1 ≤ writes_left m + primes_left m → free_in room.shelf ≡ 0 → IsFirst room.rows.next seat.me.0.call.rows × IsRowNumber live.counts room.rows.next
  row_is_there some none =
      let left = is.left in
      let left_rows = left.rows in
      let later = left.later in
      let same_stop = left.same_stop in
      let at = ap (λ (s : Span). s.next) is.room_is.0 in
      let begin = is.can.can_begin.rows in
      let range = is.can.rows in
      ((at, omega (arith, at, left_rows, some, none)), (omega (arith, at, later, range), omega (arith, at, left_rows, some, none, same_stop, begin, range)))

  some_write : NeedsNew m ⊎ ((number : ℕ) × NeedsWrite m number) → 1 ≤ writes_left m + primes_left m
  some_write needs = let some = is.updating.next.enough.page_writes (⊎_elim (λ (new : NeedsNew m). subst IsPageWrite (sym new) tt) (λ (page : (number : ℕ) × NeedsWrite m number). subst IsPageWrite (sym page.1) tt) needs) in omega (arith, some)

  some_prime : NeedsPrimeWrite m → 1 ≤ writes_left m + primes_left m
  some_prime needs = let some = is.updating.next.enough.prime_writes needs in omega (arith, some)

  pub row_for_page : (number : ℕ) → NeedsWrite m number → free_in room.shelf ≡ 0 → IsFirst room.rows.next seat.me.0.call.rows × IsRowNumber live.counts room.rows.next
  row_for_page number needs = row_is_there (some_write (inr (number, needs)))

  pub row_for_new : NeedsNew m → free_in room.shelf ≡ 0 → IsFirst room.rows.next seat.me.0.call.rows × IsRowNumber live.counts room.rows.next
  row_for_new needs = row_is_there (some_write (inl needs))

  pub row_for_prime : NeedsPrimeWrite m → free_in room.shelf ≡ 0 → IsFirst room.rows.next seat.me.0.call.rows × IsRowNumber live.counts room.rows.next
  row_for_prime needs = row_is_there (some_prime needs)

  -- the shelf has room for the row that is taken out
  pub space_for_page : (number : ℕ) → NeedsWrite m number → HasSpaceFor room.shelf 1
  space_for_page number needs = less_space room.shelf _ 1 (some_write (inr (number, needs))) is.left.space

  pub space_for_prime : NeedsPrimeWrite m → HasSpaceFor room.shelf 1
  space_for_prime needs = less_space room.shelf _ 1 (some_prime needs) is.left.space

  pub number_for_new : NeedsNew m → HasAny room.pages × AreNumbersIn live.counts room.pages
  number_for_new needs =
      let some = is.updating.next.enough.numbers needs in
      let left = is.left in
      let left_pages = left.pages in
      let later = left.later in
      let same_stop = left.same_stop in
      let at = ap (λ (s : Span). s.next) is.room_is.1 in
      let ends = ap (λ (s : Span). s.stop) is.room_is.1 in
      let begin = is.can.can_begin.pages in
      let range = is.can.pages in (
        omega (arith, at, ends, left_pages, some),
        (omega (arith, at, later, range), omega (arith, ends, same_stop, begin, range), range.2),
      )

  -- its first row is used, or none where it wrote a free one
  fewer_rows : (lent : Bool) (k : PlainMachine) (free : ℕ) → suc (writes_left k + primes_left k) ≤ writes_left m + primes_left m → WritesFree lent (free_in room.shelf) free
      → ((rows_after lent seat.me.0.call.rows).stop ≡ seat.me.0.call.rows.stop) × (seat.me.0.call.rows.next ≤ (rows_after lent seat.me.0.call.rows).next) × ((rows_after lent seat.me.0.call.rows).next ≤ (rows_after lent seat.me.0.call.rows).stop) × ((rows_after lent seat.me.0.call.rows).next + (writes_left k + primes_left k) ≤ (rows_after lent seat.me.0.call.rows).stop + free)
  fewer_rows true k free writes free_row = let rows = is.left.rows in let order = is.left.in_order in (refl, omega arith, order, omega (arith, rows, writes, free_row))
  fewer_rows false k free writes none_free = let rows = is.left.rows in (refl, omega arith, omega (arith, rows, writes, none_free), omega (arith, rows, writes, none_free))

  -- the first of its rows is used
  pub first_row_used : span (room.rows.next + 1) room.rows.stop ≡ rows_after false seat.me.0.call.rows
  first_row_used = one_less room.rows seat.me.0.call.rows is.room_is.0

  pub rows_left : IsFirst room.rows.next seat.me.0.call.rows → room.rows.next + 1 ≤ room.rows.stop
  rows_left first_row =
      let stop = ap (λ (s : Span). s.stop) is.room_is.0 in
      let inside = first_row.1 in
      omega (arith, stop, inside)

  -- after a turn
  module _ {after : PlainMachine} {next : Seat ℕ View} (same : HasSameNumber seat next) where
    turned : (then : Room) → Takes m after seat.me next.me → UsesSpareFirst first.me.0 next.me.0 → HasLeft then.shelf begun.0.call next.me.0.call after → (then.rows ≡ next.me.0.call.rows) × (then.pages ≡ next.me.0.call.pages) → then.latch_number ≡ room.latch_number → IsShelved then.shelf next.me.0 → IsUnderWay live op first next after then
    turned then takes spare_first left same_room same_latch shelved = record {
      can = is.can;
      same_number = (same.0 ∙ is.same_number.0, same.1 ∙ is.same_number.1);
      updating = updating_on op begun seat.me next.me m after is.updating takes;
      room_is = same_room;
      latch_number = same_latch ∙ is.latch_number;
      shelved = shelved;
      left = left;
      spare_first = spare_first;
    }

    -- which uses nothing of its room
    in_its_room : Takes m after seat.me next.me → (next.me.0.plan ≡ seat.me.0.plan) × (next.me.0.stock ≡ seat.me.0.stock) → next.me.0.call ≡ seat.me.0.call → writes_left after ≤ writes_left m → primes_left after ≤ primes_left m → numbers_left after ≤ numbers_left m → IsUnderWay live op first next after room
    in_its_room takes same_stock same_call writes primes numbers = turned room takes
        (λ common some. let was = is.spare_first (subst IsCommon same_stock.0 common) (subst HasAny (ap (λ (x : Stock). x.spare) same_stock.1) some) in (ap (λ (c : Call). c.pages.next) same_call ∙ was.0, was.1))
        (still_left room.shelf begun.0.call seat.me.0.call next.me.0.call m after is.left same_call writes primes numbers)
        (is.room_is.0 ∙ ap (λ (c : Call). c.rows) (sym same_call), is.room_is.1 ∙ ap (λ (c : Call). c.pages) (sym same_call)) refl (shelved_so room.shelf seat.me.0 next.me.0 same_stock.0 same_stock.1 is.shelved)

    pub after_page : (number word : ℕ) → LoadsPage m number seat.me word after next.me → IsUnderWay live op first next after room
    after_page number word loads =
        let pages = loads.uses.numbers in
        let writes = loads.uses.page_writes in
        let primes = loads.uses.prime_writes in
        in_its_room (page_takes m after number word seat.me next.me is.updating.past_descent loads) (ap (λ (x : SeatState). x.0.plan) loads.is, ap (λ (x : SeatState). x.0.stock) loads.is) (ap (λ (x : SeatState). x.0.call) loads.is) (omega (arith, writes)) (omega (arith, primes)) (omega (arith, pages))

    pub after_prime : (row : ℕ) → LoadsPrime m seat.me row after next.me → IsUnderWay live op first next after room
    after_prime row loads =
        in_its_room (prime_takes m after row seat.me next.me is.updating.past_descent loads) (ap (λ (x : SeatState). x.0.plan) loads.is, ap (λ (x : SeatState). x.0.stock) loads.is) (ap (λ (x : SeatState). x.0.call) loads.is) loads.uses.page_writes loads.uses.prime_writes loads.uses.numbers

    after_done : (kind : Kind) → after ≡ done m 0 → (done m 0).answer ≡ m.answer → GoesOn kind m seat.me next.me → IsUnderWay live op first next after room
    after_done kind is_done answers goes =
        let pages = goes.uses.numbers in
        let writes = goes.uses.page_writes in
        let primes = goes.uses.prime_writes in
        let takes = goes_on_takes kind m seat.me next.me is.updating.past_descent is.updating.knows_own answers goes in
        in_its_room (subst (λ (k : PlainMachine). Takes m k seat.me next.me) (sym is_done) takes) (ap (λ (x : SeatState). x.0.plan) goes.is, ap (λ (x : SeatState). x.0.stock) goes.is) (ap (λ (x : SeatState). x.0.call) goes.is)
        (subst (λ (k : PlainMachine). writes_left k ≤ writes_left m) (sym is_done) (omega (arith, writes)))
        (subst (λ (k : PlainMachine). primes_left k ≤ primes_left m) (sym is_done) (omega (arith, primes)))
        (subst (λ (k : PlainMachine). numbers_left k ≤ numbers_left m) (sym is_done) (omega (arith, pages)))

    pub after_unlatch : (number : ℕ) → NeedsUnlatch m number → after ≡ done m 0 → GoesOn (unlatch number) m seat.me next.me → IsUnderWay live op first next after room
    after_unlatch number needs is_done goes = after_done (unlatch number) is_done (unlatch_answers m m.state number needs) goes

    -- or it lost the latch
    pub after_try : (got : Bool) (number : ℕ) → NeedsLatch m number → (IsTrue got → after ≡ done m 0) → (IsTrue got → GoesOn (latch number) m seat.me next.me) → (¬ IsTrue got → (after ≡ m) × (next.me ≡ seat.me)) → IsUnderWay live op first next after room
    after_try true number needs is_done goes lost = after_done (latch number) (is_done refl) (latch_answers m m.state number needs) (goes refl)
    after_try false number needs is_done goes lost =
        let same_machine = (lost (λ e. absurd (cc))).0 in
        let same_view = (lost (λ e. absurd (cc))).1 in record {
          can = is.can;
          same_number = (same.0 ∙ is.same_number.0, same.1 ∙ is.same_number.1);
          updating = subst (λ (x : SeatState × PlainMachine). IsUpdating op begun x.0 x.1) (λ i. (sym same_view i, sym same_machine i)) is.updating;
          room_is = subst (λ (x : SeatState). (room.rows ≡ x.0.call.rows) × (room.pages ≡ x.0.call.pages)) (sym same_view) is.room_is;
          latch_number = is.latch_number;
          shelved = subst (λ (x : SeatState). IsShelved room.shelf x.0) (sym same_view) is.shelved;
          left = subst (λ (x : SeatState × PlainMachine). HasLeft room.shelf begun.0.call x.0.0.call x.1) (λ i. (sym same_view i, sym same_machine i)) is.left;
          spare_first = subst (λ (x : SeatState). UsesSpareFirst first.me.0 x.0) (sym same_view) is.spare_first;
        }

    -- which publishes a row
    after_write : (kind : Kind) (rows pages : Span) (stock : Stock) (new : ℕ) (then : Room) → (IsCommon seat.me.0.plan → HasAny stock.spare → (pages.next ≡ seat.me.0.call.pages.next) × HasAny seat.me.0.stock.spare) → after ≡ done m new → PublishesFrom kind rows pages stock m (done m new) seat.me next.me
        → (rows.stop ≡ seat.me.0.call.rows.stop) × (seat.me.0.call.rows.next ≤ rows.next) × (rows.next ≤ rows.stop) → (rows.next + (writes_left (done m new) + primes_left (done m new)) ≤ rows.stop + free_in then.shelf) × HasSpaceFor then.shelf (writes_left (done m new) + primes_left (done m new)) → (pages.stop ≡ seat.me.0.call.pages.stop) × (seat.me.0.call.pages.next ≤ pages.next)
        → pages.next + numbers_left (done m new) ≤ pages.stop → (then.rows ≡ rows) × (then.pages ≡ pages) → then.latch_number ≡ room.latch_number → IsShelved then.shelf next.me.0 → IsUnderWay live op first next after then
    after_write kind rows pages stock new then spare_first is_done does kept writes later numbers same_room same_latch shelved =
        let call : next.me.0.call ≡ record { rows = rows; pages = pages; staged = no_words } = ap (λ (x : SeatState). x.0.call) does.is in
        turned then
        (subst (λ (k : PlainMachine). Takes m k seat.me next.me) (sym is_done) (publish_takes kind rows pages stock m new seat.me next.me is.updating.past_descent does))
        (λ common some.
        let common_then : IsCommon seat.me.0.plan = subst IsCommon (ap (λ (x : SeatState). x.0.plan) does.is) common in
        let used = spare_first common_then (subst HasAny (ap (λ (x : SeatState). x.0.stock.spare) does.is) some) in
        let was = is.spare_first common_then used.1 in
        (ap (λ (c : Call). c.pages.next) call ∙ (used.0 ∙ was.0), was.1))
        (subst (λ (k : PlainMachine). HasLeft then.shelf begun.0.call next.me.0.call k) (sym is_done) (row_is_used room.shelf then.shelf begun.0.call seat.me.0.call next.me.0.call rows pages m (done m new) is.left call kept writes later numbers))
        (same_room.0 ∙ sym (ap (λ (c : Call). c.rows) call), same_room.1 ∙ sym (ap (λ (c : Call). c.pages) call)) same_latch shelved

    pub after_write_page : (lent : Bool) (number : ℕ) (stock : Stock) → stock.spare ≡ seat.me.0.stock.spare → (then : Room) → after ≡ done m 0 → PublishesFrom (write_page number) (rows_after lent seat.me.0.call.rows) seat.me.0.call.pages stock m (done m 0) seat.me next.me
        → then.rows ≡ rows_after lent seat.me.0.call.rows → then.pages ≡ room.pages → then.latch_number ≡ room.latch_number → IsShelved then.shelf next.me.0 → WritesFree lent (free_in room.shelf) (free_in then.shelf) → ((count : ℕ) → HasSpaceFor room.shelf (suc count) → HasSpaceFor then.shelf count) → IsUnderWay live op first next after then
    after_write_page lent number stock same_spare then is_done does same_rows same_pages same_latch shelved uses space =
        let pages = does.uses.numbers in
        let writes = does.uses.page_writes in
        let primes = does.uses.prime_writes in
        let left = is.left.pages in
        let fewer = fewer_rows lent (done m 0) (free_in then.shelf) (omega (arith, writes, primes)) uses in
        after_write (write_page number) (rows_after lent seat.me.0.call.rows) seat.me.0.call.pages stock 0 then (λ common some. (refl, subst HasAny same_spare some)) is_done does (fewer.0, fewer.1, fewer.2) (fewer.3, space _ (less_space room.shelf _ _ (omega (arith, writes, primes)) is.left.space)) (refl, omega arith) (omega (arith, pages, left)) (same_rows, same_pages ∙ is.room_is.1) same_latch shelved

    -- which appends a record, and uses no row
    pub after_append : (number : ℕ) → after ≡ done m 0 → AppendsRecord number m seat.me next.me → IsUnderWay live op first next after room
    after_append number is_done does =
        let pages = does.uses.numbers in
        let writes = does.uses.page_writes in
        let primes = does.uses.prime_writes in
        let left = is.left.pages in
        let rows = is.left.rows in
        after_write (write_page number) seat.me.0.call.rows seat.me.0.call.pages seat.me.0.stock 0 room (λ common some. (refl, some)) is_done does
        (refl, omega arith, is.left.in_order) (omega (arith, rows, writes, primes), less_space room.shelf _ _ (omega (arith, writes, primes)) is.left.space) (refl, omega arith) (omega (arith, pages, left)) is.room_is refl
        (shelved_so room.shelf seat.me.0 next.me.0 (ap (λ (x : SeatState). x.0.plan) does.is) (ap (λ (x : SeatState). x.0.stock) does.is) is.shelved)

    pub after_write_prime : (lent : Bool) (stock : Stock) → stock.spare ≡ seat.me.0.stock.spare → (then : Room) → after ≡ done m 0 → PublishesFrom write_prime (rows_after lent seat.me.0.call.rows) seat.me.0.call.pages stock m (done m 0) seat.me next.me
        → then.rows ≡ rows_after lent seat.me.0.call.rows → then.pages ≡ room.pages → then.latch_number ≡ room.latch_number → IsShelved then.shelf next.me.0 → WritesFree lent (free_in room.shelf) (free_in then.shelf) → ((count : ℕ) → HasSpaceFor room.shelf (suc count) → HasSpaceFor then.shelf count) → IsUnderWay live op first next after then
    after_write_prime lent stock same_spare then is_done does same_rows same_pages same_latch shelved uses space =
        let pages = does.uses.numbers in
        let writes = does.uses.page_writes in
        let primes = does.uses.prime_writes in
        let left = is.left.pages in
        let fewer = fewer_rows lent (done m 0) (free_in then.shelf) (omega (arith, writes, primes)) uses in
        after_write write_prime (rows_after lent seat.me.0.call.rows) seat.me.0.call.pages stock 0 then (λ common some. (refl, subst HasAny same_spare some)) is_done does (fewer.0, fewer.1, fewer.2) (fewer.3, space _ (less_space room.shelf _ _ (omega (arith, writes, primes)) is.left.space)) (refl, omega arith) (omega (arith, pages, left)) (same_rows, same_pages ∙ is.room_is.1) same_latch shelved

    pub after_write_new : (lent : Bool) (number : ℕ) (pages : Span) (stock : Stock) (then : Room) → (IsCommon seat.me.0.plan → HasAny stock.spare → (pages.next ≡ seat.me.0.call.pages.next) × HasAny seat.me.0.stock.spare) → NeedsNew m → after ≡ done m number → PublishesFrom (write_page number) (rows_after lent seat.me.0.call.rows) pages stock m (done m number) seat.me next.me
        → (pages.stop ≡ seat.me.0.call.pages.stop) × (seat.me.0.call.pages.next ≤ pages.next) × (pages.next ≤ suc seat.me.0.call.pages.next) → then.rows ≡ rows_after lent seat.me.0.call.rows → then.pages ≡ pages → then.latch_number ≡ room.latch_number → IsShelved then.shelf next.me.0 → WritesFree lent (free_in room.shelf) (free_in then.shelf) → ((count : ℕ) → HasSpaceFor room.shelf (count) → HasSpaceFor then.shelf count) → IsUnderWay live op first next after then
    after_write_new lent number pages stock then spare_first needs is_done does kept same_rows same_pages same_latch shelved uses space =
        let writes = does.uses.page_writes in
        let primes = does.uses.prime_writes in
        let left = is.left.pages in
        let numbers = new_uses_number m (done m number) (write_page number) needs does.uses in
        let fewer = fewer_rows lent (done m number) (free_in then.shelf) (omega (arith, writes, primes)) uses in
        after_write (write_page number) (rows_after lent seat.me.0.call.rows) pages stock number then spare_first is_done does
        (fewer.0, fewer.1, fewer.2) (fewer.3, space _ (less_space room.shelf _ _ (omega (arith, writes, primes)) is.left.space)) (kept.0, kept.1) (omega (arith, numbers, left, kept)) (same_rows, same_pages) same_latch shelved

-- ---- its end

as_decided : (op : Op) (first v : View) (m : PlainMachine) (answer : Answer) → HasDecided op first v m → m.answer ≡ Some answer → AnswersInOrder op first (Some answer) v.share v.seen
as_decided op first v m answer (not_yet none is) some = absurd (cc)
as_decided op first v m answer (decided given) some = subst (λ (x : Option Answer). AnswersInOrder op first x v.share v.seen) some given

pub at_end : (live : Live) (op : Op) (first seat : Seat ℕ View) (m : PlainMachine) (room : Room) (answer : Answer) → IsUnderWay live op first seat m room → m.state ≡ Ended → m.answer ≡ Some answer → HasEnded op first seat answer
at_end live op first seat m room answer is ends given =
    let told = as_decided op (for_call first.me.0 op) seat.me.0 m answer is.updating.has_decided given in record {
      answers = record { before = told.before; saw = told.saw; answers = told.answers; goes_on = told.goes_on; keys = told.keys; changes = told.changes; own = told.own };
      idle = is.updating.operation ∙ ap (goes_on m) ends;
      same_number = is.same_number;
      knows_own = is.updating.knows_own;
      saw = is.updating.saw;
      same = is.updating.same.0;
      same_slots = is.updating.same.1;
    }

-- an operation of one of the seat's own keys has answered by the share, and has changed it as it changes a map
pub of_own_key : (op : Op) (first seat : Seat ℕ View) (answer : Answer) → HasEnded op first seat answer → Contains first.me.0.share.keys (key_of op)
    → (answer ≡ answer_of first.me.0.share.entries op) × (seat.me.0.share ≡ changed_by first.me.0.place op first.me.0.share)
of_own_key op first seat answer ended mine =
    let answers = ended.answers in
    let own = answers.own mine in
    let given : Some answer ≡ Some (answer_at op (pointer_of first.me.0.share.entries (key_of op))) = answers.answers ∙ ap (λ (k : Option ℕ). Some (answer_at op k)) own.0 in
    (cc, own.1)

-- the seat has used what the operation takes
pub record IsAfterCall (op : Op) (v w : View) : Type 0 where
  pub rows : w.rows ≡ span (v.rows.next + rows_taken op v.rows) v.rows.stop
  pub pages : w.pages ≡ span (v.pages.next + pages_of op) v.pages.stop
  pub role : w.role ≡ v.role
  pub told : w.told ≡ v.told

pub after_call : (op : Op) (v w : View) → SameBesideCall (for_call v op) w → IsAfterCall op v w
after_call op v w same = record { rows = ap (λ (x : View). x.rows) same; pages = ap (λ (x : View). x.pages) same; role = ap (λ (x : View). x.role) same; told = ap (λ (x : View). x.told) same }
