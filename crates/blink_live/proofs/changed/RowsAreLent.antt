-- A row that a session takes from its shelf, writes, and publishes is as good as the first of its call's rows, and uses none of these.
use Rattle.std.proofs.Common.{◌≡◌, ℕ, Option, Some, None, List, sym, ap, ◌∙◌, subst}
use Rattle.atomic_table.specs.Seated.{TableId}
use Rattle.blink_rows.specs.declared.span.Span.{Span}
use Rattle.blink_machine.specs.declared.step.Kind.{Kind}
use Rattle.blink_machine.specs.{PlainMachine}
use Rattle.blink_live.specs.declared.live.Live.{Live}
use Rattle.blink_live.specs.declared.shelf.Shelf.{Shelf}
use Rattle.blink_live.specs.declared.view.Aside.{Aside}
use Rattle.blink_live.specs.declared.view.Change.{Change}
use Rattle.blink_live.specs.declared.view.Share.{Share}
use Rattle.blink_live.specs.declared.view.Stock.{Stock}
use Rattle.blink_live.specs.declared.view.View.{View}
use Rattle.blink_live.specs.AtomicSteps.{Decided, PublishesFrom, deciding, other}
use Rattle.blink_live.specs.ComingBack.{puts_back, takes_in, with_stock}
use Rattle.blink_live.specs.Seats.{IsPassSeat}
use Rattle.blink_live.specs.Shelves.{HasOtherStock, IsShelved}
use Rattle.blink_live.specs.Views.{IsCommon, IsOwned, KnowsItsOwn, SeatState, no_aside, publishes_from}

-- the same stock stands on the shelf
pub shelved_so : (shelf : Option Shelf) (v w : View) → w.plan ≡ v.plan → w.stock ≡ v.stock → IsShelved shelf v → IsShelved shelf w
shelved_so None v w plan stock is = subst IsOwned (sym plan) is
shelved_so (Some shelf) v w plan stock is = (subst IsCommon (sym plan) is.0, stock ∙ is.1)

-- ---- a row of the call's own

-- the seat's stock is another afterwards
pub restocked : (kind : Kind) (rows pages : Span) (stock : Stock) (m after : PlainMachine) (me then last : SeatState) → PublishesFrom kind rows pages stock m after me then → (moved : HasOtherStock then last) → PublishesFrom kind rows pages moved.stock m after me last
restocked kind rows pages stock m after me then last does moved =
    let is : last ≡ (publishes_from me.0 after does.way rows pages does.share does.seen moved.stock, me.1) =
    moved.is ∙ ap (λ (x : SeatState). let y : SeatState = (with_stock x.0 moved.stock, x.1) in y) does.is in record {
      way = does.way;
      share = does.share;
      seen = does.seen;
      is = is;
      learns = does.learns;
      decided = does.decided;
      next = does.next;
      uses = does.uses;
      answers_at_end = does.answers_at_end;
      knows_own = subst (λ (x : SeatState). KnowsItsOwn x.0) (sym moved.is) (record { state = does.knows_own.state; changes = does.knows_own.changes });
      ends_with_own = does.ends_with_own;
    }

-- ---- a free row

decided_before : (m after : PlainMachine) (v : View) (row : ℕ) (rest : List ℕ) (share : Share) (seen : List Change) → Decided m after (takes_in v row rest) share seen → Decided m after v share seen
decided_before m after v row rest share seen (deciding none_yet answers) = Decided.deciding none_yet (record {
  before = answers.before;
  saw = answers.saw;
  answers = answers.answers;
  goes_on = answers.goes_on;
  keys = answers.keys;
  changes = answers.changes;
  own = answers.own;
})
decided_before m after v row rest share seen (other same same_share) = Decided.other same same_share

-- the rows that were set aside are back
pub lent_and_back : (kind : Kind) (rows pages : Span) (stock : Stock) (m after : PlainMachine) (me then last : SeatState) (row : ℕ) (rest : List ℕ) → stock.aside ≡ record { rows = me.0.rows; call = me.0.call.rows } → PublishesFrom kind rows pages stock m after (takes_in me.0 row rest, me.1) then
    → last ≡ (puts_back then.0, then.1) → PublishesFrom kind me.0.call.rows pages (record stock { aside = no_aside }) m after me last
lent_and_back kind rows pages stock m after me then last row rest aside does back =
    let v : View = takes_in me.0 row rest in
    let w : View = publishes_from v after does.way rows pages does.share does.seen stock in
    let is : last ≡ (publishes_from me.0 after does.way me.0.call.rows pages does.share does.seen (record stock { aside = no_aside }), me.1) =
    back
    ∙ ap (λ (x : SeatState). let y : SeatState = (puts_back x.0, x.1) in y) does.is
    ∙ ap (λ (a : Aside). let y : SeatState = (record (publishes_from v after does.way a.call pages does.share does.seen (record stock { aside = no_aside })) { rows = a.rows }, me.1) in y) aside in record {
      way = does.way;
      share = does.share;
      seen = does.seen;
      is = is;
      learns = record { saw = does.learns.saw; heard = does.learns.heard };
      decided = decided_before m after me.0 row rest does.share does.seen does.decided;
      next = does.next;
      uses = does.uses;
      answers_at_end = does.answers_at_end;
      knows_own =
          let knows = does.knows_own in
          let then_knows : KnowsItsOwn w = subst (λ (x : SeatState). KnowsItsOwn x.0) does.is knows in
          subst (λ (x : SeatState). KnowsItsOwn x.0) (sym is) (record { state = then_knows.state; changes = then_knows.changes });
      ends_with_own = let ends = does.ends_with_own in record { before = ends.before; made = ends.made; learns = record { saw = ends.learns.saw; heard = ends.learns.heard }; own = ends.own; last = ends.last };
    }

-- what the seat is while a row is lent to its call
pub lent_seat : (live : Live) (table : TableId) (row : ℕ) (rest : List ℕ) (me then : SeatState) → then ≡ (takes_in me.0 row rest, me.1) → IsPassSeat live table me → IsPassSeat live table then
lent_seat live table row rest me then is seat = subst (IsPassSeat live table) (sym is) (record { same_table = seat.same_table; same_plan = seat.same_plan; role = seat.role })

-- ---- a seat whose stock alone is another

pub stock_on : (me now then : SeatState) → HasOtherStock me now → HasOtherStock now then → HasOtherStock me then
stock_on me now then one two = record { stock = two.stock; is = two.is ∙ ap (λ (x : SeatState). let y : SeatState = (with_stock x.0 two.stock, x.1) in y) one.is }

pub same_pass : (live : Live) (table : TableId) (me then : SeatState) → HasOtherStock me then → IsPassSeat live table me → IsPassSeat live table then
same_pass live table me then moved seat = subst (IsPassSeat live table) (sym moved.is) (record { same_table = seat.same_table; same_plan = seat.same_plan; role = seat.role })
