-- A new page whose number was a spare one: the call's numbers and the spare ones are exchanged, and again once the page is written.
use Rattle.std.proofs.Common.{◌≡◌, ℕ, Option, Some, None, List, refl, sym, ap, ◌∙◌, subst, arith}
use Rattle.atomic_table.specs.declared.Seat.{Seat}
use Rattle.blink_batch.specs.{key_of}
use Rattle.blink_rows.specs.declared.span.Span.{Span}
use Rattle.blink_machine.specs.declared.step.Kind.{Kind}
use Rattle.blink_machine.specs.{PlainMachine}
use Rattle.blink_live.specs.declared.live.Live.{Live}
use Rattle.blink_live.specs.declared.shelf.Shelf.{Shelf}
use Rattle.blink_live.specs.declared.view.Change.{Change}
use Rattle.blink_live.specs.declared.view.Share.{Share}
use Rattle.blink_live.specs.declared.view.Stock.{Stock}
use Rattle.blink_live.specs.declared.view.View.{View}
use Rattle.blink_live.specs.AtomicSteps.{Decided, PublishesFrom, deciding, other}
use Rattle.blink_live.specs.Seats.{HasSameNumber, IsFirst}
use Rattle.blink_live.specs.Shelves.{HasSpaceFor, IsShelved, free_in}
use Rattle.blink_live.specs.Spares.{HasAny, HasSpareOf, exchanges, spare_on, with_spare_on}
use Rattle.blink_live.specs.Updating.{CanWrite}
use Rattle.blink_live.specs.Views.{IsCommon, IsOwned, KnowsItsOwn, MayChange, SeatState, publishes_from, with_spare}
use Rattle.blink_live.specs.Words.{IsRowNumber}

-- ---- the shelf

pub spare_of_shelved : (shelf : Option Shelf) (v : View) → IsShelved shelf v → HasSpareOf shelf v
spare_of_shelved None v is = is
spare_of_shelved (Some shelf) v is = ap (λ (x : Stock). x.spare) is.1

pub spare_twice : (one two : Span) (shelf : Option Shelf) → with_spare_on two (with_spare_on one shelf) ≡ with_spare_on two shelf
spare_twice one two None = refl
spare_twice one two (Some shelf) = refl

pub spare_same : (shelf : Option Shelf) (v : View) → HasSpareOf shelf v → shelf ≡ with_spare_on v.stock.spare shelf
spare_same None v is = refl
spare_same (Some shelf) v is = λ i. Some (record shelf { spare = sym is i })

-- a session whose shelf has no spare number has none
pub none_spare : (shelf : Option Shelf) (v : View) → HasSpareOf shelf v → ¬ HasAny (spare_on shelf) → IsCommon v.plan → ¬ HasAny v.stock.spare
none_spare None v is none common some = omega (arith, is, common)
none_spare (Some shelf) v is none common some = none (subst HasAny is some)

pub free_beside : (spare : Span) (shelf : Option Shelf) → free_in (with_spare_on spare shelf) ≡ free_in shelf
free_beside spare None = refl
free_beside spare (Some shelf) = refl

pub space_beside : (spare : Span) (shelf : Option Shelf) (count : ℕ) → HasSpaceFor shelf count → HasSpaceFor (with_spare_on spare shelf) count
space_beside spare None count has = has
space_beside spare (Some shelf) count has = has

pub shelved_beside : (spare : Span) (shelf : Option Shelf) (v w : View) → w.plan ≡ v.plan → w.stock ≡ with_spare spare v.stock → IsShelved shelf v → IsShelved (with_spare_on spare shelf) w
shelved_beside spare None v w plan stock is = subst IsOwned (sym plan) is
shelved_beside spare (Some shelf) v w plan stock is = (subst IsCommon (sym plan) is.0, stock ∙ ap (with_spare spare) is.1)

-- ---- the seat

-- it can write the same row for the operation
pub writes_exchanged : (live : Live) (m : PlainMachine) (row : ℕ) (its next : Seat ℕ View) → HasSameNumber its next → next.me ≡ (exchanges its.me.0, its.me.1) → CanWrite live m row its → CanWrite live m row next
writes_exchanged live m row its next same is can = record {
  seat = record {
    same_table = same.0 ∙ can.seat.same_table;
    same_plan = ap (λ (x : SeatState). x.0.plan) is ∙ can.seat.same_plan;
    role = ap (λ (x : SeatState). x.0.role) is ∙ can.seat.role;
  };
  at = ap (λ (x : SeatState). x.0.operation) is ∙ can.at;
  fits = can.fits;
  first_row = subst (λ (x : SeatState). IsFirst row x.0.call.rows × IsRowNumber live.counts row) (sym is) can.first_row;
  blank = ap (λ (x : SeatState). x.0.call.staged) is ∙ can.blank;
  may = subst (λ (x : SeatState). MayChange x.0 (key_of m.op)) (sym is) can.may;
}

decided_before : (m after : PlainMachine) (v : View) (share : Share) (seen : List Change) → Decided m after (exchanges v) share seen → Decided m after v share seen
decided_before m after v share seen (deciding none_yet answers) = Decided.deciding none_yet (record {
  before = answers.before;
  saw = answers.saw;
  answers = answers.answers;
  goes_on = answers.goes_on;
  keys = answers.keys;
  changes = answers.changes;
  own = answers.own;
})
decided_before m after v share seen (other same same_share) = Decided.other same same_share

-- the call has its numbers back, and those of the spare ones that are left are spare again
pub exchanged_and_back : (kind : Kind) (rows left : Span) (m after : PlainMachine) (me then last : SeatState) → PublishesFrom kind rows left (with_spare me.0.call.pages me.0.stock) m after (exchanges me.0, me.1) then → last ≡ (exchanges then.0, then.1)
    → PublishesFrom kind rows me.0.call.pages (with_spare left me.0.stock) m after me last
exchanged_and_back kind rows left m after me then last does back =
    let v : View = exchanges me.0 in
    let w : View = publishes_from v after does.way rows left does.share does.seen (with_spare me.0.call.pages me.0.stock) in
    let is : last ≡ (publishes_from me.0 after does.way rows me.0.call.pages does.share does.seen (with_spare left me.0.stock), me.1) = back ∙ ap (λ (x : SeatState). let y : SeatState = (exchanges x.0, x.1) in y) does.is in record {
      way = does.way;
      share = does.share;
      seen = does.seen;
      is = is;
      learns = record { saw = does.learns.saw; heard = does.learns.heard };
      decided = decided_before m after me.0 does.share does.seen does.decided;
      next = does.next;
      uses = does.uses;
      answers_at_end = does.answers_at_end;
      knows_own =
          let then_knows : KnowsItsOwn w = subst (λ (x : SeatState). KnowsItsOwn x.0) does.is does.knows_own in
          subst (λ (x : SeatState). KnowsItsOwn x.0) (sym is) (record { state = then_knows.state; changes = then_knows.changes });
      ends_with_own = let ends = does.ends_with_own in record { before = ends.before; made = ends.made; learns = record { saw = ends.learns.saw; heard = ends.learns.heard }; own = ends.own; last = ends.last };
    }
