-- Finds of several keys, and scans, by a member.
use Rattle.std.proofs.Common.{◌≡◌, ◌≤◌, ℕ, Option, List, [], ◌∷◌, Contains, sym, ap, ◌∙◌, subst, arith}
use mathlib.Core.List.{IsPrefix}
use Rattle.atomic_table.specs.Seated.{TableId}
use Rattle.blink_batch.specs.{pointer_of}
use Rattle.blink_batch.specs.declared.Entry.{Entry}
use Rattle.blink_rows.specs.declared.span.Span.{Span}
use Rattle.blink_live.specs.declared.live.Live.{Live}
use Rattle.blink_live.specs.declared.view.Change.{Change}
use Rattle.blink_live.specs.declared.view.Plan.{Plan}
use Rattle.blink_live.specs.declared.view.Share.{Share}
use Rattle.blink_live.specs.declared.view.View.{View}
use Rattle.blink_live.specs.{AreFound, HasSearched, IsIdle, IsPassSeat, SeatState, after, is_busy}
use Rattle.blink_generation.specs.declared.member.Member.{Member}
use Rattle.blink_generation.specs.Finding.{HasLooked}
use Rattle.blink_generation.specs.Places.{IsMemberOf}
use Rattle.blink_generation.specs.Sessions.{AnswersAsSeen}

no_key_in : (keys : List ℕ) (key : ℕ) → keys ≡ [] → Contains keys key → ⊥
no_key_in keys key none has = let has_none : Contains [] key = subst (λ (l : List ℕ). Contains l key) none has in let inside = has_none.1 in omega (arith, inside)

-- a member may find where its place is marked
pub can_look : (old : Member) (mark : ℕ) (me : SeatState) → 2 ≤ mark → me ≡ (is_busy old.seat.me.0 mark, old.seat.me.1) → IsIdle me.0
can_look old mark me works marked =
    let view = ap (λ (x : SeatState). x.0) marked in
    let no_key : me.0.share.keys ≡ [] = ap (λ (v : View). v.share.keys) view ∙ old.no_key in record {
      idle = ap (λ (v : View). v.operation) view ∙ old.idle;
      rows = subst (λ (s : Span). s.next ≤ s.stop) (old.rows_are ∙ sym (ap (λ (v : View). v.rows) view)) old.in_order.0;
      pages = subst (λ (s : Span). s.next ≤ s.stop) (old.pages_are ∙ sym (ap (λ (v : View). v.pages) view)) old.in_order.1;
      knows_own = record {
        state = λ key has. absurd (no_key_in me.0.share.keys key no_key has);
        changes = λ key has. absurd (no_key_in me.0.share.keys key no_key has);
      };
      announced = λ common. subst (λ (v : View). 2 ≤ v.busy) (sym view) works;
    }

module _ (old : Member) (mark : ℕ) (first found : SeatState) (marked : first ≡ (is_busy old.seat.me.0 mark, old.seat.me.1)) (searched : HasSearched first found) where
  -- afterwards the seat is still the member's
  pub is_still_its_seat : (live : Live) (table : TableId) → table ≡ old.seat.table_id → IsMemberOf live old → IsPassSeat live table found
  is_still_its_seat live table same its = record {
    same_table = same ∙ its.same_table;
    same_plan = searched.same_plan ∙ (ap (λ (x : SeatState). x.0.plan) marked ∙ its.same_plan);
    role = searched.same_role ∙ (ap (λ (x : SeatState). x.0.role) marked ∙ old.role_is);
  }

  -- and the member is as it was, except that it may have seen more
  pub has_looked : (new : Member) → new.seat.me ≡ (is_busy found.0 0, found.1) → new.seat.table_id ≡ old.seat.table_id → new.rows ≡ old.rows → new.pages ≡ old.pages → new.room.shelf ≡ old.room.shelf → HasLooked old new
  has_looked new now same_table same_rows same_pages same_shelf = record {
    saw = subst (λ (x : List Change × List Change). IsPrefix x.0 x.1) (λ i. (ap (λ (x : SeatState). x.0.seen) marked i, sym (ap (λ (x : SeatState). x.0.seen) now) i)) searched.saw;
    made = ap (λ (x : SeatState). x.0.share.changes) now ∙ ap (λ (s : Share). s.changes) (searched.same_share ∙ ap (λ (x : SeatState). x.0.share) marked);
    rows = same_rows;
    pages = same_pages;
    shelf = same_shelf;
    same_member = record {
      same_table = same_table;
      same_plan = ap (λ (x : SeatState). x.0.plan) now ∙ (searched.same_plan ∙ ap (λ (x : SeatState). x.0.plan) marked);
      same_place = ap (λ (x : SeatState). x.0.place) now ∙ (searched.same_place ∙ ap (λ (x : SeatState). x.0.place) marked);
    };
  }

-- what a seat has found is what it had seen
pub found_as_seen : (opening : List Entry) (keys : List ℕ) (answers : List (Option ℕ)) (first last : SeatState) → first.0.plan.opening ≡ opening → AreFound first keys answers last → AnswersAsSeen opening first.0.seen keys answers last.0.seen
found_as_seen opening [] [] first last same are = are.saw
found_as_seen opening (key ∷ keys) (answer ∷ answers) first last same are =
    let then : SeatState = are.0 in
    let same_then : then.0.plan.opening ≡ opening = ap (λ (p : Plan). p.opening) are.1.same_plan ∙ same in
    (then.0.seen, are.1.saw, are.2 ∙ ap (λ (entries : List Entry). after (pointer_of entries) then.0.seen key) same_then, found_as_seen opening keys answers then last same_then are.3)
found_as_seen opening [] (answer ∷ answers) first last same are = absurd are
found_as_seen opening (key ∷ keys) [] first last same are = absurd are
