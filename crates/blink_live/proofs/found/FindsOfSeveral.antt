-- Several finds by one call: what the seat knows between them.
use Rattle.std.proofs.Common.{◌≡◌, ◌≢◌, ◌+◌, ◌≤◌, ℕ, List, [], ◌∷◌, ◌++◌, Option, Some, None, Contains, map, refl, sym, ap, ◌∙◌, subst, arith, append-nil}
use Rattle.std.proofs.lemmas.List.Elements.{Contains-append_right}
use mathlib.Core.List.{IsPrefix}
use Rattle.atomic_table.specs.Seated.{TableId}
use Rattle.atomic_table.specs.declared.Seat.{Seat}
use Rattle.blink_batch.specs.declared.Answer.{Answer}
use Rattle.blink_batch.specs.declared.Answer.TheVariants.{Found}
use Rattle.blink_batch.specs.declared.Op.TheVariants.{Find}
use Rattle.blink_batch.specs.{answer_at, pointer_of}
use Rattle.blink_rows.specs.declared.span.Span.{Span}
use Rattle.blink_live.specs.declared.live.Live.{Live}
use Rattle.blink_live.specs.declared.live.Pass.{Pass}
use Rattle.blink_live.specs.declared.view.Share.{Share}
use Rattle.blink_live.specs.declared.view.View.{View}
use Rattle.blink_live.specs.Finding.{AllAreOwn, AreFound, HasSearched, IsIdle}
use Rattle.blink_live.specs.Seats.{IsPassSeat, IsSameSeat}
use Rattle.blink_live.specs.Views.{IsCommon, CanBegin, KnowsItsOwn, SameBesideReads, SeatState, for_call, known_of, span}
use Rattle.blink_live.proofs.told.PrefixesOfOneList.{prefix_of_prefix}

pub can_find : (key : ℕ) (v : View) → IsIdle v → CanBegin v (Find key)
can_find key v idle = let rows = idle.rows in let pages = idle.pages in record { rows = omega (arith, rows); pages = omega (arith, pages); announced = idle.announced }

-- a pass can begin a find at any time
pub pass_can_find : (pass : Pass) (key : ℕ) → CanBegin pass.seat.me.0 (Find key)
pass_can_find pass key =
    let rows : pass.seat.me.0.rows.next ≤ pass.seat.me.0.rows.stop = subst (λ (s : Span). s.next ≤ s.stop) pass.rows_are pass.in_order.0 in
    let pages : pass.seat.me.0.pages.next ≤ pass.seat.me.0.pages.stop = subst (λ (s : Span). s.next ≤ s.stop) pass.pages_are pass.in_order.1 in
    record { rows = omega (arith, rows); pages = omega (arith, pages); announced = λ common. absurd (let none = pass.owned in omega (arith, none, common)) }

pub searched_none : (me : SeatState) → IsIdle me.0 → HasSearched me me
searched_none me idle = record {
  saw = ([], append-nil me.0.seen);
  idle = idle;
  same_plan = refl;
  same_role = refl;
  same_place = refl;
  same_rows = refl;
  same_pages = refl;
  same_share = refl;
  same_told = refl;
  same_stock = refl;
  same_slots = refl;
}

pub searched_more : (u v w : SeatState) → HasSearched u v → HasSearched v w → HasSearched u w
searched_more u v w first second = record {
  saw = prefix_of_prefix u.0.seen v.0.seen w.0.seen first.saw second.saw;
  idle = second.idle;
  same_plan = second.same_plan ∙ first.same_plan;
  same_role = second.same_role ∙ first.same_role;
  same_place = second.same_place ∙ first.same_place;
  same_rows = second.same_rows ∙ first.same_rows;
  same_pages = second.same_pages ∙ first.same_pages;
  same_share = second.same_share ∙ first.same_share;
  same_told = second.same_told ∙ first.same_told;
  same_stock = second.same_stock ∙ first.same_stock;
  same_slots = second.same_slots ∙ first.same_slots;
}

-- a find takes no row and no page number
pub takes_none : (s : Span) → span (s.next + 0) s.stop ≡ s
takes_none s = let same : s.next + 0 ≡ s.next = omega arith in λ i. span (same i) s.stop

pub searched_once : (key : ℕ) (me new : SeatState) → IsIdle me.0 → IsPrefix me.0.seen new.0.seen → KnowsItsOwn new.0 → new.0.operation ≡ None → SameBesideReads (for_call me.0 (Find key)) new.0 → new.1 ≡ me.1 → HasSearched me new
searched_once key me new was saw own ended same slots =
    let rows : new.0.rows ≡ me.0.rows = ap (λ (v : View). v.rows) same ∙ takes_none me.0.rows in
    let pages : new.0.pages ≡ me.0.pages = ap (λ (v : View). v.pages) same ∙ takes_none me.0.pages in record {
      saw = saw;
      idle = record {
        idle = ended;
        rows = subst (λ (s : Span). s.next ≤ s.stop) (sym rows) was.rows;
        pages = subst (λ (s : Span). s.next ≤ s.stop) (sym pages) was.pages;
        knows_own = own;
        announced = λ common. subst (λ (v : View). 2 ≤ v.busy) (sym same) (was.announced (subst (λ (v : View). IsCommon v.plan) same common));
      };
      same_plan = ap (λ (v : View). v.plan) same;
      same_role = ap (λ (v : View). v.role) same;
      same_place = ap (λ (v : View). v.place) same;
      same_rows = rows;
      same_pages = pages;
      same_share = ap (λ (v : View). v.share) same;
      same_told = ap (λ (v : View). v.told) same;
      same_stock = ap (λ (v : View). v.stock) same;
      same_slots = slots;
    }

-- the seat is still the pass's
pub searched_seat : (live : Live) (before table : TableId) (first me : SeatState) → table ≡ before → HasSearched first me → IsPassSeat live before first → IsPassSeat live table me
searched_seat live before table first me same searched seat = record {
  same_table = same ∙ seat.same_table;
  same_plan = searched.same_plan ∙ seat.same_plan;
  role = searched.same_role ∙ seat.role;
}

-- and so it is after a read that leaves it as it was
pub same_seat : (live : Live) (old new : Seat ℕ View) → IsSameSeat old new → IsPassSeat live old.table_id old.me → IsPassSeat live new.table_id new.me
same_seat live old new same seat = record {
  same_table = same.0 ∙ seat.same_table;
  same_plan = ap (λ (x : SeatState). x.0.plan) same.2 ∙ seat.same_plan;
  role = ap (λ (x : SeatState). x.0.role) same.2 ∙ seat.role;
}

-- the answer of a find as a pointer
pub pointer_found : (key pointer : ℕ) (kept : Option ℕ) → Found pointer ≡ answer_at (Find key) kept → Some pointer ≡ kept
pointer_found key pointer None is = absurd (cc)
pointer_found key pointer (Some other) is = cc

pub none_found : (key : ℕ) (answer : Answer) (kept : Option ℕ) → ((pointer : ℕ) → answer ≢ Found pointer) → answer ≡ answer_at (Find key) kept → None ≡ kept
none_found key answer None other is = refl
none_found key answer (Some pointer) other is = absurd (other pointer is)

-- one find more
pub found_one_more : (keys : List ℕ) (answers : List (Option ℕ)) (first last then : SeatState) (key : ℕ) (answer : Option ℕ) → AreFound first keys answers last → HasSearched last then → answer ≡ known_of then.0 key
    → AreFound first (keys ++ key ∷ []) (answers ++ answer ∷ []) then
found_one_more [] [] first last then key answer are more is = (then, searched_more first last then are more, is, searched_none then more.idle)
found_one_more (one ∷ keys) (its ∷ answers) first last then key answer are more is = (are.0, are.1, are.2, found_one_more keys answers are.0 last then key answer are.3 more is)
found_one_more [] (its ∷ answers) first last then key answer are more is = absurd are
found_one_more (one ∷ keys) [] first last then key answer are more is = absurd are

-- finds of a seat's own keys have answered by its share
pub own_found : (keys : List ℕ) (answers : List (Option ℕ)) (first last : SeatState) → AllAreOwn first.0.share.keys keys → AreFound first keys answers last → answers ≡ map (pointer_of first.0.share.entries) keys
own_found [] [] first last own are = refl
own_found (key ∷ keys) (answer ∷ answers) first last own are =
    let then : SeatState = are.0 in
    let share : then.0.share ≡ first.0.share = are.1.same_share in
    let here : Contains (key ∷ keys) key = (0, omega arith, refl) in
    let own_then : AllAreOwn then.0.share.keys (key ∷ keys) = subst (λ (s : Share). AllAreOwn s.keys (key ∷ keys)) (sym share) own in
    let now : answer ≡ pointer_of first.0.share.entries key = are.2 ∙ (are.1.idle.knows_own.state key (own_then key here) ∙ ap (λ (s : Share). pointer_of s.entries key) share) in
    let rest : answers ≡ map (pointer_of first.0.share.entries) keys = own_found keys answers then last (λ other has. own_then other (Contains-append_right (key ∷ []) keys other has)) are.3 ∙ ap (λ (s : Share). map (pointer_of s.entries) keys) share in
    λ i. now i ∷ rest i
own_found [] (answer ∷ answers) first last own are = absurd are
own_found (key ∷ keys) [] first last own are = absurd are
