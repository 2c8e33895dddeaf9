-- Finds of several keys by one call.
use Rattle.std.specs.Prelude.{◌≡◌, ℕ, ◌≤◌, Option, None, List, [], ◌∷◌, Contains}
use mathlib.Core.List.{IsPrefix}
use Rattle.blink_live.specs.declared.view.View.{View}
use Rattle.blink_live.specs.Views.{IsAnnounced, SeatState, KnowsItsOwn, known_of}

-- each of these keys is one of the pass's own
abbrev pub AllAreOwn : List ℕ → List ℕ → Type 0
AllAreOwn own keys = (key : ℕ) → Contains keys key → Contains own key

-- one of these keys isn't one of the pass's own
abbrev pub HasForeign : List ℕ → List ℕ → Type 0
HasForeign own keys = (key : ℕ) × Contains keys key × (¬ Contains own key)

-- the seat has no operation under way, and knows what its share says of its own keys; its rows and page numbers are in order
pub record IsIdle (v : View) : Type 0 where
  pub idle : v.operation ≡ None
  pub rows : v.rows.next ≤ v.rows.stop
  pub pages : v.pages.next ≤ v.pages.stop
  pub knows_own : KnowsItsOwn v
  pub announced : IsAnnounced v

-- between finds the seat is idle, and it knows what it knew before them, except that it may have seen more
pub record HasSearched (first me : SeatState) : Type 0 where
  pub saw : IsPrefix first.0.seen me.0.seen
  pub idle : IsIdle me.0
  pub same_plan : me.0.plan ≡ first.0.plan
  pub same_role : me.0.role ≡ first.0.role
  pub same_place : me.0.place ≡ first.0.place
  pub same_rows : me.0.rows ≡ first.0.rows
  pub same_pages : me.0.pages ≡ first.0.pages
  pub same_share : me.0.share ≡ first.0.share
  pub same_told : me.0.told ≡ first.0.told
  pub same_stock : me.0.stock ≡ first.0.stock
  pub same_slots : me.1 ≡ first.1

-- finds of these keys, one after another, have answered so: each by the state of its key after all that the seat had seen by then
abbrev pub AreFound : SeatState → List ℕ → List (Option ℕ) → SeatState → Type 0
AreFound first [] [] last = HasSearched first last
AreFound first (key ∷ keys) (answer ∷ answers) last = (then : SeatState) × HasSearched first then × (answer ≡ known_of then.0 key) × AreFound then keys answers last
AreFound first keys answers last = ⊥
