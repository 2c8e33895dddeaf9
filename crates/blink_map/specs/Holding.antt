-- A session that is held, as contracts see it.
use Rattle.std.specs.Prelude.{◌≡◌, ℕ, Option, List, ◌++◌}
use mathlib.Core.List.{IsPrefix}
use Rattle.atomic_table.specs.declared.Seat.{Seat}
use Rattle.blink_batch.specs.declared.Answer.{Answer}
use Rattle.blink_batch.specs.declared.Entry.{Entry}
use Rattle.blink_batch.specs.declared.Op.{Op}
use Rattle.blink_batch.specs.{answer_at, key_of, pointer_of}
use Rattle.blink_live.specs.declared.view.Change.{Change}
use Rattle.blink_live.specs.{after, changes_made}
use Rattle.blink_generation.specs.declared.stock.Stock.{Stock}
use Rattle.blink_generation.specs.{stock_of}
use Rattle.blink_map.specs.declared.growing.GrowingMap.{GrowingMap}
use Rattle.blink_map.specs.declared.growing.Session.{Session}
use Rattle.blink_map.specs.declared.held.Held.{Held}
use Rattle.blink_map.specs.declared.slots.Current.{Current}
use Rattle.blink_map.specs.declared.slots.Known.{Known}
use Rattle.blink_map.specs.declared.slots.SlotView.{SlotView}
use Rattle.blink_map.specs.Own.{own_of}
use Rattle.blink_map.specs.Rule.{IsContinued, known_of}
use Rattle.blink_map.specs.Sessions.{opening_of}
use Rattle.blink_map.specs.Steps.{past_of}

-- what a session has seen, and has made, in all maps
abbrev pub known_to : Session → Known
known_to session = own_of session.seat.me.0

-- ---- a held session

-- it is one of this map's
pub record IsHeldOf (map : GrowingMap) (held : Held) : Type 0 where
  pub same_table : held.seat.table_id ≡ map.table.shared.table_id
  pub same_first : held.seat.me.0.first ≡ opening_of map

-- the number of its place, by which its changes are known
abbrev pub place_of_held : Held → ℕ
place_of_held held = held.slot

-- what it has seen and made: in the maps before the current one, and in that
abbrev pub known_by : Held → Known
known_by held = known_of (past_of held.seat.me.0.now) held.slot held.current

abbrev pub seen_by_held : Held → List Change
seen_by_held held = (known_by held).seen

abbrev pub made_by_held : Held → List Change
made_by_held held = (known_by held).made

-- its rows and page numbers in the current map
abbrev pub stock_of_held : Held → Stock
stock_of_held held = stock_of held.current.session

-- ---- what a call makes of it

-- the one is of the same place and the same map as the other
pub record HasSamePlace (old : Seat (Option Current) SlotView) (old_slot : ℕ) (new : Seat (Option Current) SlotView) (new_slot : ℕ) : Type 0 where
  pub same_table : new.table_id ≡ old.table_id
  pub same_first : new.me.0.first ≡ old.me.0.first
  pub same_place : new_slot ≡ old_slot

-- the session is held now: it has seen all that it had, and has made no change more
pub record IsHeldFrom (session : Session) (held : Held) : Type 0 where
  pub same_place : HasSamePlace session.seat session.slot held.seat held.slot
  pub knows : IsContinued (known_to session) (known_by held)

-- the session is free again, and has seen and made just what it had while it was held
pub record IsReleased (held : Held) (session : Session) : Type 0 where
  pub same_place : HasSamePlace held.seat held.slot session.seat session.slot
  pub knows : known_to session ≡ known_by held

-- it is as it was, except that it may have seen more
pub record IsHeldOn (old new : Held) : Type 0 where
  pub same_place : HasSamePlace old.seat old.slot new.seat new.slot
  pub knows : IsContinued (known_by old) (known_by new)

-- what an operation has answered to one who knew `old` and knows `new` now: there is a list of changes that goes on from all that it had
-- seen. The answer is that of the operation on the opening entries after this list, and the operation's own change follows the list at
-- once. It has seen both now, and has made this change and no other
pub record AnswersFrom (opening : List Entry) (op : Op) (place : ℕ) (old new : Known) (answer : Answer) : Type 0 where
  pub before : List Change
  pub saw : IsPrefix old.seen before
  pub answers : answer ≡ answer_at op (after (pointer_of opening) before (key_of op))
  pub goes_on : IsPrefix (before ++ changes_made place op (after (pointer_of opening) before (key_of op))) new.seen
  pub made : new.made ≡ old.made ++ changes_made place op (after (pointer_of opening) before (key_of op))

pub record IsAnsweredHeld (map : GrowingMap) (op : Op) (old new : Held) (answer : Answer) : Type 0 where
  pub in_order : AnswersFrom (opening_of map) op (place_of_held old) (known_by old) (known_by new) answer
  pub same_place : HasSamePlace old.seat old.slot new.seat new.slot
