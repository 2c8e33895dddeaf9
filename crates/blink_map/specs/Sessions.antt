-- A growing map and its sessions, as contracts see them.
use Rattle.std.specs.Prelude.{◌≡◌, ℕ, Bool, List, ◌++◌}
use mathlib.Core.List.{IsPrefix}
use Rattle.blink_batch.specs.declared.Answer.{Answer}
use Rattle.blink_batch.specs.declared.Entry.{Entry}
use Rattle.blink_batch.specs.declared.Op.{Op}
use Rattle.blink_batch.specs.{answer_at, key_of, pointer_of}
use Rattle.blink_index.specs.{map_of}
use Rattle.blink_live.specs.declared.view.Change.{Change}
use Rattle.blink_live.specs.{after, changes_made}
use Rattle.blink_map.specs.declared.growing.GrowingMap.{GrowingMap}
use Rattle.blink_map.specs.declared.growing.Session.{Session}
use Rattle.blink_map.specs.Own.{own_of}

-- the entries that the map was opened with
abbrev pub opening_of : GrowingMap → List Entry
opening_of map = map_of map.table.shared.key.index.value

-- the number of places for sessions
abbrev pub places_of : GrowingMap → ℕ
places_of map = map.table.shared.table_id.slots

-- whether the map keeps the room that it was opened with, and is never renewed
abbrev pub is_fixed : GrowingMap → Bool
is_fixed map = map.fixed

-- ---- a session

-- the session is one of this map's
pub record IsSessionOf (map : GrowingMap) (session : Session) : Type 0 where
  pub same_table : session.seat.table_id ≡ map.table.shared.table_id
  pub same_first : session.seat.me.0.first ≡ opening_of map

-- the number of the session's place, by which its changes are known
abbrev pub place_of : Session → ℕ
place_of session = session.slot

-- the changes of all keys that the session has seen, since the map was opened, in the order in which they happened
abbrev pub seen_by : Session → List Change
seen_by session = (own_of session.seat.me.0).seen

-- the changes that the session has made, in their order
abbrev pub made_by : Session → List Change
made_by session = (own_of session.seat.me.0).made

-- ---- what a call makes of it

-- the session is that of the same place, of the same map
pub record HasSameSlot (old new : Session) : Type 0 where
  pub same_table : new.seat.table_id ≡ old.seat.table_id
  pub same_first : new.seat.me.0.first ≡ old.seat.me.0.first
  pub same_place : place_of new ≡ place_of old

-- the session is as it was
pub record IsSameSession (old new : Session) : Type 0 where
  pub seen : seen_by new ≡ seen_by old
  pub made : made_by new ≡ made_by old
  pub same_slot : HasSameSlot old new

-- the session is as it was, except that it may have seen more
pub record IsSameBesideSeen (old new : Session) : Type 0 where
  pub saw : IsPrefix (seen_by old) (seen_by new)
  pub made : made_by new ≡ made_by old
  pub same_slot : HasSameSlot old new

-- what an operation has answered: there is a list of changes that goes on from all that the session had seen. The answer is that of the
-- operation on the opening entries after this list, and the operation's own change follows the list at once. The session has seen both
-- now, and has made this change and no other
pub record AnswersInOrder (opening : List Entry) (op : Op) (old new : Session) (answer : Answer) : Type 0 where
  pub before : List Change
  pub saw : IsPrefix (seen_by old) before
  pub answers : answer ≡ answer_at op (after (pointer_of opening) before (key_of op))
  pub goes_on : IsPrefix (before ++ changes_made (place_of old) op (after (pointer_of opening) before (key_of op))) (seen_by new)
  pub made : made_by new ≡ made_by old ++ changes_made (place_of old) op (after (pointer_of opening) before (key_of op))

pub record IsAnswered (map : GrowingMap) (op : Op) (old new : Session) (answer : Answer) : Type 0 where
  pub in_order : AnswersInOrder (opening_of map) op old new answer
  pub same_slot : HasSameSlot old new
