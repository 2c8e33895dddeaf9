-- A map and its sessions, as contracts see them.
use Rattle.std.specs.Prelude.{◌≡◌, ℕ, ◌+◌, ◌≤◌, ◌<◌, Option, List, [], ◌∷◌, ◌++◌, length}
use mathlib.Core.List.{IsPrefix}
use Rattle.blink_batch.specs.declared.Answer.{Answer}
use Rattle.blink_batch.specs.declared.Entry.{Entry}
use Rattle.blink_batch.specs.declared.Op.{Op}
use Rattle.blink_batch.specs.{answer_at, key_of, pointer_of}
use Rattle.blink_index.specs.{map_of}
use Rattle.blink_page.specs.declared.limits.TheConstants.{MAX_PAGE}
use Rattle.blink_store.specs.{PlainStore}
use Rattle.blink_live.specs.declared.live.Live.{Live}
use Rattle.blink_live.specs.declared.view.Change.{Change}
use Rattle.blink_live.specs.{HasSpaceFor, after, changes_made, free_in, length_of, opening_of as opening_of_table, pages_of, rows_of, rows_on}
use Rattle.blink_generation.specs.declared.map.Map.{Map}
use Rattle.blink_generation.specs.declared.map.Room.{Room}
use Rattle.blink_generation.specs.declared.map.Session.{Session}
use Rattle.blink_generation.specs.declared.member.Member.{Member}
use Rattle.blink_generation.specs.Places.{IsMemberOf}

-- the entries that the map was opened with
abbrev pub opening_of : Map → List Entry
opening_of map = opening_of_table map.live

-- the number of places for sessions
abbrev pub places_of : Map → ℕ
places_of map = map.live.places

-- ---- a session

-- the session is one of this map's
pub record IsSessionOf (map : Map) (session : Session) : Type 0 where
  pub member : IsMemberOf map.live session.member

abbrev pub seen_of_member : Member → List Change
seen_of_member member = member.seat.me.0.seen

abbrev pub made_by_member : Member → List Change
made_by_member member = member.seat.me.0.share.changes

-- the number of the member's place, by which its changes are known
abbrev pub place_of_member : Member → ℕ
place_of_member member = member.seat.me.0.place

abbrev pub place_of : Session → ℕ
place_of session = place_of_member session.member

-- the changes of all keys that the session has seen, in the order in which they happened
abbrev pub seen_by : Session → List Change
seen_by session = seen_of_member session.member

-- what the opening entries of a table and all that the member has seen say of a key
abbrev pub state_seen : Live → Member → ℕ → Option ℕ
state_seen live member key = after (pointer_of (opening_of_table live)) (seen_of_member member) key

-- the changes that operations at the session's place have made, in their order: those of the session, behind those of the sessions
-- that had the place before
abbrev pub made_by : Session → List Change
made_by session = made_by_member session.member

-- the member has the rows that the operation may need, those of its span and the free ones of its shelf together, and the page
-- numbers; and its shelf has room for as many rows that are taken out
pub record HasRoom (op : Op) (member : Member) : Type 0 where
  pub enough_rows : rows_of op ≤ length_of member.rows + free_in member.room.shelf
  pub enough_pages : pages_of op ≤ length_of member.pages
  pub space : HasSpaceFor member.room.shelf (rows_of op)

-- it has them once all rows that it has taken out have come back
pub record HasRoomInAll (op : Op) (member : Member) : Type 0 where
  pub enough_rows : rows_of op ≤ length_of member.rows + rows_on member.room.shelf
  pub enough_pages : pages_of op ≤ length_of member.pages

-- the session lacks them even then
abbrev pub LacksRoomInAll : Op → Session → Type 0
LacksRoomInAll op session = ¬ HasRoomInAll op session.member

-- ---- what a call makes of it

-- the member is that of the same seat, in the same table
pub record IsSameMember (old new : Member) : Type 0 where
  pub same_table : new.seat.table_id ≡ old.seat.table_id
  pub same_plan : new.seat.me.0.plan ≡ old.seat.me.0.plan
  pub same_place : place_of_member new ≡ place_of_member old

-- the session is as it was, except that it may have seen more
pub record IsSameBesideSeen (old new : Session) : Type 0 where
  pub saw : IsPrefix (seen_by old) (seen_by new)
  pub made : made_by new ≡ made_by old
  pub rows : new.member.rows ≡ old.member.rows
  pub pages : new.member.pages ≡ old.member.pages
  pub shelf : new.member.room.shelf ≡ old.member.room.shelf
  pub same_member : IsSameMember old.member new.member

-- the session is as it was
pub record IsSameSession (old new : Session) : Type 0 where
  pub seen : seen_by new ≡ seen_by old
  pub made : made_by new ≡ made_by old
  pub rows : new.member.rows ≡ old.member.rows
  pub pages : new.member.pages ≡ old.member.pages
  pub shelf : new.member.room.shelf ≡ old.member.room.shelf
  pub same_member : IsSameMember old.member new.member

-- what an operation of a member has answered: there is a list of changes that goes on from all that the member had seen. The answer
-- is that of the operation on the opening entries after this list, and the operation's own change follows the list at once. The
-- member has seen both now, and has made this change and no other
pub record AnswersInOrder (opening : List Entry) (op : Op) (old new : Member) (answer : Answer) : Type 0 where
  pub before : List Change
  pub saw : IsPrefix (seen_of_member old) before
  pub answers : answer ≡ answer_at op (after (pointer_of opening) before (key_of op))
  pub goes_on : IsPrefix (before ++ changes_made (place_of_member old) op (after (pointer_of opening) before (key_of op))) (seen_of_member new)
  pub made : made_by_member new ≡ made_by_member old ++ changes_made (place_of_member old) op (after (pointer_of opening) before (key_of op))

-- the same of a session
pub record IsAnswered (map : Map) (op : Op) (old new : Session) (answer : Answer) : Type 0 where
  pub in_order : AnswersInOrder (opening_of map) op old.member new.member answer
  pub same_member : IsSameMember old.member new.member

-- these are the answers to these keys, one after another, of a session that had seen `old` and has seen `new` now: each is what the
-- opening entries say of its key after all that the session had seen by then
abbrev pub AnswersAsSeen : List Entry → List Change → List ℕ → List (Option ℕ) → List Change → Type 0
AnswersAsSeen opening old [] [] new = IsPrefix old new
AnswersAsSeen opening old (key ∷ keys) (answer ∷ answers) new = (seen : List Change) × IsPrefix old seen × (answer ≡ after (pointer_of opening) seen key) × AnswersAsSeen opening seen keys answers new
AnswersAsSeen opening old keys answers new = ⊥

-- the session had not the room that the operation may need, and has it not now, though it drew what it could and took back what had
-- come back
pub record LacksRoom (op : Op) (old new : Session) : Type 0 where
  pub before : ¬ HasRoom op old.member
  pub still : ¬ HasRoom op new.member

-- the session is as it was, but for its rows and page numbers
pub record IsSameBesideRoom (old new : Session) : Type 0 where
  pub seen : seen_by new ≡ seen_by old
  pub made : made_by new ≡ made_by old
  pub same_member : IsSameMember old.member new.member

-- ---- how a map opens

-- the map is over this index, with such room
pub record IsOpenedWith (store : PlainStore) (room : Room) (map : Map) : Type 0 where
  pub same_opening : opening_of map ≡ map_of store
  pub same_fan : map.live.fan ≡ store.fan
  pub numbers : map.live.counts.numbers ≡ 1 + length store.pages + room.pages
  pub rows : map.live.counts.rows ≡ 1 + length store.pages + room.rows
  pub places : places_of map ≡ room.sessions

-- the index needs more page numbers than there are
abbrev pub IsTooLarge : ℕ → Room → Type 0
IsTooLarge count room = MAX_PAGE < count + room.pages
