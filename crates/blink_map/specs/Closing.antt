-- What a growing map says when it closes, of the sessions that come back.
use Rattle.std.specs.Prelude.{◌≡◌, ◌≢◌, ℕ, ◌<◌, ◌^◌, Option, List, [], map, All, AllPairs}
use mathlib.Core.Option.{some}
use mathlib.Core.List.{IsPrefix}
use lib.ListN.{get_elem?}
use Rattle.atomic_table.specs.declared.Seat.{Seat}
use Rattle.blink_batch.specs.declared.Entry.{Entry}
use Rattle.blink_batch.specs.{pointer_of}
use Rattle.blink_live.specs.declared.view.Change.{Change}
use Rattle.blink_live.specs.{HaveAuthors, after, made_at}
use Rattle.blink_map.specs.declared.growing.GrowingMap.{GrowingMap}
use Rattle.blink_map.specs.declared.growing.Session.{Session}
use Rattle.blink_map.specs.declared.growing.Unclosed.{Unclosed}
use Rattle.blink_map.specs.declared.slots.Current.{Current}
use Rattle.blink_map.specs.declared.slots.SlotView.{SlotView}
use Rattle.blink_map.specs.Own.{own_of}
use Rattle.blink_map.specs.Renewing.{IsRefusal}
use Rattle.blink_map.specs.Rule.{Account}
use Rattle.blink_map.specs.Steps.{AreAllTaken}
use Rattle.blink_map.specs.Sessions.{made_by, opening_of, place_of, places_of, seen_by}

-- the list of changes goes on from all that each of these sessions has seen. Each change was made at one of the map's places: at those
-- of these sessions, no two of which have one place, exactly what is counted as theirs
pub record IsListOf (growing : GrowingMap) (sessions : List Session) (final : List Change) : Type 0 where
  pub saw : All (λ (session : Session). IsPrefix (seen_by session) final) sessions
  pub authors : HaveAuthors (places_of growing) final
  pub made : All (λ (session : Session). made_at (place_of session) final ≡ made_by session) sessions
  pub apart : AllPairs (λ (one other : Session). place_of one ≢ place_of other) sessions

-- the entries are the opening ones after such a list of changes: that of all maps, one behind the other
pub record IsClosedWith (growing : GrowingMap) (sessions : List Session) (entries : List Entry) : Type 0 where
  pub final : List Change
  pub is_list : IsListOf growing sessions final
  pub kept : (key : ℕ) → key < 2 ^ 64 → pointer_of entries key ≡ after (pointer_of (opening_of growing)) final key

-- the map and the sessions come back
pub record IsUnclosed (growing : GrowingMap) (sessions : List Session) (unclosed : Unclosed) : Type 0 where
  pub same_map : unclosed.map ≡ growing
  pub same_sessions : unclosed.sessions.items ≡ sessions
  pub refusal : IsRefusal unclosed.refusal

-- ---- how it is known

-- the account of the session
abbrev pub account_of : Session → Account
account_of session = (place_of session, own_of session.seat.me.0)

-- the seat has taken all slots, and all that was known there is in one list of changes, which leaves these entries of the opening ones
pub record HasEnded (growing : GrowingMap) (seat : Seat (Option Current) SlotView) (entries : List Entry) : Type 0 where
  pub final : List Change
  pub same_table : seat.table_id ≡ growing.table.shared.table_id
  pub same_slots : seat.me.0.slots ≡ places_of growing
  pub no_account : seat.me.0.accounts ≡ []
  pub all : AreAllTaken (places_of growing) seat.me.0.taken
  pub saw : (k : ℕ) (one : Account) → get_elem? seat.me.0.taken k ≡ some one → IsPrefix one.1.seen final
  pub made : (k : ℕ) (one : Account) → get_elem? seat.me.0.taken k ≡ some one → one.1.made ≡ made_at one.0 final
  pub authors : HaveAuthors (places_of growing) final
  pub kept : (key : ℕ) → key < 2 ^ 64 → pointer_of entries key ≡ after (pointer_of (opening_of growing)) final key

-- the seat has the accounts of these sessions, and has taken the same slots as before
pub record HasJoined (sessions : List Session) (old new : Seat (Option Current) SlotView) : Type 0 where
  pub same_table : new.table_id ≡ old.table_id
  pub taken : new.me.0.taken ≡ old.me.0.taken
  pub accounts : new.me.0.accounts ≡ map account_of sessions
