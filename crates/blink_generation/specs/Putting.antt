-- What a refused operation makes of its session, and the change that a put makes.
use Rattle.std.specs.Prelude.{◌≡◌, ℕ, Some, None, List, ⊤}
use mathlib.Core.List.{IsPrefix}
use Rattle.blink_batch.specs.declared.Op.{Op}
use Rattle.blink_batch.specs.declared.Op.TheVariants.{Insert}
use Rattle.blink_batch.specs.{pointer_of}
use Rattle.blink_live.specs.declared.view.Change.{Change}
use Rattle.blink_live.specs.{after}
use Rattle.blink_generation.specs.declared.map.Map.{Map}
use Rattle.blink_generation.specs.declared.map.Session.{Session}
use Rattle.blink_generation.specs.Sessions.{IsSameBesideRoom, IsSameMember, made_by, opening_of, seen_by}

-- the session has made no change, and may have seen more
pub record HasTried (old new : Session) : Type 0 where
  pub saw : IsPrefix (seen_by old) (seen_by new)
  pub made : made_by new ≡ made_by old
  pub same_member : IsSameMember old.member new.member

-- there is a list of changes that goes on from all that the session had seen, and after it the key was absent. The session has seen
-- this list now
pub record WasAbsent (map : Map) (key : ℕ) (old new : Session) : Type 0 where
  pub before : List Change
  pub saw : IsPrefix (seen_by old) before
  pub absent : after (pointer_of (opening_of map)) before key ≡ None
  pub goes_on : IsPrefix before (seen_by new)

-- what a refused operation has made of its session: it is as it was, but for its rows and page numbers. An insertion has looked its key
-- up, so its session may have seen more
abbrev pub IsUnchangedBy : Op → Session → Session → Type 0
IsUnchangedBy (Insert key pointer) old new = HasTried old new
IsUnchangedBy op old new = IsSameBesideRoom old new

-- where the operation is an insertion, its key was absent
abbrev pub LacksKeyOf : Map → Op → Session → Session → Type 0
LacksKeyOf map (Insert key pointer) old new = WasAbsent map key old new
LacksKeyOf map op old new = ⊤

-- a change at a place by which the key has the pointer
abbrev pub change_to : ℕ → ℕ → ℕ → Change
change_to author key pointer = record { author = author; key = key; pointer = Some pointer }
