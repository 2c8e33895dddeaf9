-- What a caller of `blink_map` reads, in this order; then the files themselves.

-- the operations that change a map
pub use Rattle.blink_machine.specs.{IsUpdate}
-- a map and its sessions
pub use Rattle.blink_map.specs.Sessions.{HasSameSlot, IsAnswered, IsSameBesideSeen, IsSameSession, IsSessionOf, is_fixed, made_by, opening_of, place_of, places_of, seen_by}
-- a session that is held
pub use Rattle.blink_map.specs.Holding.{AnswersFrom, HasSamePlace, IsAnsweredHeld, IsHeldFrom, IsHeldOf, IsHeldOn, IsReleased, known_by, known_to, made_by_held, place_of_held, seen_by_held, stock_of_held}
pub use Rattle.blink_map.specs.Rule.{IsContinued}
-- an operation of a held session under way: which one it is, and the session before it
pub use Rattle.blink_map.specs.Pendings.{GoesOn, HasBegun, HasStopped, IsPendingOf, held_of, op_of}
-- the places where sessions rest
pub use Rattle.blink_map.specs.Joining.{map_at}
-- how a map opens: each session is the first of its place
pub use Rattle.blink_map.specs.Opening.{AreFirstSessions, HasBadSessions, IsFirstAt, WhyNotInRoom, WhyNotOpened}
-- how a map closes
pub use Rattle.blink_map.specs.Closing.{IsClosedWith, IsListOf, IsUnclosed}
-- why a map wasn't renewed
pub use Rattle.blink_map.specs.Renewing.{IsRefusal, IsRefusalOf}
-- ---- files that no crate above names
pub mod Counts
pub mod Rule
pub mod Steps
pub mod Laid
pub mod Own
pub mod Taking
pub mod Held
pub mod Sessions
pub mod Holding
pub mod Pendings
pub mod Resting
pub mod Joining
pub mod Opening
pub mod Renewing
pub mod Closing
pub mod Telling
