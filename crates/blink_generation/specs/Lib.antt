-- What a caller of `blink_generation` reads, in this order; then the files themselves.

-- the operations that change a map
pub use Rattle.blink_machine.specs.{IsUpdate}
-- a map and its sessions
pub use Rattle.blink_generation.specs.Sessions.{AnswersAsSeen, HasRoom, IsAnswered, IsOpenedWith, IsTooLarge, IsSameBesideRoom, IsSameBesideSeen, IsSameSession, IsSessionOf, LacksRoom, LacksRoomInAll, made_by, opening_of, place_of, places_of, seen_by}
-- how a map opens: each session is the first of its place
pub use Rattle.blink_generation.specs.Opening.{AreFirstSessions, IsFirstAt}
-- an operation under way: which one it is, and the session before it
pub use Rattle.blink_generation.specs.Pendings.{GoesOn, HasBegun, IsPendingOf, op_of, session_of}
-- an operation that hasn't ended at once
pub use Rattle.blink_generation.specs.Starting.{HasStopped}
-- what a refused operation makes of its session, and an entry that is put
pub use Rattle.blink_generation.specs.Putting.{HasTried, IsUnchangedBy, LacksKeyOf, WasAbsent, change_to}
-- what a session has of rows and page numbers
pub use Rattle.blink_generation.specs.Stocks.{stock_of}
-- ---- for proofs above
pub use Rattle.blink_generation.specs.Sessions.{AnswersInOrder, IsSameMember}
-- ---- files that no crate above names
pub mod Common
pub mod Finding
pub mod Changing
pub mod Pendings
pub mod Telling
pub mod Drawing
pub mod Opening
pub mod Putting
pub mod Places
pub mod Sessions
pub mod Starting
pub mod Stocks
