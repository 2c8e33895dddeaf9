-- What a caller of `blink_live` reads, in this order; then what proofs above it need; then the files themselves.

-- a table, its keeper and its passes, as contracts see them
pub use Rattle.blink_live.specs.Handles.{IsChangedBy, IsKeeperOf, IsOpened, IsPassOf, IsSameBesideSeen, IsSamePass, KnowsItsKeys, OneIsPrefix, SawAllOf, SawPrefixOf, counts_of, fan_of, keys_of, opening_of, own_changes_of, known_entries, passes_dealt, passes_out, seen_by, seen_of, share_of, taken_of}
-- the changes of all keys, in the order in which they happened, and the state that they leave of the opening entries
pub use Rattle.blink_live.specs.Changes.{after}
-- the number of changes that some rows and page numbers are enough for
pub use Rattle.blink_live.specs.Allowed.{AreForChanges, IsTooLarge, deletes_left, inserts_left}
-- what a deal gives and a pass leaves that comes back, and the refusals of a deal
pub use Rattle.blink_live.specs.Deals.{HasDealt, HasRetired, IsDealRefusal, IsDealt, IsFirstTaken, LacksAllowance, NoneIsTaken}
-- what becomes of two passes between which keys change hands, and the refusals of that
pub use Rattle.blink_live.specs.Handing.{AllAreYours, HasGiven, HasReceived, IsFirstForeign, IsHandRefusal, IsHanded}
-- the keys of a call that finds several: one of them isn't the pass's
pub use Rattle.blink_live.specs.Finding.{HasForeign}
-- what a scan reports of a range of keys while others change them
pub use Rattle.blink_live.specs.Scanning.{IsReport, ReportLaw, ReportTells, SaysOfKeys, StoppedFull, stop_of}
-- the same of a backward scan
pub use Rattle.blink_live.specs.ScanningBack.{IsDescending, IsReportBack, ReportBackLaw, start_of}
-- what a snapshot says of a range of keys: all of it in one tree state
pub use Rattle.blink_live.specs.Snapshots.{IsSnapshot}
-- an operation under way: the pass before it, which one it is, and what it waits for
pub use Rattle.blink_live.specs.Pendings.{HasBegun, IsPendingOf, IsWaiting, op_of, pass_of}
-- the entries of a table when all its passes are back: the merge of their shares
pub use Rattle.blink_live.specs.Merge.{IsMerge}
-- the code of each refusal
pub use Rattle.blink_live.specs.Codes.{code_of, code_of_hand, code_of_pass}
-- the views of seats: how they begin, and what each kind of step makes of them
pub use Rattle.blink_live.specs.Views.{SawItsOwn, spent}
-- the layout of a table's words: where its rows stand, and which rows hold pages
pub use Rattle.blink_live.specs.Words.{word_count}
-- the tree at rest that words hold, and the store that it is copied into
pub use Rattle.blink_live.specs.Gathered.{IsNumberedInOrder}
-- ---- for proofs above
pub use Rattle.blink_live.specs.Handles.{place_of, seen_changes_of}
pub use Rattle.blink_live.specs.Changes.{changes_made, has_changed, last_state, put, states_of}
pub use Rattle.blink_live.specs.Deals.{no_allowance, no_memory, rows_for, taken}
pub use Rattle.blink_live.specs.Views.{CanBegin, IsCommon, SeatState, back_in, dealt_in, first_view, has_pages, has_rows, hears, is_busy, latch_in, no_aside, no_plan, no_stock, note_of, pages_of, plan_of, rows_of, rows_taken, span, takes_account}
pub use Rattle.blink_live.specs.Accounts.{AreApart, HaveAuthors, KnowsAuthors, account_of, accounts_in, accounts_of, made_at}
pub use Rattle.blink_live.specs.Reuse.{IsWithin}
pub use Rattle.blink_live.specs.ComingBack.{ChecksPlace, begins_to_wait, checks_place, frees_last, gets_waiting, sees_mark, sees_place, with_stock}
pub use Rattle.blink_live.specs.Shelves.{HasOtherRows, HasOtherStock, HasSpaceFor, IsShelved, IsShelved-prop, free_in, rows_on, stock_of}
pub use Rattle.blink_live.specs.Allowed.{changes_left, length_of}
pub use Rattle.blink_live.specs.Merge.{KeepsTree}
pub use Rattle.blink_live.specs.Rule.{IsTable, IsTableAt}
pub use Rattle.blink_live.specs.AtomicSteps.{Draws, LooksUp, draws_pages, draws_rows, marks_place}
pub use Rattle.blink_live.specs.Spares.{spare_on}
pub use Rattle.blink_live.specs.Seats.{HasSameNumber, IsIdleIn, IsPassSeat, IsSameSeat}
pub use Rattle.blink_live.specs.Updating.{HasDecided, HasEnded, HasRowsFor, IsUnderWay, decided, not_yet}
pub use Rattle.blink_live.specs.Straight.{HasCome}
pub use Rattle.blink_live.specs.Pendings.{for_latch, for_level}
pub use Rattle.blink_live.specs.Finding.{AreFound, HasSearched, IsIdle}
pub use Rattle.blink_live.specs.Scanning.{IsBetween}
pub use Rattle.blink_live.specs.Words.{place_word, pool_page, pool_row}
pub use Rattle.blink_live.specs.Laid.{IsLaid}
pub use Rattle.blink_live.specs.Leaves.{KeepsLeaves}
pub use Rattle.blink_live.specs.Renumbered.{numbers_from}
pub use Rattle.blink_live.specs.GivingBack.{CanGiveBack, gives_back}
pub use Rattle.blink_live.specs.GivingUp.{HasGivenUp, gives_up}
-- ---- files that no crate above names
pub mod Handles
pub mod Changes
pub mod Accounts
pub mod Looks
pub mod Reuse
pub mod ComingBack
pub mod Shelves
pub mod Allowed
pub mod Deals
pub mod Merge
pub mod Codes
pub mod Rule
pub mod Views
pub mod AtomicSteps
pub mod Spares
pub mod Seats
pub mod Updating
pub mod Straight
pub mod Pendings
pub mod Dealing
pub mod Retiring
pub mod Parcels
pub mod Handing
pub mod Finding
pub mod Scanning
pub mod Editing
pub mod ScanningBack
pub mod Snapshots
pub mod Along
pub mod KeyTest
pub mod Words
pub mod Laid
pub mod Laying
pub mod Gathered
pub mod ToCome
pub mod Leaves
pub mod Renumbered
pub mod GivingBack
pub mod GivingUp
pub mod Additions
