-- What this crate offers to the proofs of the crates above.

-- the entries of some keys map these as all entries do
pub use Rattle.blink_live.proofs.dealt.KeysOfShare.{among_from_contains, entries_of_keep}
-- where the keeper has seen nothing, it deals the opening entries, and no change
pub use Rattle.blink_live.proofs.dealt.NothingSeen.{known_entries-opening, no_changes-new}
-- what an operation adds to its pass's own changes, key by key; and these are what the pass has seen of its own keys
pub use Rattle.blink_live.proofs.changed.OwnChangesByKey.{own_changes-own_key, own_changes-other_key, own_changes-are_seen}
-- of a longer list a key has more states, it maps to the last of them, and where there are no more than before, it maps to the same
pub use Rattle.blink_live.proofs.told.PrefixesOfOneList.{prefix_of_prefix}
pub use Rattle.blink_live.proofs.told.StatesOfKeys.{states_of-prefix, after-last_state, after-exactly, prefixes_of_each_other, last_state-push}
-- the entries of a closed table
pub use Rattle.blink_live.proofs.closed.EntriesOfMerge.{entry-of_share, entry-of_opening}
-- a pass's latch number is at least the row that its keeper dealt first, and below the one that the keeper deals next
pub use Rattle.blink_live.proofs.dealt.LatchNumbers.{latch_number-from_keeper, latch_number-before_rest}
-- a pending operation may go to another thread
pub use Rattle.blink_live.proofs.changed.PendingsAreSent.{pending_send}
-- an operation that has ended: what it has answered, and whose its seat is; what it hasn't used can be given back
pub use Rattle.blink_live.proofs.changed.UpdatesGoOn.{IsAfterCall, after_call, at_end, is_its_seat}
-- a seat with the stock that it had has its shelf's
pub use Rattle.blink_live.proofs.changed.RowsAreLent.{shelved_so}
-- of two prefixes of one list one is a prefix of the other
pub use Rattle.blink_live.proofs.told.PrefixesOfOneList.{prefixes_of_one_list}
-- the state that more changes leave of a key
pub use Rattle.blink_live.proofs.changed.ChangesAreTheMaps.{after-append}
-- changes by one author, and the changes made at a place
pub use Rattle.blink_live.proofs.table.AccountsStay.{AreBy, authors_of_prefix, made_at-append, made_elsewhere, made_between, made_here, nothing_more, prefix_made}
-- what a slice has when its first places are filled
pub use Rattle.blink_live.proofs.scanned.PlacesAreFilled.{first_places, other_places}
-- an operation goes on under another mark
pub use Rattle.blink_live.proofs.changed.OperationsRest.{marked, under_way_marked}
-- how many rows an operation takes
pub use Rattle.blink_live.proofs.changed.RowsTaken.{enough_taken, few_taken, less_space, taken_in_order}
-- a session's seat marks its place, and takes back what its call hasn't used
pub use Rattle.blink_live.proofs.changed.PlacesAreMarked.{place_is_marked}
pub use Rattle.blink_live.proofs.changed.RoomComesBack.{room_comes_back}
-- rows wait until each place is past, and are free then; the last row of a span is free too
pub use Rattle.blink_live.proofs.reuse.RowsWait.{begins_wait_at, checks_place_at, collects_at, sees_place_at}
pub use Rattle.blink_live.proofs.reuse.RowsAreFreed.{frees_row_at}
-- the pool's words are drawn from
pub use Rattle.blink_live.proofs.changed.PoolIsDrawn.{pages_are_drawn, pages_are_joined, rows_are_drawn}
-- a table with places opens
pub use Rattle.blink_live.proofs.opened.PlacesAreLaid.{laid_common}
pub use Rattle.blink_live.proofs.opened.OpeningIsTable.{opens, plan_over}
-- a seat's note is a seat of its own, and another seat takes it
pub use Rattle.blink_live.proofs.told.NotesKeepTable.{hearing_keeps_table, note_keeps_table}
-- its host sees what sessions told it, and takes their accounts; what is there at the end
pub use Rattle.blink_live.proofs.told.LooksUpKeepTable.{host_looks_up_prime}
pub use Rattle.blink_live.proofs.closed.AccountsComeBack.{taking_account_keeps_table}
pub use Rattle.blink_live.proofs.closed.CommonTableAtTheEnd.{AreIdle, rests_at_end}
pub use Rattle.blink_live.proofs.closed.EntriesOfStore.{map_is}
pub use Rattle.blink_live.proofs.closed.LeavesAtTheEnd.{leaves_at_end}
pub use Rattle.blink_live.proofs.gathered.RowIsOfKeptPage.{word_there}
