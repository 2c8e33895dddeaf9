-- A table, its keeper and its passes, as contracts see them.
use Rattle.std.specs.Prelude.{◌≡◌, ◌⊎◌, ℕ, ◌+◌, ◌-◌, ◌*◌, List, [], ◌++◌, length, Option, Contains}
use mathlib.Core.List.{IsPrefix}
use Rattle.blink_batch.specs.declared.Entry.{Entry}
use Rattle.blink_batch.specs.declared.Op.{Op}
use Rattle.blink_batch.specs.{key_of, map_after, pointer_of}
use Rattle.blink_index.specs.{map_of}
use Rattle.blink_rows.specs.{PlainCounts}
use Rattle.blink_rows.specs.declared.allowance.Allowance.{Allowance}
use Rattle.blink_rows.specs.declared.limits.TheConstants.{MAX_ROWS_PER_INSERT}
use Rattle.blink_page.specs.declared.limits.TheConstants.{MAX_NEW_PAGES_PER_INSERT}
use Rattle.blink_store.specs.{PlainStore}
use Rattle.blink_live.specs.declared.live.Keeper.{Keeper}
use Rattle.blink_live.specs.declared.live.Live.{Live}
use Rattle.blink_live.specs.declared.live.Pass.{Pass}
use Rattle.blink_live.specs.declared.view.Change.{Change}
use Rattle.blink_live.specs.Changes.{after, entries_after, states_of, changes_made}
use Rattle.blink_live.specs.Views.{plan_of, span, rows_of, pages_of}

-- ---- a table

-- the entries that the table was opened with
abbrev pub opening_of : Live → List Entry
opening_of live = map_of live.table.shared.key.index.value

-- the greatest number of entries in a page
abbrev pub fan_of : Live → ℕ
fan_of live = live.fan

-- the number of page numbers and rows of the table
abbrev pub counts_of : Live → PlainCounts
counts_of live = live.counts

-- ---- a pass

-- this table's keeper dealt the pass
abbrev pub IsPassOf : Live → Pass → Type 0
IsPassOf live pass = (pass.seat.table_id ≡ live.table.shared.table_id) × (pass.seat.me.0.plan ≡ plan_of live.table.shared.key)

-- the pass's keys
abbrev pub keys_of : Pass → List ℕ
keys_of pass = pass.keys.items

-- the plain map of the pass's keys
abbrev pub share_of : Pass → List Entry
share_of pass = pass.seat.me.0.share.entries

-- the changes of all keys that the pass has seen, in the order in which they happened
abbrev pub seen_of : Pass → List Change
seen_of pass = pass.seat.me.0.seen

-- the changes that the pass's own operations made, in their order. Before them stand the changes of its keys by the passes that
-- had them earlier. All of these are counted as its own
abbrev pub changes_by : Pass → List Change
changes_by pass = pass.seat.me.0.share.changes

-- the states that these changes gave a key, in their order
abbrev pub own_changes_of : Pass → ℕ → List (Option ℕ)
own_changes_of pass key = states_of key (changes_by pass)

-- the states of a key that the pass has seen, in their order
abbrev pub seen_changes_of : Pass → ℕ → List (Option ℕ)
seen_changes_of pass key = states_of key (seen_of pass)

-- the pass's place: its number among those that the keeper has dealt, by which its changes are known
abbrev pub place_of : Pass → ℕ
place_of pass = pass.seat.me.0.place

-- the number that the pass puts into the latch words of pages: that of the last row that it was dealt; a pass without rows
-- latches no page
abbrev pub latch_number_of : Pass → ℕ
latch_number_of pass = pass.rows.stop - 1

-- one of two lists of changes seen is a prefix of the other
abbrev pub OneIsPrefix : List Change → List Change → Type 0
OneIsPrefix one other = IsPrefix one other ⊎ IsPrefix other one

-- the pass is as it was, except that it may have seen more
pub record IsSameBesideSeen (old new : Pass) : Type 0 where
  pub saw : IsPrefix (seen_of old) (seen_of new)
  pub same_table : new.seat.table_id ≡ old.seat.table_id
  pub same_plan : new.seat.me.0.plan ≡ old.seat.me.0.plan
  pub same_keys : keys_of new ≡ keys_of old
  pub same_share : new.seat.me.0.share ≡ old.seat.me.0.share
  pub same_changes : changes_by new ≡ changes_by old
  pub same_rows : new.rows ≡ old.rows
  pub same_pages : new.pages ≡ old.pages

-- of each of its keys the pass has seen the state that its share has, and exactly the changes that are counted as its own
pub record KnowsItsKeys (live : Live) (pass : Pass) : Type 0 where
  pub state : (key : ℕ) → Contains (keys_of pass) key → after (pointer_of (opening_of live)) (seen_of pass) key ≡ pointer_of (share_of pass) key
  pub changes : (key : ℕ) → Contains (keys_of pass) key → seen_changes_of pass key ≡ own_changes_of pass key

-- of the owner's keys the pass has seen only changes that are counted as the owner's, from the first on
abbrev pub SawPrefixOf : Pass → Pass → Type 0
SawPrefixOf owner pass = (key : ℕ) → Contains (keys_of owner) key → IsPrefix (seen_changes_of pass key) (own_changes_of owner key)

-- and it has seen all of these
abbrev pub SawAllOf : Pass → Pass → Type 0
SawAllOf owner pass = (key : ℕ) → Contains (keys_of owner) key → seen_changes_of pass key ≡ own_changes_of owner key

-- the pass is as it was
pub record IsSamePass (old new : Pass) : Type 0 where
  pub same_table : new.seat.table_id ≡ old.seat.table_id
  pub same_view : new.seat.me ≡ old.seat.me
  pub same_keys : keys_of new ≡ keys_of old
  pub same_share : share_of new ≡ share_of old
  pub same_seen : seen_of new ≡ seen_of old
  pub same_changes : changes_by new ≡ changes_by old
  pub same_rows : new.rows ≡ old.rows
  pub same_pages : new.pages ≡ old.pages

-- an operation of one of the pass's keys has changed its plain map, and has used the rows and page numbers that such an
-- operation takes
pub record IsChangedBy (op : Op) (old new : Pass) : Type 0 where
  pub saw : IsPrefix (seen_of old) (seen_of new)
  pub same_table : new.seat.table_id ≡ old.seat.table_id
  pub same_plan : new.seat.me.0.plan ≡ old.seat.me.0.plan
  pub same_keys : keys_of new ≡ keys_of old
  pub share : share_of new ≡ map_after (share_of old) op
  pub changes : changes_by new ≡ changes_by old ++ changes_made (place_of old) op (pointer_of (share_of old) (key_of op))
  pub rows : new.rows ≡ span (old.rows.next + rows_of op) old.rows.stop
  pub pages : new.pages ≡ span (old.pages.next + pages_of op) old.pages.stop

-- ---- a keeper

-- the keeper came with this table
abbrev pub IsKeeperOf : Live → Keeper → Type 0
IsKeeperOf live keeper = (keeper.seat.table_id ≡ live.table.shared.table_id) × (keeper.seat.me.0.plan ≡ plan_of live.table.shared.key)

-- the keys that the keeper has dealt, without those of passes that came back
abbrev pub taken_of : Keeper → List ℕ
taken_of keeper = keeper.taken.items

-- the number of passes that the keeper has dealt, and of those that are out
abbrev pub passes_dealt : Keeper → ℕ
passes_dealt keeper = keeper.dealt

abbrev pub passes_out : Keeper → ℕ
passes_out keeper = keeper.dealt - keeper.back

-- the changes of all keys that the keeper has seen: those that the passes had seen that came back
abbrev pub seen_by : Keeper → List Change
seen_by keeper = keeper.seat.me.0.seen

-- the opening entries after these changes; a key that the keeper can deal has its state there
abbrev pub known_entries : Live → Keeper → List Entry
known_entries live keeper = entries_after (opening_of live) (seen_by keeper)

-- ---- a new table

-- a table over this tree with room for these changes, and its keeper, which has dealt nothing
pub record IsOpened (store : PlainStore) (allowance : Allowance) (live : Live) (keeper : Keeper) : Type 0 where
  pub same_opening : opening_of live ≡ map_of store
  pub same_fan : fan_of live ≡ store.fan
  pub numbers : (counts_of live).numbers ≡ 1 + length store.pages + MAX_NEW_PAGES_PER_INSERT * allowance.inserts
  pub rows : (counts_of live).rows ≡ 1 + length store.pages + MAX_ROWS_PER_INSERT * allowance.inserts + allowance.deletes
  pub its : IsKeeperOf live keeper
  pub none_taken : taken_of keeper ≡ []
  pub none_dealt : passes_dealt keeper ≡ 0
  pub none_out : passes_out keeper ≡ 0
  pub none_seen : seen_by keeper ≡ []
  pub free_rows : keeper.rows ≡ span (length store.pages + 2) ((counts_of live).rows + 1)
  pub free_pages : keeper.pages ≡ span (length store.pages + 1) (counts_of live).numbers
