-- Tables whose keys any seat changes.
use Rattle.std.specs.Prelude.{◌≡◌, ℕ, ◌+◌, ◌≤◌, [], length}
use Rattle.atomic_table.specs.declared.Seat.{Seat}
use Rattle.blink_index.specs.{map_of}
use Rattle.blink_store.specs.{PlainStore}
use Rattle.blink_generation.specs.declared.common.Extent.{Extent}
use Rattle.blink_live.specs.declared.live.Live.{Live}
use Rattle.blink_live.specs.declared.view.Role.TheVariants.{Keeper}
use Rattle.blink_live.specs.declared.view.View.{View}
use Rattle.blink_live.specs.{back_in, counts_of, dealt_in, fan_of, first_view, opening_of, plan_of}

-- the seat is that of the table's host: a keeper's, in a common table
pub record IsHost (live : Live) (seat : Seat ℕ View) : Type 0 where
  pub same_table : seat.table_id ≡ live.table.shared.table_id
  pub same_plan : seat.me.0.plan ≡ plan_of live.table.shared.key
  pub role : seat.me.0.role ≡ Keeper (dealt_in seat.me.0.role) (back_in seat.me.0.role)
  pub some_place : 1 ≤ live.places

-- a common table over this tree, with such an extent, and its host's seat
pub record IsOpenedCommon (store : PlainStore) (extent : Extent) (live : Live) (seat : Seat ℕ View) : Type 0 where
  pub same_opening : opening_of live ≡ map_of store
  pub same_fan : fan_of live ≡ store.fan
  pub numbers : (counts_of live).numbers ≡ 1 + length store.pages + extent.pages
  pub rows : (counts_of live).rows ≡ 1 + length store.pages + extent.rows
  pub places : live.places ≡ extent.places
  pub host : IsHost live seat
  pub first : seat.me ≡ (first_view (length store.pages) (plan_of live.table.shared.key), [])
