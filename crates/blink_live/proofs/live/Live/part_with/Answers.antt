use Rattle.std.proofs.Common.{◌≤◌, List, ℕ, subst, arith}
use Rattle.atomic_table.specs.Table.{Splits}
use Rattle.blink_rows.specs.{PlainCounts}
use Rattle.blink_live.specs.declared.view.View.{View}
use Rattle.blink_live.specs.Parcels.{parcel_of, parts_with}
use Rattle.blink_live.specs.Rule.{IsTable}
use Rattle.blink_live.specs.Views.{plan_of}
use Rattle.blink_live.proofs.handed.PartingKeepsTable.{parting_keeps_table}
use Rattle.blink_live.proofs.live.Live.part_with.Goals as goal

pub split_seat-requires : goal.split_seat-requires
split_seat-requires g c =
    let live = c.args.self.now in
    let key = live.table.shared.key in
    let seat = c.args.seat.now in
    let v : View = seat.me.0 in
    let some_number : 1 ≤ (plan_of key).counts.numbers = subst (λ (counts : PlainCounts). 1 ≤ counts.numbers) live.counts_are live.some_number in (
      c.requires.seat.same_table,
      omega (arith, live.width, live.some_number),
      subst (λ (keys : List ℕ). Splits (IsTable (plan_of key)) seat.id v (parts_with v keys) (parcel_of v keys)) c.requires.picked
          (parting_keeps_table (plan_of key) seat.id v c.args.keys.now some_number c.requires.seat.role c.requires.owned c.requires.yours),
    )
