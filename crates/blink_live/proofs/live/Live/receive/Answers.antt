use Rattle.std.proofs.Common.{ℕ, List, ◌≤◌, sym, subst, arith}
use Rattle.atomic_table.specs.Table.{Joins}
use Rattle.blink_rows.specs.{PlainCounts}
use Rattle.blink_live.specs.declared.view.Plan.{Plan}
use Rattle.blink_live.specs.declared.view.View.{View}
use Rattle.blink_live.specs.Parcels.{receives}
use Rattle.blink_live.specs.Rule.{IsTable}
use Rattle.blink_live.specs.Views.{plan_of, spent}
use Rattle.blink_live.proofs.handed.ReceivingKeepsTable.{receiving_keeps_table}
use Rattle.blink_live.proofs.live.Live.receive.Goals as goal

pub join_seat-requires : goal.join_seat-requires
join_seat-requires g c =
    let key = c.args.self.now.table.shared.key in
    let parcel = c.requires.parcel in
    let picked = c.requires.picked in
    let v : View = c.args.seat.now.me.0 in
    let w : View = c.args.parcel.me.0 in
    let some_number : 1 ≤ (plan_of key).counts.numbers = subst (λ (counts : PlainCounts). 1 ≤ counts.numbers) c.args.self.now.counts_are c.args.self.now.some_number in (
      c.requires.seat.same_table,
      c.requires.same_table,
      parcel.2,
      omega (arith, c.args.self.now.width, c.args.self.now.some_number),
      subst (λ (x : List ℕ × Plan). Joins (IsTable (plan_of key)) c.args.seat.now.id v c.args.parcel.id w (receives v x.0 w) (spent x.1)) (λ i. (picked.0 i, sym picked.1 i))
          (receiving_keeps_table (plan_of key) c.args.seat.now.id c.args.parcel.id v w c.args.keys.now some_number c.requires.owned parcel.0 parcel.1 c.requires.keys),
    )
