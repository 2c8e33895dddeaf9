use Rattle.std.proofs.Common.{ℕ, List, ◌≤◌, sym, subst, arith}
use Rattle.atomic_table.specs.Table.{Joins}
use Rattle.blink_rows.specs.{PlainCounts}
use Rattle.blink_live.specs.declared.view.Plan.{Plan}
use Rattle.blink_live.specs.declared.view.View.{View}
use Rattle.blink_live.specs.Rule.{IsTable}
use Rattle.blink_live.specs.Views.{plan_of, retires, spent}
use Rattle.blink_live.proofs.retired.RetiringKeepsTable.{retiring_keeps_table}
use Rattle.blink_live.proofs.live.Live.take_in.Goals as goal

pub join_seat-requires : goal.join_seat-requires
join_seat-requires g c =
    let key = c.args.self.now.table.shared.key in
    let keeper = c.requires.keeper in
    let pass = c.requires.pass in
    let picked = c.requires.picked in
    let v : View = c.args.seat.now.me.0 in
    let w : View = c.args.other.me.0 in
    let some_number : 1 ≤ (plan_of key).counts.numbers = subst (λ (counts : PlainCounts). 1 ≤ counts.numbers) c.args.self.now.counts_are c.args.self.now.some_number in (
      c.requires.tables.0,
      c.requires.tables.1,
      pass.2,
      omega (arith, c.args.self.now.width, c.args.self.now.some_number),
      subst (λ (x : List ℕ × Plan). Joins (IsTable (plan_of key)) c.args.seat.now.id v c.args.other.id w (retires v x.0 w) (spent x.1)) (λ i. (picked.0 i, sym picked.1 i))
          (retiring_keeps_table (plan_of key) c.args.seat.now.id c.args.other.id v w c.args.taken.now keeper.0 keeper.1 some_number keeper.2 c.requires.owned pass.0 pass.1 c.requires.saw.0 c.requires.saw.1 c.requires.free),
    )
