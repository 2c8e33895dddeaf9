use Rattle.std.proofs.Common.{ℕ, List, subst, arith}
use Rattle.blink_live.specs.Dealing.{CanDeal}
use Rattle.blink_live.specs.Views.{plan_of}
use Rattle.blink_live.proofs.dealt.DealsKeepTable.{deals_keep_table}
use Rattle.blink_live.proofs.live.Live.split_seat.Goals as goal

pub split_seat-requires : goal.split_seat-requires
split_seat-requires g c =
    let seat = c.args.seat.now in
    let picked = c.requires.picked in
    let live = c.args.self.now in (
      c.requires.same_table,
      omega (arith, live.width, live.some_number),
      deals_keep_table (plan_of live.table.shared.key) seat.id seat.me.0 g.B.Dealt.rows g.B.Dealt.pages g.B.Dealt.keys g.B.Dealt.taken
          (subst (λ (x : List ℕ × (List ℕ × (ℕ × ℕ))). CanDeal seat.me.0 x.1.1.0 x.1.1.1 x.0 x.1.0) (λ i. (picked.0 i, (picked.1 i, (picked.2 i, picked.3 i)))) c.requires.can),
    )
