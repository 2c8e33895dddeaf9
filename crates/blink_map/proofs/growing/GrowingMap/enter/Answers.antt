use Rattle.std.proofs.Common.{[], sym, subst, arith, ℕ}
use Rattle.atomic_table.specs.Table.{step, Enters}
use Rattle.blink_index.specs.{map_of}
use mathlib.Core.Option.{none}
use Rattle.blink_map.specs.Rule.{IsGrowing, opener}
use Rattle.blink_map.specs.Steps.{enters}
use Rattle.blink_map.proofs.SeatsChange.{seat_enters}
use Rattle.blink_map.proofs.growing.GrowingMap.enter.Goals as goal

pub load_new_seat-seat-requires : goal.load_new_seat-seat-requires
load_new_seat-seat-requires c =
    let map = c.args.self.now in
    let first = map_of map.table.shared.key.index.value in
    let slots : ℕ = map.table.shared.table_id.slots in (
      omega (arith, map.words, map.some_slot),
      subst (λ (n : ℕ). Enters (IsGrowing first) slots 0 (λ k w. enters (step slots 0 0 0 none) (opener first n, []) k (w, []))) (sym map.all_slots) (seat_enters first slots),
    )
