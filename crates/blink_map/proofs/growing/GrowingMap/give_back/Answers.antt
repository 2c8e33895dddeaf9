use Rattle.std.proofs.Common.{ℕ, Option, List, sym, ap, subst, arith}
use mathlib.Core.Option.{none}
use Rattle.atomic_table.specs.Seated.{TableId}
use Rattle.atomic_table.specs.Table.{step, rest, Allows}
use Rattle.blink_index.specs.{map_of}
use Rattle.blink_map.specs.declared.slots.Current.{Current}
use Rattle.blink_map.specs.Rule.{IsGrowing, SlotSeat, word_of}
use Rattle.blink_map.specs.Steps.{gives_back}
use Rattle.blink_map.proofs.SlotIsGiven.{slot_is_given}
use Rattle.blink_map.proofs.growing.GrowingMap.give_back.Goals as goal

pub store-requires : goal.store-requires
store-requires c =
    let map = c.args.self.now in
    let first = map_of map.table.shared.key.index.value in
    let slots : ℕ = map.table.shared.table_id.slots in
    let inside = c.requires.in_range in
    let same = ap (λ (t : TableId). t.slots) c.requires.its_own in
    let words = map.words in
    let slot : ℕ = c.args.slot in
    let me : SlotSeat = c.args.seat.now.me in
    let can = c.requires.can in (
      c.requires.its_own,
      omega (arith, words, inside, same),
      subst (λ (l : List (ℕ × Option Current)). Allows (IsGrowing first) slots c.args.seat.now.id (me.0, l) (word_of slot) (λ n. 0) (λ n. gives_back (step slots (word_of slot) 0 0 none) (me.0, l) 0)) (sym can.there)
          (slot_is_given first slots c.args.seat.now.id slot me.0 can.held (rest me.1) can.can),
    )
